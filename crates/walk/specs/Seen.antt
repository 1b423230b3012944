-- The same of the words that a walk is handed as one: what a look, a level and all levels of a plan meet in them.
use Rattle.std.specs.Prelude.{List, ℕ}
use Rattle.trip.specs.declared.Trip.{Trip}
use Rattle.store.specs.declared.words.Words.{Words}
use Rattle.plan.specs.declared.bounds.Bounds.{Bounds}
use Rattle.plan.specs.declared.range.Plan.{Plan}
use Rattle.plan.specs.declared.sought.Sought.{Sought}
use Rattle.plan.specs.declared.stretches.Stretches.{Stretches}
use Rattle.plan.specs.declared.looks.Look.{Look}
use Rattle.plan.specs.Sought.{is_sought}
use Rattle.walk.specs.Levels.{part_of, LookThere, LevelThere, level_matches, LevelsThere, walk_matches}

abbrev pub part_seen : Bounds → Words → Look → List ℕ
part_seen b x l = part_of b x.directory.now x.originals.now x.replicas.now l

abbrev pub LookSeen : Words → Look → Type 0
LookSeen x l = LookThere x.directory.now x.originals.now x.replicas.now l

abbrev pub LevelSeen : Words → Stretches → Type 0
LevelSeen x s = LevelThere x.directory.now x.originals.now x.replicas.now s

abbrev pub level_seen : Sought → Words → Stretches → List Trip
level_seen w x s = level_matches (is_sought w) x.directory.now x.originals.now x.replicas.now s

abbrev pub LevelsSeen : Words → Plan → Type 0
LevelsSeen x p = LevelsThere x.directory.now x.originals.now x.replicas.now p

abbrev pub levels_seen : Sought → Words → Plan → List Trip
levels_seen w x p = walk_matches (is_sought w) x.directory.now x.originals.now x.replicas.now p
