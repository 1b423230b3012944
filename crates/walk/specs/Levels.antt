-- What the looks of a level meet in the words of an index, and those of all levels of a plan.
use Rattle.std.specs.Prelude.{◌≡◌, Bool, false, cond, List, ℕ, ◌-◌, ◌+◌, ◌≤◌, ◌<◌, eqb, get_or}
use Rattle.lists.specs.Lists.{joined}
use Rattle.trip.specs.declared.Trip.{Trip}
use Rattle.store.specs.Parts.{arena_of, part_words, PartThere}
use Rattle.plan.specs.declared.bounds.Bounds.{Bounds}
use Rattle.plan.specs.declared.range.Plan.{Plan}
use Rattle.plan.specs.declared.stretches.Stretches.{Stretches}
use Rattle.plan.specs.declared.looks.Look.{Look}
use Rattle.plan.specs.Plan.{Ranged, stretches_at}
use Rattle.plan.specs.Looks.{looks, original_looks, look_at}
use Rattle.walk.specs.Part.{stretch_matches}
use Rattle.walk.specs.Cut.{Ordered, cut_of}

-- ---- one look

-- its words; what is left to test of them; and its matches
unfoldable pub look_words : (directory originals replicas : List ℕ) → Look → List ℕ
look_words d o r l = part_words d (arena_of l.half o r) l.stretch.from l.stretch.to

unfoldable pub part_of : Bounds → (directory originals replicas : List ℕ) → Look → List ℕ
part_of b d o r l = cond l.stretch.sure (look_words d o r l) (cut_of l.order b (look_words d o r l))

unfoldable pub look_matches : (Bool → Trip → Bool) → (directory originals replicas : List ℕ) → Look → List Trip
look_matches t d o r l = stretch_matches t d (arena_of l.half o r) l.stretch

-- its words are there, and in its order where they are tested
pub record LookThere (d o r : List ℕ) (l : Look) : Type 0 where
  pub there : PartThere d (arena_of l.half o r) l.stretch.from l.stretch.to
  pub ordered : l.stretch.sure ≡ false → Ordered l.order (look_words d o r l)

-- ---- the looks of a level

abbrev pub level_look : (Bool → Trip → Bool) → (directory originals replicas : List ℕ) → Stretches → (k : ℕ) → List Trip
level_look t d o r s k = look_matches t d o r (look_at s k)

unfoldable pub level_matches : (Bool → Trip → Bool) → (directory originals replicas : List ℕ) → Stretches → List Trip
level_matches t d o r s = joined (level_look t d o r s) looks

-- all are there, and those at the originals stand side by side
pub record LevelThere (d o r : List ℕ) (s : Stretches) : Type 0 where
  pub there : (k : ℕ) → k < looks → LookThere d o r (look_at s k)
  pub first_between : s.first.to ≡ s.between.from
  pub between_last : s.between.to ≡ s.last.from

-- from which look on, and up to which, there may be entries: a half whose looks have none is left out
unfoldable pub looks_from : Stretches → (directory : List ℕ) → ℕ
looks_from s d = cond (eqb (get_or d s.first.from 0) (get_or d s.last.to 0)) original_looks 0

unfoldable pub looks_to : Stretches → (directory : List ℕ) → ℕ
looks_to s d = cond (eqb (get_or d s.replicas.from 0) (get_or d s.replicas.to 0)) original_looks looks

-- ---- all levels of a plan, from the deepest up

abbrev pub level_up : (Bool → Trip → Bool) → (directory originals replicas : List ℕ) → Plan → (up : ℕ) → List Trip
level_up t d o r p up = level_matches t d o r (stretches_at p (p.low.0 - up))

abbrev pub walk_matches : (Bool → Trip → Bool) → (directory originals replicas : List ℕ) → Plan → List Trip
walk_matches t d o r p = joined (level_up t d o r p) (p.low.0 + 1)

pub record LevelsThere (d o r : List ℕ) (p : Plan) : Type 0 where
  pub ranged : Ranged p.low.0 p
  pub there : (L : ℕ) → L ≤ p.low.0 → LevelThere d o r (stretches_at p L)
