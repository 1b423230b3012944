-- How many slots of one half a trip can have, and which of them the walk visits at a level.
use Rattle.std.specs.Prelude.{◌≡◌, List, ◌++◌, ℕ, ◌+◌, ◌*◌, ◌^◌, ◌≤◌, eqb, length}
use Rattle.std.proofs.lemmas.List.Edits.{sets}
use Rattle.ruler.specs.declared.Cell.{Cell}
use Rattle.ruler.specs.Ruler.{deepest, parity, first_of_two}
use Rattle.layout.specs.declared.Half.{Half}
use Rattle.store.specs.TripWalk.{visit}

-- two of each of the levels 0 to `deepest`
abbrev pub most_slots : ℕ
most_slots = 2 * (deepest + 1)

-- cells of one level; lo and hi may be one past its last
pub record Level (lo hi first last : Cell) : Type 0 where
  pub deep : lo.0 ≤ deepest
  pub high_level : hi.0 ≡ lo.0
  pub first_level : first.0 ≡ lo.0
  pub last_level : last.0 ≡ lo.0
  pub low : lo.1 ≤ 2 ^ lo.0
  pub high : hi.1 ≤ 2 ^ lo.0

-- n slots stood in `spots` and r stand in `after`: those of v came behind them
pub record Wrote (v spots : List ℕ) (n r : ℕ) (after : List ℕ) : Type 0 where
  pub many : r ≡ n + length v
  pub words : after ≡ sets spots n v

-- the slots that the walk visits at a level, of which the partitions from lo on, up to hi, lie in the cells of a trip, there first .. last
unfoldable pub visits_at : Half → (lo hi first last : Cell) → List ℕ
visits_at h lo hi first last =
    visit h (eqb (parity lo) 1) lo.0 lo.1 first.1 last.1
    ++ visit h (eqb (parity hi) 1) hi.0 (first_of_two hi).1 first.1 last.1
