-- A ruler as it is made: of numbers that are in bounds. Its ghost fields say so of every ruler, and what it keeps beside them (the law `ruler_is`).
use Rattle.std.specs.Prelude.{◌≡◌, refl, Bool, true, false, Option, Some, None}
use Rattle.ruler.specs.declared.Numbers.{Numbers}
use Rattle.ruler.specs.declared.Ruler.{Ruler}
use Rattle.ruler.specs.Ruler.{Scale, in_bounds, scale_of, first_time_of, last_time_of, share_of}

abbrev pub scale : Ruler → Scale
scale r = scale_of r.numbers

-- the ruler of numbers that are in bounds
abbrev pub ruler_of : (n : Numbers) → in_bounds n ≡ true → Ruler
ruler_of n good = record {
  numbers = n;
  first = first_time_of n;
  last = last_time_of n;
  share = share_of n;
  good = good;
  first_is = refl;
  last_is = refl;
  share_is = refl;
}

unfoldable pub judge_by : (n : Numbers) (b : Bool) → in_bounds n ≡ b → Option Ruler
judge_by n true good = Some (ruler_of n good)
judge_by n false bad = None

-- the ruler of some numbers; none where they are out of bounds
unfoldable pub judge : Numbers → Option Ruler
judge n = judge_by n (in_bounds n) refl
