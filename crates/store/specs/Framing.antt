-- "1, 3": they accept, and there is a ruler with a directory of its length; or they refuse, and so does the call.
use Rattle.std.specs.Prelude.{ℕ, Result}
use Rattle.ruler.specs.declared.Numbers.{Numbers}
use Rattle.ruler.specs.declared.Ruler.{Ruler}
use Rattle.ruler.specs.Ruler.{scale_of}
use Rattle.ruler.specs.Made.{judge}
use Rattle.layout.specs.declared.Refusal.{Refusal}
use Rattle.layout.specs.Outcomes.{Accepted, ruler_if}
use Rattle.layout.specs.Refusals.{frame_tests}

unfoldable pub framed_of : Numbers → (directory : ℕ) → Result Ruler Refusal
framed_of n k = ruler_if (judge n) (frame_tests (scale_of n) k Accepted)
