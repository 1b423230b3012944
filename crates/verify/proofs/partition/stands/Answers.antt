-- A trip that fits has its times on the ruler.
use mathlib.Core.Path.{sym, ◌∙◌}
use mathlib.Core.Bool.{true≢false}
use Rattle.lists.proofs.Tests.{to_T}
use Rattle.layout.proofs.Chains.{of_fits}
use Rattle.verify.proofs.partition.stands.Goals as goal
use Rattle.verify.proofs.partition.stands.Goals.{then-fits, else-fits}

pub bottom_cell-requires : goal.bottom_cell-requires
bottom_cell-requires c = (of_fits _ _ (to_T (sym c.fits.ensures ∙ c.if-fits.true))).times.starts

pub bottom_cell-requires-then-has : goal.bottom_cell-requires-then-has
bottom_cell-requires-then-has c =
    elim c.if-fits.branch [
      | then-fits w ↦ (of_fits _ _ (to_T (sym c.fits.ensures ∙ w.if-fits.true))).times.ends
      | else-fits w ↦ absurd (true≢false (sym c.if-has.true ∙ w.value-is ∙ w.if-fits.false))
    ]
