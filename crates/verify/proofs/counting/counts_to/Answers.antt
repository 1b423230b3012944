-- Each trip fits, so that the sum is asked for.
use Rattle.lists.proofs.Tests.{to_T}
use Rattle.ruler.specs.Made.{scale}
use Rattle.layout.specs.Refusals.{fits}
use Rattle.layout.proofs.Chains.{of_fits}
use Rattle.verify.specs.Local.{counts_to}
use Rattle.verify.proofs.LoopTurns.{each_row}
use Rattle.verify.proofs.counting.counts_to.Goals as goal

pub entries_of_all-requires-clause-fit : goal.entries_of_all-requires-clause-fit
entries_of_all-requires-clause-fit c k h = of_fits _ _ (to_T (each_row c.args.part.now (fits (scale c.args.ruler)) c.requires.1 k h))

pub returns : goal.returns
unfolding counts_to
returns c = rw (c.requires.1, c.entries_of_all.ensures)
