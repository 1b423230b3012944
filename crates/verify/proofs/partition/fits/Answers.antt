-- The ruler has both times, in order, and some day is set.
use Rattle.layout.proofs.Chains.{fits_said}
use Rattle.verify.proofs.partition.fits.Goals as goal

pub returns : goal.returns
returns c = fits_said _ c.args.t c.spans.ensures c.never_runs.ensures
