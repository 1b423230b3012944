-- Between the first and the last time, in order.
use Rattle.ruler.proofs.Shares.{between_both}
use Rattle.ruler.proofs.Ruler.spans.Goals as goal

pub returns : goal.returns
returns c = rw (c.args.self.first_is, c.args.self.last_is) (between_both c.args.self.numbers c.args.start c.args.end)
