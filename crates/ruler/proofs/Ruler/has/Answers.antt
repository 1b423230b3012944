-- Between the first and the last time.
use Rattle.ruler.proofs.Shares.{between}
use Rattle.ruler.proofs.Ruler.has.Goals as goal

pub returns : goal.returns
returns c = rw (c.args.self.first_is, c.args.self.last_is) (between c.args.self.numbers c.args.t)
