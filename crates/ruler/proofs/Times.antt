-- The order of times that Rust's operators answer is that of the definitions. `<` and `<=` answer by what the impl of PartialOrd says of its
-- comparison, and `==` by what that of PartialEq says.
use Rattle.std.proofs.Common.{◌≡◌, refl, arith, rules, is_lt, is_le, nat_cmp}
use Rattle.std.specs.Ordering.{partial_lt, partial_le}
use Rattle.std.proofs.Math.Dec.{eqb}
use Rattle.ruler.specs.declared.Time.{Time}
use Rattle.ruler.specs.contracts.TimePartialEq.TheImpl as alike
use Rattle.ruler.specs.contracts.TimePartialOrd.TheImpl as compared
use Rattle.ruler.specs.Ruler.{before, same_time, no_later}

pub lt-before : (s t : Time) → partial_lt (compared.ghosts).partial_cmp s t ≡ before s t
lt-before s t = search rules

pub eq-same : (s t : Time) → (alike.ghosts).eq s t ≡ same_time s t
eq-same s t = search rules

pub le-no_later : (s t : Time) → partial_le (compared.ghosts).partial_cmp s t ≡ no_later s t
le-no_later s t = grind arith

-- the same of the numbers of the times
pub number_lt : (s t : Time) → is_lt (nat_cmp s.0 t.0) ≡ before s t
number_lt s t = search rules

pub number_eq : (s t : Time) → eqb s.0 t.0 ≡ same_time s t
number_eq s t = refl

pub number_le : (s t : Time) → is_le (nat_cmp s.0 t.0) ≡ no_later s t
number_le s t = grind arith
