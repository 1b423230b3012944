-- So many bytes from the place on are no space.
-- Assumes nothing.
use Rattle.std.proofs.Common.{ℕ, ◌≡◌, rules, tests, drop}
use mathlib.Core.Path.{sym, ap, ◌∙◌}
use lib.Dec.{eqb}
use Rattle.std.specs.Prelude.{not}
use Rattle.std.proofs.lemmas.Iterator.{YieldsList-from_slice}
use Rattle.std.proofs.lemmas.Iterator.Search.{YieldsList-from_take_while}
use Rattle.std.proofs.lemmas.Iterator.Consumers.{count_from_yields_List}
use Rattle.std.proofs.lemmas.List.{drop_min}
use Rattle.std.proofs.lemmas.List.Folds.{length-prefix_len}
use Prim.Native.Nat.{◌+◌}
use Rattle.lists.proofs.Lent.{tail_lent}
use Rattle.text.proofs.Parting.{until-prefix}
use Rattle.text.specs.Bytes.{space, place_of}
use Rattle.text.proofs.field_end.Goals as goal

pub returns : goal.returns
unfolding place_of
returns c =
    let a = c.args in
    let rest = drop a.from a.bytes.now in
    let from : c.iter.result.rest.now ≡ rest =
    c.iter.ensures.rest ∙ tail_lent a.bytes.now c.min.result ∙ ap (λ (i : ℕ). drop i a.bytes.now) c.min.ensures ∙ drop_min a.from a.bytes.now in
    let counted = count_from_yields_List c.take_while.result c.count.result c.count.ensures.ran
    (YieldsList-from_take_while _ (λ b. not (eqb b space)) (YieldsList-from_slice rest (cc))
    c.take_while.ensures.closure c.take_while.ensures.done (λ x b q k. search (rules, tests))) in
    ap (λ n. a.from + n) (counted ∙ length-prefix_len (λ b. not (eqb b space)) rest ∙ sym (until-prefix space rest))
