-- The refusal of the opening is that of the run; else the slot decides.
use Rattle.std.proofs.Common.{sym, ap, ◌∙◌, Ok, Err}
use Rattle.std.proofs.lemmas.Result.{err_from_is_err_and}
use Rattle.store.specs.WordsLent.{index_of}
use Rattle.verify.proofs.Opening.{opened}
use Rattle.view.proofs.ViewEntries.{place_shut, place_nowhere, slot-named, slot-there, place_there}
use Rattle.view.proofs.run_place.Goals as goal

pub returns-in_err-ruler : goal.returns-in_err-ruler
returns-in_err-ruler c =
    let a = c.args in
    let x = index_of a.words in
    let why = err_from_is_err_and c.from_residual.result c.from_residual.ensures.1 in
    rw (why.1, why.2) (place_shut a.numbers x a.level a.partition a.subdivision _ c.open.ensures c.in_err-ruler.was)

pub returns-then-no_such_slot : goal.returns-then-no_such_slot
returns-then-no_such_slot c =
    let a = c.args in
    let x = index_of a.words in
    let w = opened a.numbers x c.in_ok-ruler.ruler c.open.ensures c.in_ok-ruler.was in
    ap Err c.into.ensures ∙ place_nowhere a.numbers x a.level a.partition a.subdivision c.in_ok-ruler.ruler w
    (sym c.no_such_slot.ensures ∙ c.if-no_such_slot.true)

pub slot_at-requires : goal.slot_at-requires
slot_at-requires c =
    let a = c.args in
    let x = index_of a.words in
    let w = opened a.numbers x c.in_ok-ruler.ruler c.open.ensures c.in_ok-ruler.was in
    slot-named a.numbers x a.level a.partition a.subdivision c.in_ok-ruler.ruler w
    (sym c.no_such_slot.ensures ∙ c.if-no_such_slot.false) _ c.bottom.ensures

pub slot_place-requires : goal.slot_place-requires
slot_place-requires c =
    let a = c.args in
    let x = index_of a.words in
    let w = opened a.numbers x c.in_ok-ruler.ruler c.open.ensures c.in_ok-ruler.was in
    slot-there a.numbers x a.level a.partition a.subdivision c.in_ok-ruler.ruler w
    (sym c.no_such_slot.ensures ∙ c.if-no_such_slot.false) _
    c.numbered-d.ensures _ _ c.bottom.ensures c.slot_at.ensures

pub returns : goal.returns
returns c =
    let a = c.args in
    let x = index_of a.words in
    let w = opened a.numbers x c.in_ok-ruler.ruler c.open.ensures c.in_ok-ruler.was in
    ap Ok c.slot_place.ensures ∙ place_there a.numbers x a.level a.partition a.subdivision c.in_ok-ruler.ruler w
    (sym c.no_such_slot.ensures ∙ c.if-no_such_slot.false) _
    c.numbered-d.ensures _ _ c.bottom.ensures
    c.slot_at.ensures
