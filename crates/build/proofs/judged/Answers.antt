-- One link of the chain after another.
use Rattle.std.proofs.Common.{Err}
use Rattle.std.proofs.lemmas.Result.{err_from_is_err_and}
use mathlib.Core.Path.{sym, ap, ◌∙◌}
use Rattle.layout.specs.Words.{directory_length}
use Rattle.layout.specs.Refusals.{bad_size}
use Rattle.layout.proofs.RulerCells.{deep-ruler}
use Rattle.build.proofs.Says.{says_2, says_3, says_bad, tested, says_7, says_0}
use native.Mathlib.Omega.{arith}
use Rattle.build.proofs.judged.Goals as goal

pub returns-then-words : goal.returns-then-words
unfolding bad_size
returns-then-words c =
    let a = c.args in
    ap Err c.into.ensures ∙ says_2 a.ruler a.table.now a.directory a.originals a.replicas c.if-words.true

pub directory_length-requires : goal.directory_length-requires
directory_length-requires c =
    omega (arith, c.bottom.ensures, deep-ruler c.args.ruler)

pub returns-then-directory-directory_length : goal.returns-then-directory-directory_length
unfolding bad_size
returns-then-directory-directory_length c =
    let a = c.args in
    let long = c.directory_length.ensures ∙ ap directory_length c.bottom.ensures in
    ap Err c.into-then-directory-directory_length.ensures ∙ says_3 a.ruler a.table.now a.directory a.originals a.replicas c.if-words.false (λ e. c.if-directory-directory_length.true (e ∙ sym long))

pub returns-in_err-rows_outcome : goal.returns-in_err-rows_outcome
unfolding bad_size
returns-in_err-rows_outcome c =
    let a = c.args in
    let long = c.if-directory-directory_length.false ∙ c.directory_length.ensures
    ∙ ap directory_length c.bottom.ensures in
    let why = err_from_is_err_and c.from_residual.result c.from_residual.ensures.1 in
    rw (why.1, why.2) (says_bad a.ruler a.table.now a.directory a.originals a.replicas
    c.if-words.false long _ c.rows_outcome.ensures _ c.in_err-rows_outcome.was)

pub lacks_room-requires : goal.lacks_room-requires
unfolding bad_size
lacks_room-requires c =
    let a = c.args in
    let long = c.if-directory-directory_length.false ∙ c.directory_length.ensures
    ∙ ap directory_length c.bottom.ensures in
    let fine = c.in_ok-rows_outcome.was in
    tested a.ruler a.table.now a.directory a.originals a.replicas c.if-words.false long _ c.rows_outcome.ensures fine

pub returns-then-lacks_room : goal.returns-then-lacks_room
unfolding bad_size
returns-then-lacks_room c =
    let a = c.args in
    let long = c.if-directory-directory_length.false
    ∙ c.directory_length.ensures
    ∙ ap directory_length c.bottom.ensures in
    let fine = c.in_ok-rows_outcome.was in
    ap Err c.into-then-lacks_room.ensures ∙ says_7 a.ruler a.table.now a.directory a.originals a.replicas c.if-words.false long _
    c.rows_outcome.ensures fine
    (sym c.lacks_room.ensures ∙ c.if-lacks_room.true)

pub returns : goal.returns
unfolding bad_size
returns c =
    let a = c.args in
    let long = c.if-directory-directory_length.false ∙ c.directory_length.ensures
    ∙ ap directory_length c.bottom.ensures in
    let fine = c.in_ok-rows_outcome.was in
    says_0 a.ruler a.table.now a.directory a.originals a.replicas c.if-words.false long _ c.rows_outcome.ensures fine
    (sym c.lacks_room.ensures ∙ c.if-lacks_room.false)
