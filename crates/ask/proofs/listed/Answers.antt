-- What is sought and the plan are the question's; what the walk lists, sorted, is the answer.
use mathlib.Core.Path.{sym, ap, ◌∙◌}
use mathlib.Core.List.{List}
use Prim.Native.Nat.{ℕ, ◌-◌, ◌*◌}
use lib.ListN.{length, get_or}
use Rattle.lists.specs.Lists.{ascending}
use Rattle.trip.specs.declared.Trip.{Trip}
use Rattle.layout.specs.Words.{partitions}
use Rattle.layout.specs.Refusals.{room_test}
use Rattle.store.specs.WordsLent.{index_of}
use Rattle.layout.proofs.Chains.{of_room}
use Rattle.layout.proofs.RulerCells.{deep-ruler}
use Rattle.store.specs.Entries.{ids}
use Rattle.ask.specs.Chain.{listed_of}
use Rattle.walk.proofs.Written.{listed-length}
use Rattle.ask.proofs.Questions.{window_near, listing_answer, listing_length, listing_few, trips_few, trips_word, trips_in, same-there, same_listing}
use Rattle.ask.proofs.Endings.{ends_refused, ends-accepted, sorted_over}
use native.Mathlib.Omega.{arith}
use borrow.Author.Rules.{rules}
use Rattle.std.proofs.lemmas.Result.{err_from_is_err_and}
use Rattle.ask.proofs.listed.Goals as goal

pub sought_by-sought-requires : goal.sought_by-sought-requires
sought_by-sought-requires c =
    let g = c.args in
    let x = index_of g.words in
    window_near g.ruler x c.requires.indexed g.question c.requires.on_ruler

pub trips_of-trips-requires : goal.trips_of-trips-requires
trips_of-trips-requires c =
    let g = c.args in
    let x = index_of g.words in
    let deep = deep-ruler g.ruler in
    rw c.bottom.ensures (deep, trips_in g.ruler x c.requires.indexed g.question c.requires.on_ruler)

pub room_for-requires : goal.room_for-requires
room_for-requires c =
    let g = c.args in
    let x = index_of g.words in
    let same = same_listing g.ruler x c.requires.indexed g.question c.requires.on_ruler c.sought_by-sought.ensures
    c.plan_for-plan.ensures in
    let trips = c.trips_of-trips.ensures ∙ ap (λ (m : ℕ). get_or g.words.directory.now (2 * partitions m) 0) c.bottom.ensures
    ∙ trips_word g.ruler x c.requires.indexed g.question c.requires.on_ruler in
    let few = listing_few g.ruler x c.requires.indexed g.question c.requires.on_ruler in
    let most = trips_few g.ruler x c.requires.indexed g.question c.requires.on_ruler in record { levels_there = same-there g.ruler x c.requires.indexed g.question c.requires.on_ruler c.plan_for-plan.ensures; few_matches = (omega (arith, ap length same), omega arith) }

pub returns-in_err-room_for : goal.returns-in_err-room_for
unfolding listed_of
returns-in_err-room_for c =
    let g = c.args in
    let x = index_of g.words in
    let same = same_listing g.ruler x c.requires.indexed g.question c.requires.on_ruler c.sought_by-sought.ensures c.plan_for-plan.ensures in
    let long = ap length same ∙ listing_length g.ruler x c.requires.indexed g.question c.requires.on_ruler in
    let room = ap (λ (n : ℕ). room_test n (length g.answers.now)) (sym long) ∙ sym c.room_for.ensures ∙ c.in_err-room_for.was in
    let why = err_from_is_err_and c.from_residual.result c.from_residual.ensures.1 in
    rw (why.1, why.2) (ends_refused _ _ _ room)

pub list_levels-count-requires : goal.list_levels-count-requires
list_levels-count-requires c =
    let g = c.args in
    let x = index_of g.words in
    let same = same_listing g.ruler x c.requires.indexed g.question c.requires.on_ruler
    c.sought_by-sought.ensures
    c.plan_for-plan.ensures in
    let told = c.in_ok-room_for.was in
    let room = c.room_for.ensures in record {
      levels_there = same-there g.ruler x c.requires.indexed g.question c.requires.on_ruler
          c.plan_for-plan.ensures;
      room = of_room _ _ (sym room ∙ told);
    }

pub slice_bounds-sort_ids-end : goal.slice_bounds-sort_ids-end
slice_bounds-sort_ids-end c =
    let l = c.list_levels-count.ensures in
    let fits = of_room _ _ (sym c.room_for.ensures
    ∙ c.in_ok-room_for.was) in
    let long = listed-length l fits in
    let n = l.counted in
    search rules

pub overflow_cast-result : goal.overflow_cast-result
overflow_cast-result c =
    let g = c.args in
    let x = index_of g.words in
    let same = same_listing g.ruler x c.requires.indexed g.question c.requires.on_ruler
    c.sought_by-sought.ensures c.plan_for-plan.ensures in
    let few = listing_few g.ruler x c.requires.indexed g.question c.requires.on_ruler in
    let most = trips_few g.ruler x c.requires.indexed g.question c.requires.on_ruler in
    omega (arith, ap length same, c.list_levels-count.ensures.counted)

pub returns : goal.returns
returns c =
    let g = c.args in
    let x = index_of g.words in
    let same = same_listing g.ruler x c.requires.indexed g.question c.requires.on_ruler
    c.sought_by-sought.ensures c.plan_for-plan.ensures in
    let told = c.in_ok-room_for.was in
    let room = c.room_for.ensures in
    let long = ap length same ∙ listing_length g.ruler x c.requires.indexed g.question c.requires.on_ruler in
    let l = c.list_levels-count.ensures in
    let over = sorted_over _ {k = c.list_levels-count.result - 0} l (omega arith)
    (ap (λ (ts : List Trip). ascending (ids ts)) same ∙ listing_answer g.ruler x c.requires.indexed g.question c.requires.on_ruler)
    c.sort_ids.ensures in
    ends-accepted _ _ (ap (λ (n : ℕ). room_test n (length g.answers.now)) (sym long) ∙ sym room ∙ told) (l.counted ∙ long) over
