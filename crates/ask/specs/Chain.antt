-- What a question to an index answers, link by link from the end of its chain.
use Rattle.std.specs.Prelude.{List, ℕ, length}
use Rattle.lists.specs.Lists.{over}
use Rattle.ruler.specs.Ruler.{Scale}
use Rattle.trip.specs.declared.Trip.{Trip}
use Rattle.trip.specs.declared.Asking.{Asking}
use Rattle.layout.specs.Outcomes.{Outcome}
use Rattle.layout.specs.Answers.{answer_to}
use Rattle.layout.specs.Refusals.{question_tests, room_test}
use Rattle.layout.specs.Calls.{if_accepted, Asked, asked}

-- the ids over the list where the outcome accepts; and the list as found, with count 0, where it refuses
unfoldable pub answered_as : Outcome → (ids list : List ℕ) → Asked
answered_as o ids list = asked o (if_accepted o (length ids) 0) (if_accepted o (over ids list) list)

-- 7 alone: a question that was judged
unfoldable pub listed_of : (ids list : List ℕ) → Asked
listed_of ids list = answered_as (room_test (length ids) (length list)) ids list

-- 9, 4, 5, 17, 7: a question to the table of an index
unfoldable pub answer_of : Scale → List Trip → Asking → (list : List ℕ) → Asked
answer_of s ts q list = let ids = answer_to q ts in answered_as (question_tests s q (room_test (length ids) (length list))) ids list
