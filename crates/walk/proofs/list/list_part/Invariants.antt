-- What each test says of a trip.
use mathlib.Core.Bool.{true, false}
use Rattle.plan.specs.Sought.{is_sought}
use Rattle.walk.proofs.list.list_part.Given as goal

abbrev pub ghost-list_where : goal.ghost-list_where
ghost-list_where a = is_sought a.test.0.now true

abbrev pub ghost-list_where-2 : goal.ghost-list_where-2
ghost-list_where-2 a = is_sought a.test.0.now false
