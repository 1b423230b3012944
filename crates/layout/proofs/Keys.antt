-- The order of each subdivision read as one order, on a key and then on the id: R_aft has no key.
use mathlib.Core.Path.{◌≡◌, refl}
use mathlib.Core.Bool.{◌&&◌, ◌||◌}
use Prim.Native.Nat.{ℕ}
use lib.Dec.{ltb, eqb}
use Rattle.trip.specs.declared.Trip.{Trip}
use Rattle.layout.specs.declared.Subdivision.{Subdivision}
use Rattle.layout.specs.declared.Subdivision.TheVariants.{OIn, OAft, RIn, RAft}
use Rattle.layout.specs.Words.{by_id, by_start, by_end, order}

unfoldable pub key_of : Subdivision → Trip → ℕ
key_of OIn t = t.start.0
key_of OAft t = t.start.0
key_of RIn t = t.end.0
key_of RAft t = 0

pub order_keyed : (d : Subdivision) (x y : Trip) → order d x y ≡ ltb (key_of d x) (key_of d y) || (eqb (key_of d x) (key_of d y) && ltb x.id y.id)
unfolding order key_of by_start by_end by_id
order_keyed OIn x y = refl
order_keyed OAft x y = refl
order_keyed RIn x y = refl
order_keyed RAft x y = refl
