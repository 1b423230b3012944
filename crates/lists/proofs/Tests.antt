-- Tests joined by && and ||, as facts; tests that pass alike; and the test of two numbers that are the same.
use mathlib.Core.Path.{◌≡◌, refl}
use mathlib.Core.Logic.{◌⊎◌, inl, inr}
use mathlib.Core.Bool.{Bool, true, false, not, ◌&&◌, ◌||◌}
use Prim.Native.Nat.{ℕ}
use lib.Dec.{T, eqb, eqb_refl}

pub of_and : (a b : Bool) → T (a && b) → T a × T b
of_and true b t = (tt, t)
of_and false b t = absurd t

pub to_and : (a b : Bool) → T a → T b → T (a && b)
to_and true b s t = t
to_and false b s t = s

pub of_three : (a b c : Bool) → T (a && b && c) → T a × T b × T c
of_three a b c t =
    let x = of_and (a && b) c t in
    let y = of_and a b x.0 in
    (y.0, y.1, x.1)

pub to_three : (a b c : Bool) → T a × T b × T c → T (a && b && c)
to_three a b c x = to_and (a && b) c (to_and a b x.0 x.1) x.2

pub of_or : (a b : Bool) → T (a || b) → T a ⊎ T b
of_or true b t = inl t
of_or false b t = inr t

-- where the first does not pass, the second does
pub of_or_not : (a b : Bool) → (T a → ⊥) → T (a || b) → T b
of_or_not true b f t = absurd (f tt)
of_or_not false b f t = t

pub or_left : (a b : Bool) → T a → T (a || b)
or_left true b t = t
or_left false b t = absurd t

pub or_right : (a b : Bool) → T b → T (a || b)
or_right true b t = tt
or_right false b t = t

pub of_nor : (a b : Bool) → T (not (a || b)) → T (not a) × T (not b)
of_nor true b t = absurd t
of_nor false b t = (tt, t)

pub to_nor : (a b : Bool) → T (not a) → T (not b) → T (not (a || b))
to_nor true b s t = s
to_nor false b s t = t

pub of_not : (a : Bool) → T (not a) → T a → ⊥
of_not true t s = t
of_not false t s = s

pub to_not : (a : Bool) → (T a → ⊥) → T (not a)
to_not true f = f tt
to_not false f = tt

pub of_not_not : (a : Bool) → T (not (not a)) → T a
of_not_not true t = tt
of_not_not false t = t

pub to_not-not : (a : Bool) → T a → T (not (not a))
to_not-not true t = tt
to_not-not false t = t

-- tests that pass alike are one Bool
pub agree : (a b : Bool) → (T a → T b) → (T b → T a) → a ≡ b
agree true true f g = refl
agree true false f g = absurd (f tt)
agree false true f g = absurd (g tt)
agree false false f g = refl

pub eq→eqb : (m n : ℕ) → m ≡ n → T (eqb m n)
eq→eqb m n e = rw e (eqb_refl n)

-- a test that passes, said by an equation or by T
pub to_T : {b : Bool} → b ≡ true → T b
to_T e = rw e tt

pub of_T : (b : Bool) → T b → b ≡ true
of_T true t = refl
of_T false t = absurd t

pub of_not_T : (b : Bool) → T (not b) → b ≡ false
of_not_T true t = absurd t
of_not_T false t = refl

pub of_no_T : (b : Bool) → (T b → ⊥) → b ≡ false
of_no_T true f = absurd (f tt)
of_no_T false f = refl
