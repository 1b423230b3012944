-- What is known of a ruler that was made: its numbers are those given, and in bounds.
use mathlib.Core.Path.{◌≡◌, refl, sym, ap, ◌∙◌}
use mathlib.Core.Bool.{Bool, true, false}
use Rattle.std.proofs.Common.{Some, None, ℕ}
use Rattle.std.proofs.Math.Bool.{Bool-set}
use Rattle.std.proofs.Math.Nat.{ℕ_set}
use Rattle.std.proofs.Math.Path.{path_j}
use Rattle.ruler.specs.declared.Numbers.{Numbers}
use Rattle.ruler.specs.declared.Ruler.{Ruler}
use Rattle.ruler.specs.Ruler.{in_bounds, first_time_of, last_time_of, share_of}
use Rattle.ruler.specs.Made.{ruler_of, judge, judge_by}

-- numbers in bounds make a ruler
pub judge_good : (n : Numbers) (good : in_bounds n ≡ true) → judge n ≡ Some (ruler_of n good)
unfolding judge judge_by
judge_good n good = go (in_bounds n) refl good
  where
    go : (b : Bool) (e : in_bounds n ≡ b) → b ≡ true → judge_by n b e ≡ Some (ruler_of n good)
    go true e _ = ap (λ (p : in_bounds n ≡ true). Some (ruler_of n p)) (Bool-set _ _ e good)
    go false e p = absurd (cc)

pub judge_bad : (n : Numbers) → in_bounds n ≡ false → judge n ≡ None
unfolding judge judge_by
judge_bad n bad = go (in_bounds n) refl bad
  where
    go : (b : Bool) (e : in_bounds n ≡ b) → b ≡ false → judge_by n b e ≡ None
    go true e p = absurd (cc)
    go false e _ = refl

-- what is made of a number and of what it is, is made of that
filled : {B : Type 0} (n : ℕ) (make : (k : ℕ) → k ≡ n → B) (k : ℕ) (e : k ≡ n) → make k e ≡ make n refl
filled n make k e =
    path_j (λ (j : ℕ) (p : n ≡ j). (q : j ≡ n) → make j q ≡ make n refl) (λ (q : n ≡ n). ap (make n) (ℕ_set _ _ q refl)) (sym e) e

module _ (n : Numbers) (good : in_bounds n ≡ true) where
  abbrev keeping : (f : ℕ) → f ≡ first_time_of n → (l : ℕ) → l ≡ last_time_of n → (s : ℕ) → s ≡ share_of n → Ruler
  keeping f p l q s t = record { numbers = n; first = f; last = l; share = s; good = good; first_is = p; last_is = q; share_is = t }

  kept : (f : ℕ) (p : f ≡ first_time_of n) (l : ℕ) (q : l ≡ last_time_of n) (s : ℕ) (t : s ≡ share_of n) → keeping f p l q s t ≡ ruler_of n good
  kept f p l q s t =
      filled (first_time_of n) (λ (j : ℕ) (e : j ≡ first_time_of n). keeping j e l q s t) f p
      ∙ (filled (last_time_of n) (λ (j : ℕ) (e : j ≡ last_time_of n). keeping (first_time_of n) refl j e s t) l q
      ∙ filled (share_of n) (λ (j : ℕ) (e : j ≡ share_of n). keeping (first_time_of n) refl (last_time_of n) refl j e) s t)

-- a ruler is that of its numbers
pub ruler_is : (r : Ruler) → judge r.numbers ≡ Some r
ruler_is r = judge_good r.numbers r.good ∙ sym (ap Some (kept r.numbers r.good r.first r.first_is r.last r.last_is r.share r.share_is))

pub record MadeOf (n : Numbers) (r : Ruler) : Type 0 where
  pub numbers : r.numbers ≡ n
  pub good : in_bounds n ≡ true

pub judged_good : (n : Numbers) (r : Ruler) → judge n ≡ Some r → MadeOf n r
unfolding judge judge_by
judged_good n r e = go (in_bounds n) refl e
  where
    go : (b : Bool) (p : in_bounds n ≡ b) → judge_by n b p ≡ Some r → MadeOf n r
    go true p q = record { numbers = cc; good = p }
    go false p q = absurd (cc)

pub judged_out : (n : Numbers) → judge n ≡ None → in_bounds n ≡ false
unfolding judge judge_by
judged_out n e = go (in_bounds n) refl e
  where
    go : (b : Bool) (p : in_bounds n ≡ b) → judge_by n b p ≡ None → in_bounds n ≡ false
    go true p q = absurd (cc)
    go false p q = p
