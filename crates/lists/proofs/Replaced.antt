-- One value of f 0, f 1, .., f (n - 1) replaced; and values that are all the same.
use mathlib.Core.Path.{◌≡◌, refl, sym, ap, ◌∙◌}
use mathlib.Core.Logic.{◌≢◌}
use mathlib.Core.List.{List, [], ◌∷◌, ◌++◌}
use Prim.Native.Nat.{ℕ, zero, suc, ◌<◌}
use native.Mathlib.Decide.{ℕ_discrete}
use native.Mathlib.Numerals.{add-one}
use lib.ListN.{get_or, set, replicate, length-set, replicate-append-replicate}
use lib.Seq.{ext_get_or, get_or-set_same, get_or-set_other}
use Rattle.lists.specs.Lists.{up_to}
use Rattle.lists.proofs.Upto.{length-up_to, get_or_up_to}

module _ {A : Type 0} where
  -- g is f, but for x at j
  pub up_to-set : (f g : ℕ → A) (n j : ℕ) (x : A) → j < n → g j ≡ x → ((k : ℕ) → k < n → k ≢ j → g k ≡ f k) → set (up_to f n) j x ≡ up_to g n
  up_to-set f g n j x h e other =
      ext_get_or x (set (up_to f n) j x) (up_to g n) (length-set (up_to f n) j x ∙ length-up_to f n ∙ sym (length-up_to g n)) (λ k l.
      let kn : k < n = rw (length-set (up_to f n) j x, length-up_to) at l in
      go k kn (ℕ_discrete k j))
    where
      go : (k : ℕ) → k < n → Dec (k ≡ j) → get_or (set (up_to f n) j x) k x ≡ get_or (up_to g n) k x
      go k kn (yes q) = cc (get_or_up_to g n k x kn, e, get_or-set_same (up_to f n) j x x (rw length-up_to h))
      go k kn (no q) = get_or-set_other (up_to f n) j k x x q ∙ get_or_up_to f n k x kn ∙ sym (get_or_up_to g n k x kn ∙ other k kn q)

  pub up_to-same : (x : A) (n : ℕ) → up_to (λ k. x) n ≡ replicate n x
  unfolding up_to
  up_to-same x zero = refl
  up_to-same x (suc n) =
      ap (λ (l : List A). l ++ (x ∷ [])) (up_to-same x n) ∙ replicate-append-replicate n 1 x ∙ ap (λ (k : ℕ). replicate k x) (add-one n)
