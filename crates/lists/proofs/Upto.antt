-- The list f 0, f 1, .., f (n - 1): its length, its values, its first value, and a loop that writes it over the front of a list.
use mathlib.Core.Path.{◌≡◌, refl, ap, ◌∙◌}
use mathlib.Core.Bool.{Bool, true}
use mathlib.Core.List.{List, [], ◌∷◌, ◌++◌, append_assoc, map, map-append}
use Prim.Native.Nat.{ℕ, zero, suc, ◌+◌, ◌<◌}
use native.Mathlib.Numerals.{add-one}
use native.Mathlib.Decide.{dec_lt}
use native.Mathlib.Omega.{arith}
use lib.ListN.{length, drop, get_or, set, length-append, get_or-append}
use lib.Seq.{drop-cons, set_at, get_or_at}
use lib.Dec.{T}
use Rattle.lists.specs.Lists.{every, up_to}
use Rattle.lists.proofs.Tests.{of_and}

module _ {A : Type 0} where
  pub length-up_to : (f : ℕ → A) (n : ℕ) → length (up_to f n) ≡ n
  unfolding up_to
  length-up_to f zero = refl
  length-up_to f (suc n) = rw (length-append, length-up_to f n) (omega arith)

  pub get_or_up_to : (f : ℕ → A) (n i : ℕ) (d : A) → i < n → get_or (up_to f n) i d ≡ f i
  unfolding up_to
  get_or_up_to f zero i d h = absurd (omega arith)
  get_or_up_to f (suc n) i d h = go (dec_lt i n) (get_or_up_to f n i d)
    where
      go : Dec (i < n) → (i < n → get_or (up_to f n) i d ≡ f i) → get_or (up_to f (suc n)) i d ≡ f i
      go (yes l) ih = get_or-append (up_to f n) (f n ∷ []) d i (rw length-up_to l) ∙ ih l
      go (no l) ih = let e : i ≡ n = omega arith in rw e (get_or_at (up_to f n) (f n) [] d n (length-up_to f n))

  pub up_to_cons : (f : ℕ → A) (n : ℕ) → up_to f (suc n) ≡ f 0 ∷ up_to (λ k. f (suc k)) n
  unfolding up_to
  up_to_cons f zero = refl
  up_to_cons f (suc n) = ap (λ (l : List A). l ++ (f (suc n) ∷ [])) (up_to_cons f n)

  pub up_to_ext : (f g : ℕ → A) (n : ℕ) → ((i : ℕ) → i < n → f i ≡ g i) → up_to f n ≡ up_to g n
  unfolding up_to
  up_to_ext f g zero h = refl
  up_to_ext f g (suc n) h = rw (up_to_ext f g n (λ i l. h i (omega arith)), h n (omega arith))

  -- a loop that writes f i at place i: at the start, and one turn
  pub up_to-none : (f : ℕ → A) (xs : List A) → xs ≡ up_to f 0 ++ drop 0 xs
  unfolding up_to
  up_to-none f xs = refl

  pub up_to-more : (f : ℕ → A) (i : ℕ) (xs ys : List A) (v d : A) → i < length xs → v ≡ f i → ys ≡ up_to f i ++ drop i xs
      → set ys i v ≡ up_to f (i + 1) ++ drop (i + 1) xs
  unfolding up_to
  up_to-more f i xs ys v d h e y =
      rw (y, e, add-one, drop-cons xs i d, set_at (up_to f i) (get_or xs i d) (drop (suc i) xs) (f i) i (length-up_to f i), append_assoc)

pub map-up_to : {A B : Type 0} (g : A → B) (f : ℕ → A) (n : ℕ) → map g (up_to f n) ≡ up_to (λ k. g (f k)) n
unfolding up_to
map-up_to g f zero = refl
map-up_to {B = B} g f (suc n) = map-append g (up_to f n) (f n ∷ []) ∙ ap (λ (l : List B). l ++ (g (f n) ∷ [])) (map-up_to g f n)

-- tests that all pass: each of them does
every_at : (l : List Bool) (k : ℕ) → T (every l) → T (get_or l k true)
unfolding every
every_at [] k t = tt
every_at (b ∷ l) zero t = (of_and b (every l) t).0
every_at (b ∷ l) (suc k) t = every_at l k (of_and b (every l) t).1

pub every-up_to : (f : ℕ → Bool) (n k : ℕ) → k < n → T (every (up_to f n)) → T (f k)
every-up_to f n k h t = rw (get_or_up_to f n k true h) at (every_at (up_to f n) k t)
