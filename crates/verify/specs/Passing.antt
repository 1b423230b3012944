-- Tests over lists and numbers, as the check's loops make them. Every test is a Bool and computes.
use Rattle.std.specs.Prelude.{Bool, true, false, ◌&&◌, ◌||◌, List, [], ◌∷◌, ℕ, zero, suc, leb, eqb}

-- every number below n passes
unfoldable pub below : (ℕ → Bool) → ℕ → Bool
below f zero = true
below f (suc n) = below f n && f n

module _ {A : Type 0} where
  -- every member passes; some member does
  unfoldable pub each : (A → Bool) → List A → Bool
  each p [] = true
  each p (x ∷ l) = p x && each p l

  unfoldable pub some : (A → Bool) → List A → Bool
  some p [] = false
  some p (x ∷ l) = p x || some p l

  -- each of l passes and comes after the one before it, the first after x
  unfoldable pub after : (p : A → Bool) → (lt : A → A → Bool) → (x : A) → List A → Bool
  after p lt x [] = true
  after p lt x (y ∷ l) = (p y && lt x y) && after p lt y l

  -- each member passes and comes after the one before it
  unfoldable pub in_row : (p : A → Bool) → (lt : A → A → Bool) → List A → Bool
  in_row p lt [] = true
  in_row p lt (x ∷ l) = p x && after p lt x l

-- no word is below the one before it, the first not below n
unfoldable pub rising : (n : ℕ) → List ℕ → Bool
rising n [] = true
rising n (d ∷ ds) = leb n d && rising d ds

-- every word is zero
unfoldable pub blank : List ℕ → Bool
blank [] = true
blank (x ∷ xs) = eqb x 0 && blank xs
