-- Lists with tests that compute: what the definitions of the index are made of. Nothing here speaks of trips.
use Rattle.std.specs.Prelude.{Bool, true, false, cond, ◌&&◌, List, [], ◌∷◌, ◌++◌, ℕ, zero, suc, ◌+◌, ◌-◌, ◌/◌, leb, ltb, eqb, length, drop, replicate}

-- every test passes
unfoldable pub every : List Bool → Bool
every [] = true
every (b ∷ l) = b && every l

-- two lists of words are the same
unfoldable pub same : List ℕ → List ℕ → Bool
same [] [] = true
same [] (y ∷ ys) = false
same (x ∷ xs) [] = false
same (x ∷ xs) (y ∷ ys) = eqb x y && same xs ys

-- n, but 1 more where the test passes
abbrev pub one_more : Bool → ℕ → ℕ
one_more true n = suc n
one_more false n = n

-- how many of 0 .. n - 1 pass the test
unfoldable pub count : (ℕ → Bool) → ℕ → ℕ
count f zero = zero
count f (suc n) = one_more (f n) (count f n)

-- f 0 + f 1 + .. + f (n - 1)
unfoldable pub sum_to : (ℕ → ℕ) → ℕ → ℕ
sum_to f zero = 0
sum_to f (suc n) = sum_to f n + f n

-- search by halving for the end of those that pass, among the places from lo up to hi: the place it comes to, in so many steps at most. The test may
-- pass anywhere: halving asks at places that it chooses, and no others.
unfoldable pub halved_in : (steps : ℕ) → (ℕ → Bool) → (lo hi : ℕ) → ℕ
halved_in zero p lo hi = lo
halved_in (suc n) p lo hi =
    let mid = lo + (hi - lo) / 2 in
    cond (ltb lo hi) (cond (p mid) (halved_in n p (mid + 1) hi) (halved_in n p lo mid)) lo

-- among n places, n steps are enough: each leaves fewer
abbrev pub halved : (ℕ → Bool) → (n : ℕ) → ℕ
halved p n = halved_in n p 0 n

-- the words l, then zeros up to n words (l alone, where it has more)
unfoldable pub padded : ℕ → List ℕ → List ℕ
padded n l = l ++ replicate (n - length l) 0

-- the words l over the first of a list, whose later words stay
unfoldable pub over : (l list : List ℕ) → List ℕ
over l list = l ++ drop (length l) list

module _ {A : Type 0} where
  -- the sum of f over the members of a list
  unfoldable pub sum_over : (A → ℕ) → List A → ℕ
  sum_over f [] = 0
  sum_over f (x ∷ l) = f x + sum_over f l

  -- the list, with x in front where the test passes
  abbrev pub cons_if : Bool → A → List A → List A
  cons_if true x l = x ∷ l
  cons_if false x l = l

  -- those of a list that pass the test, in the list's order
  unfoldable pub keep : (A → Bool) → List A → List A
  keep p [] = []
  keep p (x ∷ l) = cons_if (p x) x (keep p l)

  -- x put in before the first y with `first x y`; and the whole list put in order so
  unfoldable pub insert : (first : A → A → Bool) → A → List A → List A
  insert first x [] = x ∷ []
  insert first x (y ∷ l) = cond (first x y) (x ∷ y ∷ l) (y ∷ insert first x l)

  unfoldable pub sort : (first : A → A → Bool) → List A → List A
  sort first [] = []
  sort first (x ∷ l) = insert first x (sort first l)

  -- the lists f 0, f 1, .. f (n - 1), one after another
  unfoldable pub joined : (ℕ → List A) → ℕ → List A
  joined f zero = []
  joined f (suc n) = joined f n ++ f n

  -- the values f 0, f 1, .. f (n - 1)
  unfoldable pub up_to : (ℕ → A) → ℕ → List A
  up_to f zero = []
  up_to f (suc n) = up_to f n ++ (f n ∷ [])

-- numbers in ascending order
abbrev pub ascending : List ℕ → List ℕ
ascending = sort leb
