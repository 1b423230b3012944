-- Search by halving: where a test passes on the front of a list and on nothing after it, halving finds how many pass. In a list in strict
-- order those that precede t are such a front, and their number is the place of t: where it is put in, and where it stands if it is there.
use mathlib.Core.Path.{◌≡◌, refl, sym, ap, subst, ◌∙◌}
use mathlib.Core.Logic.{◌⊎◌, inl, inr}
use mathlib.Core.Bool.{Bool, true, false, true≢false}
use mathlib.Core.List.Memᴰ.{head as here}
use mathlib.Core.List.Memᴰ.{not-nil}
use mathlib.Core.List.Memᴰ.{tail as there}
use mathlib.Core.List.{List, [], ◌∷◌, ◌++◌, Memᴰ as Mem}
use Prim.Native.Nat.{ℕ, zero, suc, ◌+◌, ◌-◌, ◌/◌, ◌≤◌, ◌<◌}
use native.Mathlib.Omega.{arith}
use native.Mathlib.Decide.{dec_lt}
use lib.Dec.{T}
use lib.ListN.{length, get_or, take, drop}
use borrow.Author.Tests.{le-ltb, lt-ltb}
use Rattle.lists.specs.Lists.{keep, insert, halved_in}
use Rattle.lists.specs.Sifting.{InOrder}
use Rattle.lists.proofs.Tests.{to_T, of_T, of_no_T}
use Rattle.lists.proofs.Members.{Pairs, none, more}
use Rattle.lists.proofs.Sorting.{Sorted, StrictOrder}

-- ---- members and places

module _ {A : Type 0} (d : A) where
  pub at_mem : (l : List A) (j : ℕ) → j < length l → Mem (get_or l j d) l
  at_mem [] j h = absurd (omega arith)
  at_mem (x ∷ l) zero h = here refl
  at_mem (x ∷ l) (suc j) h = there (at_mem l j (omega arith))

  pairs_at : {R : A → A → Type 0} {l : List A} → Pairs R l → (p q : ℕ) → p < q → q < length l → R (get_or l p d) (get_or l q d)
  pairs_at none p q h g = absurd (omega arith)
  pairs_at (more a s) p zero h g = absurd (omega arith)
  pairs_at (more {l = l} a s) zero (suc q) h g = a _ (at_mem l q (omega arith))
  pairs_at (more a s) (suc p) (suc q) h g = pairs_at s p q (omega arith) (omega arith)

  pub mem_at : (t : A) {l : List A} → Mem t l → (j : ℕ) × (j < length l) × (get_or l j d ≡ t)
  mem_at t {l = []} x'' = elim x'' [ ]
  mem_at t {l = x ∷ l} (here e) = (0, omega arith, sym e)
  mem_at t {l = x ∷ l} (there m) = let w = mem_at t m in (suc w.0, omega (arith, w.1), w.2)

  -- strict order, said of members and said of places
  pub in_order : (lt : A → A → Bool) {l : List A} → Sorted lt l → InOrder lt d l (length l)
  in_order lt {l} s p q h g = of_T (lt (get_or l p d) (get_or l q d)) (pairs_at s p q h g)

  pub sorted_of : (lt : A → A → Bool) (l : List A) → InOrder lt d l (length l) → Sorted lt l
  sorted_of lt [] h = none
  sorted_of lt (x ∷ l) h = more {x = x} {l = l}
      (λ y m.
      let w = mem_at y m in
      subst (λ (z : A). T (lt x z)) w.2 (to_T (h 0 (suc w.0) (omega arith) (omega (arith, w.1)))))
      (sorted_of lt l (λ p q a b. h (suc p) (suc q) (omega arith) (omega arith)))

-- ---- the search

-- the test passes before lo, and not from hi on
pub record Between {A : Type 0} (d : A) (p : A → Bool) (l : List A) (lo hi : ℕ) : Type 0 where
  pub meet : lo ≤ hi
  pub inside : hi ≤ length l
  pub low : (j : ℕ) → j < lo → p (get_or l j d) ≡ true
  pub high : (j : ℕ) → hi ≤ j → j < length l → p (get_or l j d) ≡ false

-- a test that passes at a place passes at all before it
abbrev pub Falls : {A : Type 0} (d : A) (p : A → Bool) (l : List A) → Type 0
Falls d p l = (i j : ℕ) → i < j → j < length l → p (get_or l j d) ≡ true → p (get_or l i d) ≡ true

module _ {A : Type 0} (d : A) (p : A → Bool) where
  pub between_start : (l : List A) → Between d p l 0 (length l)
  between_start l = record { meet = omega arith; inside = omega arith; low = λ j h. absurd (omega arith); high = λ j h g. absurd (omega arith) }

  module _ (l : List A) (falls : Falls d p l) (lo hi mid : ℕ) (w : Between d p l lo hi) (a : lo ≤ mid) (b : mid < hi) where
    pub between_up : p (get_or l mid d) ≡ true → Between d p l (mid + 1) hi
    between_up e = record { meet = omega arith; inside = w.inside; low = λ j h. go j h (dec_lt j mid); high = w.high }
      where
        go : (j : ℕ) → j < mid + 1 → Dec (j < mid) → p (get_or l j d) ≡ true
        go j h (yes r) = falls j mid r (omega (arith, w.inside)) e
        go j h (no r) = let z : j ≡ mid = omega arith in rw z e

    pub between_down : p (get_or l mid d) ≡ false → Between d p l lo mid
    between_down e = record { meet = a; inside = omega (arith, w.inside); low = w.low; high = λ j h g. go j h g (dec_lt mid j) }
      where
        go : (j : ℕ) → mid ≤ j → j < length l → Dec (mid < j) → p (get_or l j d) ≡ false
        go j h g (yes r) = of_no_T (p (get_or l j d)) (λ t. true≢false (sym (falls mid j r g (of_T (p (get_or l j d)) t)) ∙ e))
        go j h g (no r) = let z : j ≡ mid = omega arith in rw z e

  kept : (l : List A) (k : ℕ) → k ≤ length l → ((j : ℕ) → j < k → p (get_or l j d) ≡ true) → ((j : ℕ) → k ≤ j → j < length l → p (get_or l j d) ≡ false)
      → length (keep p l) ≡ k
  unfolding keep
  kept [] zero h low high = refl
  kept [] (suc k) h low high = absurd (omega arith)
  kept (x ∷ l) zero h low high =
      rw (high 0 (omega arith) (omega arith))
      (kept l zero (omega arith) (λ j a. absurd (omega arith)) (λ j a b. high (suc j) (omega arith) (omega arith)))
  kept (x ∷ l) (suc k) h low high =
      rw (low 0 (omega arith))
      (ap suc (kept l k (omega arith) (λ j a. low (suc j) (omega arith)) (λ j a b. high (suc j) (omega arith) (omega arith))))

  -- where the two meet, as many pass
  pub between_end : (l : List A) (lo hi : ℕ) → hi ≤ lo → Between d p l lo hi → length (keep p l) ≡ lo
  between_end l lo hi h w = kept l lo (omega (arith, w.inside, w.meet)) w.low (λ j a b. w.high j (omega arith) b)

-- ---- halving on places of any kind

module _ (p : ℕ → Bool) where
  -- no step is taken, or nothing is left to halve
  pub halved_none : (lo hi : ℕ) → halved_in zero p lo hi ≡ lo
  unfolding halved_in
  halved_none lo hi = refl

  pub halved_end : (n lo hi : ℕ) → hi ≤ lo → halved_in n p lo hi ≡ lo
  unfolding halved_in
  halved_end zero lo hi h = refl
  halved_end (suc n) lo hi h = rw (le-ltb lo hi h) refl

  -- one step, by the test in the middle
  module _ (n lo hi : ℕ) (h : lo < hi) where
    pub halved_up : p (lo + (hi - lo) / 2) ≡ true → halved_in (suc n) p lo hi ≡ halved_in n p (lo + (hi - lo) / 2 + 1) hi
    unfolding halved_in
    halved_up e = rw (lt-ltb lo hi h, e) refl

    pub halved_down : p (lo + (hi - lo) / 2) ≡ false → halved_in (suc n) p lo hi ≡ halved_in n p lo (lo + (hi - lo) / 2)
    unfolding halved_in
    halved_down e = rw (lt-ltb lo hi h, e) refl

  -- steps that are enough come to the same place
  pub halved_enough : (n k lo hi : ℕ) → hi - lo ≤ n → hi - lo ≤ k → halved_in n p lo hi ≡ halved_in k p lo hi
  halved_enough zero k lo hi a b = halved_end zero lo hi (omega arith) ∙ sym (halved_end k lo hi (omega arith))
  halved_enough (suc n) zero lo hi a b = halved_end (suc n) lo hi (omega arith) ∙ sym (halved_end zero lo hi (omega arith))
  halved_enough (suc n) (suc k) lo hi a b =
      go (halved_enough n k (lo + (hi - lo) / 2 + 1) hi (omega arith) (omega arith)) (halved_enough n k lo (lo + (hi - lo) / 2) (omega arith) (omega arith))
      (dec_lt lo hi)
    where
      go : halved_in n p (lo + (hi - lo) / 2 + 1) hi ≡ halved_in k p (lo + (hi - lo) / 2 + 1) hi
          → halved_in n p lo (lo + (hi - lo) / 2) ≡ halved_in k p lo (lo + (hi - lo) / 2)
          → Dec (lo < hi) → halved_in (suc n) p lo hi ≡ halved_in (suc k) p lo hi
      go up down (no h) = halved_end (suc n) lo hi (omega arith) ∙ sym (halved_end (suc k) lo hi (omega arith))
      go up down (yes h) = step (p (lo + (hi - lo) / 2)) refl
        where
          step : (b : Bool) → p (lo + (hi - lo) / 2) ≡ b → halved_in (suc n) p lo hi ≡ halved_in (suc k) p lo hi
          step true e = halved_up n lo hi h e ∙ up ∙ sym (halved_up k lo hi h e)
          step false e = halved_down n lo hi h e ∙ down ∙ sym (halved_down k lo hi h e)

  -- so a step of what is left may be counted by what is left after it
  module _ (lo hi : ℕ) (h : lo < hi) where
    abbrev mid : ℕ
    mid = lo + (hi - lo) / 2

    one_step : halved_in (hi - lo) p lo hi ≡ halved_in (suc (hi - lo)) p lo hi
    one_step = halved_enough (hi - lo) (suc (hi - lo)) lo hi (omega arith) (omega arith)

    pub halved-low : p mid ≡ true → halved_in (hi - lo) p lo hi ≡ halved_in (hi - (mid + 1)) p (mid + 1) hi
    halved-low e =
        one_step ∙ halved_up (hi - lo) lo hi h e ∙ halved_enough (hi - lo) (hi - (mid + 1)) (mid + 1) hi (omega arith) (omega arith)

    pub halved-high : p mid ≡ false → halved_in (hi - lo) p lo hi ≡ halved_in (mid - lo) p lo mid
    halved-high e = one_step ∙ halved_down (hi - lo) lo hi h e ∙ halved_enough (hi - lo) (mid - lo) lo mid (omega arith) (omega arith)

  -- the place lies among those searched
  pub halved-inside : (n lo hi : ℕ) → lo ≤ hi → (lo ≤ halved_in n p lo hi) × (halved_in n p lo hi ≤ hi)
  unfolding halved_in
  halved-inside zero lo hi h = (omega arith, h)
  halved-inside (suc n) lo hi h =
      go (λ (g : lo < hi). halved-inside n (lo + (hi - lo) / 2 + 1) hi (omega arith)) (halved-inside n lo (lo + (hi - lo) / 2) (omega arith)) (dec_lt lo hi)
    where
      go : (lo < hi → (lo + (hi - lo) / 2 + 1 ≤ halved_in n p (lo + (hi - lo) / 2 + 1) hi) × (halved_in n p (lo + (hi - lo) / 2 + 1) hi ≤ hi))
          → (lo ≤ halved_in n p lo (lo + (hi - lo) / 2)) × (halved_in n p lo (lo + (hi - lo) / 2) ≤ lo + (hi - lo) / 2)
          → Dec (lo < hi) → (lo ≤ halved_in (suc n) p lo hi) × (halved_in (suc n) p lo hi ≤ hi)
      go up down (no g) = rw (halved_end (suc n) lo hi (omega arith)) (omega arith, h)
      go up down (yes g) = step (p (lo + (hi - lo) / 2)) refl
        where
          step : (b : Bool) → p (lo + (hi - lo) / 2) ≡ b → (lo ≤ halved_in (suc n) p lo hi) × (halved_in (suc n) p lo hi ≤ hi)
          step true e = rw (halved_up n lo hi g e) (omega (arith, (up g).0), (up g).1)
          step false e = rw (halved_down n lo hi g e) (down.0, omega (arith, down.1))

-- tests that agree on the places searched come to the same place
pub halved-same : (p q : ℕ → Bool) (n lo hi : ℕ) → ((i : ℕ) → lo ≤ i → i < hi → p i ≡ q i) → halved_in n p lo hi ≡ halved_in n q lo hi
halved-same p q zero lo hi h = halved_none p lo hi ∙ sym (halved_none q lo hi)
halved-same p q (suc n) lo hi h =
    go (halved-same p q n (lo + (hi - lo) / 2 + 1) hi (λ i a b. h i (omega arith) b))
    (λ (g : lo < hi). halved-same p q n lo (lo + (hi - lo) / 2) (λ i a b. h i a (omega arith))) (dec_lt lo hi)
  where
    go : halved_in n p (lo + (hi - lo) / 2 + 1) hi ≡ halved_in n q (lo + (hi - lo) / 2 + 1) hi
        → (lo < hi → halved_in n p lo (lo + (hi - lo) / 2) ≡ halved_in n q lo (lo + (hi - lo) / 2))
        → Dec (lo < hi) → halved_in (suc n) p lo hi ≡ halved_in (suc n) q lo hi
    go up down (no g) = halved_end p (suc n) lo hi (omega arith) ∙ sym (halved_end q (suc n) lo hi (omega arith))
    go up down (yes g) = step (p (lo + (hi - lo) / 2)) refl
      where
        same_mid : p (lo + (hi - lo) / 2) ≡ q (lo + (hi - lo) / 2)
        same_mid = h (lo + (hi - lo) / 2) (omega arith) (omega arith)

        step : (b : Bool) → p (lo + (hi - lo) / 2) ≡ b → halved_in (suc n) p lo hi ≡ halved_in (suc n) q lo hi
        step true e = halved_up p n lo hi g e ∙ up ∙ sym (halved_up q n lo hi g (sym same_mid ∙ e))
        step false e = halved_down p n lo hi g e ∙ down g ∙ sym (halved_down q n lo hi g (sym same_mid ∙ e))

-- on a list whose front passes, and nothing after it, it is the end of that front
module _ {A : Type 0} (d : A) (p : A → Bool) (l : List A) (falls : Falls d p l) where
  abbrev at_place : ℕ → Bool
  at_place i = p (get_or l i d)

  -- halving from lo and hi comes to the end of the front
  abbrev Ends : (steps lo hi : ℕ) → Type 0
  Ends n lo hi = Between d p l lo hi → Between d p l (halved_in n at_place lo hi) (halved_in n at_place lo hi)

  pub halved-between : (n lo hi : ℕ) → hi - lo ≤ n → Ends n lo hi
  halved-between zero lo hi k w =
      let e : hi ≡ lo = omega (arith, w.meet) in
      rw (halved_end at_place zero lo hi (omega arith)) (subst (λ (j : ℕ). Between d p l lo j) e w)
  halved-between (suc n) lo hi k w =
      go (λ v. halved-between n (lo + (hi - lo) / 2 + 1) hi (omega arith) v) (λ v. halved-between n lo (lo + (hi - lo) / 2) (omega arith) v) (dec_lt lo hi)
    where
      go : Ends n (lo + (hi - lo) / 2 + 1) hi → Ends n lo (lo + (hi - lo) / 2) → Dec (lo < hi)
          → Between d p l (halved_in (suc n) at_place lo hi) (halved_in (suc n) at_place lo hi)
      go up down (no h) =
          let e : hi ≡ lo = omega (arith, w.meet) in
          rw (halved_end at_place (suc n) lo hi (omega arith)) (subst (λ (j : ℕ). Between d p l lo j) e w)
      go up down (yes h) = step (at_place (lo + (hi - lo) / 2)) refl
        where
          step : (b : Bool) → at_place (lo + (hi - lo) / 2) ≡ b
              → Between d p l (halved_in (suc n) at_place lo hi) (halved_in (suc n) at_place lo hi)
          step true e =
              rw (halved_up at_place n lo hi h e) (up (between_up d p l falls lo hi (lo + (hi - lo) / 2) w (omega arith) (omega arith) e))
          step false e =
              rw (halved_down at_place n lo hi h e) (down (between_down d p l falls lo hi (lo + (hi - lo) / 2) w (omega arith) (omega arith) e))

-- ---- the place of t in a list in strict order

module _ {A : Type 0} {lt : A → A → Bool} (o : StrictOrder lt) (t : A) where
  -- those that precede t
  abbrev pub precede : A → Bool
  precede u = lt u t

  pub front_falls : (d : A) (l : List A) → InOrder lt d l (length l) → Falls d precede l
  front_falls d l s i j h g e =
      of_T (lt (get_or l i d) t) (o.trans (get_or l i d) (get_or l j d) t (to_T (s i j h g)) (to_T e))

  none_precede : {y : A} {l : List A} → ((z : A) → Mem z l → T (lt y z)) → (T (lt t y) ⊎ (t ≡ y)) → keep precede l ≡ []
  unfolding keep
  none_precede {l = []} h c = refl
  none_precede {y} {l = z ∷ l} h c =
      let later : T (lt t z) =
      elim c [ inl a ↦ o.trans t y z a (h z (here refl)) | inr e ↦ subst (λ (x : A). T (lt x z)) (sym e) (h z (here refl)) ] in
      rw (of_no_T (lt z t) (λ a. o.asym z t a later)) (none_precede {l = l} (λ u m. h u (there m)) c)

  -- put in there, it is put in order
  pub insert_at : {l : List A} → Sorted lt l → ((y : A) → Mem y l → T (lt t y) ⊎ T (lt y t))
      → insert lt t l ≡ take (length (keep precede l)) l ++ (t ∷ drop (length (keep precede l)) l)
  unfolding insert keep
  insert_at none c = refl
  insert_at (more {x = y} {l = l} h s) c = go (c y (here refl)) (insert_at s (λ z m. c z (there m)))
    where
      go : T (lt t y) ⊎ T (lt y t) → insert lt t l ≡ take (length (keep precede l)) l ++ (t ∷ drop (length (keep precede l)) l)
          → insert lt t (y ∷ l) ≡ take (length (keep precede (y ∷ l))) (y ∷ l) ++ (t ∷ drop (length (keep precede (y ∷ l))) (y ∷ l))
      go (inl a) ih = rw (of_T (lt t y) a, of_no_T (lt y t) (λ b. o.asym t y a b), none_precede h (inl a))
      go (inr b) ih = rw (of_no_T (lt t y) (λ a. o.asym t y a b), of_T (lt y t) b) (ap (λ (r : List A). y ∷ r) ih)

  -- if it is there at all, it stands there
  pub found_at : (d : A) {l : List A} → Sorted lt l → Mem t l → (length (keep precede l) < length l) × (get_or l (length (keep precede l)) d ≡ t)
  unfolding keep
  found_at d none m = absurd (not-nil m)
  found_at d (more {x = y} {l = l} h s) (here e) =
      rw (of_no_T (lt y t) (λ a. let b = subst (λ (x : A). T (lt x t)) (sym e) a in o.asym t t b b), none_precede h (inr e)) (omega arith, sym e)
  found_at d (more {x = y} {l = l} h s) (there m) = rw (of_T (lt y t) (h t m)) (let w = found_at d s m in (omega (arith, w.0), w.1))

  module _ (q : A → Bool) (out : q t ≡ false) where
    keep_all : (l : List A) → ((u : A) → Mem u l → q u ≡ true) → keep q l ≡ l
    unfolding keep
    keep_all [] h = refl
    keep_all (x ∷ l) h = rw (h x (here refl)) (ap (λ (r : List A). x ∷ r) (keep_all l (λ u m. h u (there m))))

    -- taken out there, it is left out alone
    pub remove_at : {l : List A} → Sorted lt l → ((u : A) → Mem u l → q u ≡ false → u ≡ t) → Mem t l
        → take (length (keep precede l)) l ++ drop (suc (length (keep precede l))) l ≡ keep q l
    unfolding keep
    remove_at none alone m = absurd (not-nil m)
    remove_at (more {x = y} {l = l} h s) alone (here e) =
        let stays : (u : A) → Mem u l → q u ≡ true = λ u m. is_true (q u) (λ f.
        let b = subst (λ (x : A). T (lt y x)) (alone u (there m) f ∙ e) (h u m) in o.asym y y b b) in
        let not-before : T (lt y t) → ⊥ = λ a. let b = subst (λ (x : A). T (lt x t)) (sym e) a in o.asym t t b b in
        rw (of_no_T (lt y t) not-before, none_precede h (inr e), sym (ap q e) ∙ out) (sym (keep_all l stays))
      where
        is_true : (b : Bool) → (b ≡ false → ⊥) → b ≡ true
        is_true true f = refl
        is_true false f = absurd (f refl)
    remove_at (more {x = y} {l = l} h s) alone (there m) =
        rw (of_T (lt y t) (h t m), stays (q y) refl) (ap (λ (r : List A). y ∷ r) (remove_at s (λ u n. alone u (there n)) m))
      where
        stays : (b : Bool) → q y ≡ b → q y ≡ true
        stays true f = f
        stays false f = let b = subst (λ (x : A). T (lt x t)) (alone y (here refl) f) (h t m) in absurd (o.asym t t b b)
