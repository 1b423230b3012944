-- How many numbers pass a test: laws of `count`.
use mathlib.Core.Path.{◌≡◌, refl, sym, ap₂}
use mathlib.Core.Bool.{Bool, true, false}
use Prim.Native.Nat.{ℕ, zero, suc, ◌+◌, ◌≤◌, ◌<◌}
use native.Mathlib.Nat.{add-zero, add-suc}
use native.Mathlib.Decide.{dec_lt, ℕ_discrete}
use native.Mathlib.Omega.{arith}
use lib.Arith.{le-zero}
use lib.Dec.{T}
use Rattle.lists.specs.Lists.{one_more, count}

-- the last of the numbers that pass, with those before it
last_one : (g : ℕ → Bool) (n c : ℕ) → suc c ≤ count g n → (k : ℕ) × (k < n) × T (g k) × (c ≤ count g k)
unfolding count
last_one g zero c h = absurd (omega arith)
last_one g (suc n) c h = go (g n) refl (last_one g n c)
  where
    go : (b : Bool) → g n ≡ b → (suc c ≤ count g n → (k : ℕ) × (k < n) × T (g k) × (c ≤ count g k)) → (k : ℕ) × (k < suc n) × T (g k)
        × (c ≤ count g k)
    go true e ih = let q : suc c ≤ suc (count g n) = rw e at h in (n, omega arith, rw e tt, omega arith)
    go false e ih = let w = ih (rw e at h) in (w.0, omega arith, w.2, w.3)

-- where two are counted, here they are
two_counted : (g : ℕ → Bool) (n : ℕ) → 2 ≤ count g n → (i : ℕ) × (j : ℕ) × (i < j) × (j < n) × T (g i) × T (g j)
two_counted g n q =
    let y = last_one g n 1 q in
    let x = last_one g y.0 0 y.3 in
    (x.0, y.0, x.1, y.1, x.2, y.2)

le_of_not_lt : {a b : ℕ} → (b < a → ⊥) → a ≤ b
le_of_not_lt f = omega (arith, f)

-- no two pass: one at the most; no three: two
pub count_single : (g : ℕ → Bool) (n : ℕ) → ((i j : ℕ) → i < j → j < n → T (g i) → T (g j) → ⊥) → count g n ≤ 1
count_single g n h = le_of_not_lt (λ q. let w = two_counted g n q in h w.0 w.1 w.2 w.3 w.4 w.5)

pub count_two : (g : ℕ → Bool) (n : ℕ) → ((i j k : ℕ) → i < j → j < k → k < n → T (g i) → T (g j) → T (g k) → ⊥) → count g n ≤ 2
count_two g n h = le_of_not_lt (λ q.
    let z = last_one g n 2 q in
    let w = two_counted g z.0 z.3 in
    h w.0 w.1 z.0 w.2 w.3 z.1 w.4 w.5 z.2)

-- two that pass: at least two
passing : (g : ℕ → Bool) (n i : ℕ) → i < n → T (g i) → suc (count g i) ≤ count g n
unfolding count
passing g zero i l t = absurd (omega arith)
passing g (suc n) i l t = go (ℕ_discrete i n) (g n) refl (passing g n i)
  where
    go : Dec (i ≡ n) → (b : Bool) → g n ≡ b → (i < n → T (g i) → suc (count g i) ≤ count g n) → suc (count g i) ≤ one_more b (count g n)
    go (yes e) true p ih = rw e (omega arith)
    go (yes e) false p ih = absurd (rw (e, p) at t)
    go (no e) true p ih = omega (arith, ih (omega arith) t)
    go (no e) false p ih = ih (omega arith) t

pub count_pair : (g : ℕ → Bool) (n i j : ℕ) → i < j → j < n → T (g i) → T (g j) → 2 ≤ count g n
count_pair g n i j ij jn s t = omega (arith, passing g j i ij s, passing g n j jn t)

-- one that passes, and no other: one
pub count_one : (g : ℕ → Bool) (n i : ℕ) → i < n → T (g i) → ((j : ℕ) → j < n → T (g j) → j ≡ i) → count g n ≡ 1
count_one g n i l t only =
    let one_at_most = count_single g n (λ j k h m a b. omega (arith, only j (omega arith) a, only k m b)) in
    omega (arith, passing g n i l t)

-- and where one is counted, it is one that passes, and no other does
pub one_counted : (g : ℕ → Bool) (n : ℕ) → count g n ≡ 1 → (i : ℕ) × (i < n) × T (g i) × ((j : ℕ) → j < n → T (g j) → j ≡ i)
one_counted g n e =
    let w = last_one g n 0 (omega arith) in
    (w.0, w.1, w.2, λ j l t. go w.0 w.1 w.2 j l t (dec_lt j w.0) (dec_lt w.0 j))
  where
    go : (i : ℕ) → i < n → T (g i) → (j : ℕ) → j < n → T (g j) → Dec (j < i) → Dec (i < j) → j ≡ i
    go i h s j l t (yes p) q = absurd (omega (arith, count_pair g n j i p h t s))
    go i h s j l t (no p) (yes q) = absurd (omega (arith, count_pair g n i j q l s t))
    go i h s j l t (no p) (no q) = omega arith

pub count_add : (g : ℕ → Bool) (n k : ℕ) → count g (n + k) ≡ count g n + count (λ i. g (n + i)) k
unfolding count
count_add g n zero = rw add-zero (sym (add-zero (count g n)))
count_add g n (suc k) = rw (add-suc n k) (go (g (n + k)) (count_add g n k))
  where
    go : (b : Bool) → count g (n + k) ≡ count g n + count (λ i. g (n + i)) k → one_more b (count g (n + k))
        ≡ count g n + one_more b (count (λ i. g (n + i)) k)
    go true e = omega arith
    go false e = e

pub count_ext : (f g : ℕ → Bool) (n : ℕ) → ((i : ℕ) → i < n → f i ≡ g i) → count f n ≡ count g n
unfolding count
count_ext f g zero h = refl
count_ext f g (suc n) h = ap₂ one_more (h n (omega arith)) (count_ext f g n (λ i l. h i (omega arith)))

pub count_le : (g : ℕ → Bool) (n : ℕ) → count g n ≤ n
unfolding count
count_le g zero = omega arith
count_le g (suc n) = go (g n) (count_le g n)
  where
    go : (b : Bool) → count g n ≤ n → one_more b (count g n) ≤ suc n
    go true h = omega arith
    go false h = omega arith

pub count_none : (g : ℕ → Bool) (n : ℕ) → ((i : ℕ) → i < n → T (g i) → ⊥) → count g n ≡ 0
count_none g n h = le-zero (le_of_not_lt (λ q. let w = last_one g n 0 q in h w.0 w.1 w.2))
