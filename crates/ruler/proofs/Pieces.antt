-- How many pieces there are, by digits: below the highest digit at which the cell before the first and the one after the last differ, each zero of the
-- one and each digit set of the other is a piece.
use mathlib.Core.Path.{◌≡◌, refl, sym, ap, ap₂, ◌∙◌}
use Prim.Native.Nat.{ℕ, zero, suc, ◌+◌, ◌-◌, ◌*◌, ◌/◌, ◌%◌, ◌^◌, ◌≤◌, ◌<◌}
use native.Mathlib.Nat.{two-pow-succ, mod-lt, mod-one, div-eq_of_lt, le-div_iff_mul-le}
use native.Mathlib.Decide.{dec_lt}
use native.Mathlib.Omega.{arith}
use lib.Bits.{bit_xor, xor_lt, xor_add_and, and_le_l, and_le_r, xor_shr, xor_self}
use lib.Count.{ones, ones_step, ones_cat}
use lib.Pow.{pow_pos, pow_mono, mod-pow-add, shr-shr}
use borrow.Author.Tests.{le-leb, lt-leb}
use Rattle.ruler.specs.Ruler.{deepest, pieces}

pub pieces_none : (n x y : ℕ) → y ≤ x → pieces n x y ≡ 0
unfolding pieces
pieces_none zero x y h = refl
pieces_none (suc n) x y h = rw (le-leb y x h)

pieces_turn : (n x y : ℕ) → x < y → pieces (suc n) x y ≡ x % 2 + y % 2 + pieces n ((x + 1) / 2) (y / 2)
unfolding pieces
pieces_turn n x y h = rw (lt-leb y x h)

-- from the first cell on
pub pieces_first : (n y : ℕ) → y < 2 ^ n → pieces n 0 y ≡ ones y
unfolding ones
pieces_first zero y h = let e : y ≡ 0 = omega arith in rw e (pieces_none 0 0 0 (omega arith))
pieces_first (suc n) y h = go (dec_lt 0 y) (pieces_first n (y / 2) (omega (arith, two-pow-succ n)))
  where
    go : Dec (0 < y) → pieces n 0 (y / 2) ≡ ones (y / 2) → pieces (suc n) 0 y ≡ ones y
    go (yes l) ih = omega (arith, pieces_turn n 0 y l, ih, ones_step y)
    go (no l) ih = let e : y ≡ 0 = omega arith in rw e (pieces_none (suc n) 0 0 (omega arith))

-- one digit of a number's low digits, and the others
low_digit : (n d : ℕ) → n % 2 ^ suc d ≡ n / 2 % 2 ^ d * 2 + n % 2
low_digit n d = let e : suc d ≡ d + 1 = omega arith in rw e (mod-pow-add n d 1)

-- one level up
halved : (n k : ℕ) → n / 2 ^ suc k ≡ n / 2 / 2 ^ k
halved n k = let e : suc k ≡ 1 + k = omega arith in rw e (sym (shr-shr n 1 k))

-- the zeros among the low digits of p, and the digits set among those of y
zeros_up : (D p : ℕ) → ones (2 ^ suc D - 1 - p % 2 ^ suc D) ≡ (p + 1) % 2 + ones (2 ^ D - 1 - p / 2 % 2 ^ D)
zeros_up D p =
    let n = 2 ^ suc D - 1 - p % 2 ^ suc D in
    let low = low_digit p D in
    let small = mod-lt (p / 2) (pow_pos D) in
    let digit : n % 2 ≡ (p + 1) % 2 = omega (arith, two-pow-succ D) in
    let rest : n / 2 ≡ 2 ^ D - 1 - p / 2 % 2 ^ D = omega (arith, two-pow-succ D) in
    ones_step n ∙ ap₂ (λ (a b : ℕ). a + ones b) digit rest

set_up : (D y : ℕ) → ones (y % 2 ^ suc D) ≡ y % 2 + ones (y / 2 % 2 ^ D)
set_up D y =
    let n = y % 2 ^ suc D in
    let low = low_digit y D in
    let digit : n % 2 ≡ y % 2 = omega arith in
    let rest : n / 2 ≡ y / 2 % 2 ^ D = omega arith in
    ones_step n ∙ ap₂ (λ (a b : ℕ). a + ones b) digit rest

turn_up : (n p y : ℕ) → p / 2 < y / 2 → pieces (suc n) (p + 1) y ≡ (p + 1) % 2 + y % 2 + pieces n (p / 2 + 1) (y / 2)
turn_up n p y l = go (dec_lt (p + 1) y)
  where
    go : Dec (p + 1 < y) → pieces (suc n) (p + 1) y ≡ (p + 1) % 2 + y % 2 + pieces n (p / 2 + 1) (y / 2)
    go (yes g) = let q : (p + 1 + 1) / 2 ≡ p / 2 + 1 = omega arith in pieces_turn n (p + 1) y g ∙ rw q
    go (no g) = omega (arith, pieces_none (suc n) (p + 1) y (omega arith), pieces_none n (p / 2 + 1) (y / 2) (omega arith))

-- p before the first cell, y after the last, D the highest digit at which they differ
pub pieces_digits : (D n p y : ℕ) → D < n → p < y → p / 2 ^ suc D ≡ y / 2 ^ suc D → (p / 2 ^ D ≡ y / 2 ^ D → ⊥)
    → pieces n (p + 1) y ≡ ones (2 ^ D - 1 - p % 2 ^ D) + ones (y % 2 ^ D)
unfolding ones
pieces_digits zero n p y h l e f = rw (mod-one p, mod-one y) (pieces_none n (p + 1) y (omega (arith, e)))
pieces_digits (suc D) zero p y h l e f = absurd (omega arith)
pieces_digits (suc D) (suc n) p y h l e f =
    let apart : p / 2 / 2 ^ D ≡ y / 2 / 2 ^ D → ⊥ = λ q. f (halved p D ∙ q ∙ sym (halved y D)) in
    let other : p / 2 ≡ y / 2 → ⊥ = λ q. apart (ap (λ (k : ℕ). k / 2 ^ D) q) in
    let less : p / 2 < y / 2 = omega arith in
    let ih = pieces_digits D n (p / 2) (y / 2) (omega arith) less (sym (halved p (suc D)) ∙ e ∙ halved y (suc D)) apart in
    omega (arith, turn_up n p y less, ih, zeros_up D p, set_up D y)

-- that digit is told by the numbers' exclusive or
xor_same : (a b : ℕ) → bit_xor a b ≡ 0 → a ≡ b
xor_same a b e = omega (arith, xor_add_and a b, and_le_l a b, and_le_r a b, e)

pub differ-below : (p y D : ℕ) → bit_xor p y < 2 ^ suc D → p / 2 ^ suc D ≡ y / 2 ^ suc D
differ-below p y D h = xor_same (p / 2 ^ suc D) (y / 2 ^ suc D) (sym (xor_shr p y (suc D)) ∙ div-eq_of_lt h)

pub differ_at : (p y D : ℕ) → 2 ^ D ≤ bit_xor p y → p / 2 ^ D ≡ y / 2 ^ D → ⊥
differ_at p y D h e =
    let none : bit_xor p y / 2 ^ D ≡ 0 = xor_shr p y D ∙ ap (λ (k : ℕ). bit_xor k (y / 2 ^ D)) e ∙ xor_self (y / 2 ^ D) in
    let some : 1 ≤ bit_xor p y / 2 ^ D = (le-div_iff_mul-le (pow_pos D)).1 (omega (arith, h)) in
    omega arith

pub xor_some : (p y : ℕ) → p < y → 0 < bit_xor p y
xor_some p y h = omega (arith, xor_add_and p y, and_le_l p y)

-- what the code counts from a cell a that is not the first, to b, by the highest digit d at which both differ: both numbers in one word
module _ (m a b d : ℕ) (deep : m ≤ deepest) (some : 0 < a) (ordered : a ≤ b) (inside : b < 2 ^ m) (least : 2 ^ d ≤ bit_xor (a - 1) (b + 1))
    (under : bit_xor (a - 1) (b + 1) < 2 * 2 ^ d) where
  level : d < m + 1
  level = go (dec_lt d (m + 1))
    where
      go : Dec (d < m + 1) → d < m + 1
      go (yes l) = l
      go (no l) =
          let up : suc m ≤ d = omega arith in
          let few = let t = two-pow-succ m in xor_lt (suc m) (a - 1) (b + 1) (omega arith) (omega (arith, pow_pos m)) in
          absurd (omega (arith, few, least, pow_mono up))

  pub share_small : 2 ^ d ≤ 2 ^ deepest
  share_small = let l : d ≤ deepest = omega (arith, level) in pow_mono l

  pub counted : ones ((2 ^ d - 1 - (a - 1) % 2 ^ d) * 2 ^ 16 + (b + 1) % 2 ^ d) ≡ pieces (m + 1) a (b + 1)
  counted =
      let back : a - 1 + 1 ≡ a = omega arith in
      let small = mod-lt (b + 1) (pow_pos d) in
      let below : bit_xor (a - 1) (b + 1) < 2 ^ suc d = omega (arith, two-pow-succ d, under) in
      ones_cat 16 (2 ^ d - 1 - (a - 1) % 2 ^ d) ((b + 1) % 2 ^ d) (omega (arith, small, share_small))
      ∙ sym (pieces_digits d (m + 1) (a - 1) (b + 1) level (omega arith) (differ-below (a - 1) (b + 1) d below) (differ_at (a - 1) (b + 1) d least))
      ∙ ap (λ (x : ℕ). pieces (m + 1) x (b + 1)) back
