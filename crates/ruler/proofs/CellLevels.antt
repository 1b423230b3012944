-- The cell of a level in which a deeper cell lies, for any m: a step towards level 0 halves it.
use mathlib.Core.Path.{◌≡◌, sym, ap, ◌∙◌}
use Prim.Native.Nat.{ℕ, suc, ◌+◌, ◌-◌, ◌*◌, ◌/◌, ◌^◌, ◌≤◌, ◌<◌}
use native.Mathlib.Nat.{mul-add-div_right, sub_self, div-one, le-div_iff_mul-le, div-lt_iff_lt-mul}
use native.Mathlib.Omega.{arith}
use lib.Pow.{pow_pos, pow-add, shr-shr, shr_mono, shr_lt}
use Rattle.ruler.specs.Ruler.{cell_up}

-- "each step from level m towards 0 halves it"
pub up_half : (m L c : ℕ) → suc L ≤ m → cell_up m L c ≡ cell_up m (suc L) c / 2
unfolding cell_up
up_half m L c h = let e : m - L ≡ m - suc L + 1 = omega arith in rw e (sym (shr-shr c (m - suc L) 1))

pub up_bottom : (m c : ℕ) → cell_up m m c ≡ c
unfolding cell_up
up_bottom m c = rw sub_self (div-one c)

pub up_lt : (m L c : ℕ) → L ≤ m → c < 2 ^ m → cell_up m L c < 2 ^ L
unfolding cell_up
up_lt m L c h l = let e : L + (m - L) ≡ m = omega arith in shr_lt L (m - L) (rw e l)

pub up_mono : (m L c d : ℕ) → c ≤ d → cell_up m L c ≤ cell_up m L d
unfolding cell_up
up_mono m L c d h = shr_mono (m - L) h

-- each level-L cell has 2 ^ (m - L) cells of level m; together they have all
pub all_cells : (m L : ℕ) → L ≤ m → 2 ^ L * 2 ^ (m - L) ≡ 2 ^ m
all_cells m L h = let e : L + (m - L) ≡ m = omega arith in sym (pow-add 2 L (m - L)) ∙ ap (λ (k : ℕ). 2 ^ k) e

-- the level-m cells of the level-L cell i are i × 2 ^ (m - L) and those after it, as many as 2 ^ (m - L)
pub up_from : (m L x i : ℕ) → i ≤ cell_up m L x → i * 2 ^ (m - L) ≤ x
unfolding cell_up
up_from m L x i h = (le-div_iff_mul-le (pow_pos (m - L))).0 h

pub up_to : (m L x i : ℕ) → cell_up m L x ≤ i → x < (i + 1) * 2 ^ (m - L)
unfolding cell_up
up_to m L x i h = (div-lt_iff_lt-mul (pow_pos (m - L))).0 (omega arith)

-- and no other cell has them
pub up_at : (m L x i : ℕ) → i * 2 ^ (m - L) ≤ x → x < (i + 1) * 2 ^ (m - L) → cell_up m L x ≡ i
unfolding cell_up
up_at m L x i h l =
    let from = (le-div_iff_mul-le {k = 2 ^ (m - L)} {x = i} {y = x} (pow_pos (m - L))).1 h in
    let to = (div-lt_iff_lt-mul {k = 2 ^ (m - L)} {x = x} {y = i + 1} (pow_pos (m - L))).1 l in
    omega arith

-- all level-m cells and some more lie in all level-L cells and so many more
pub up_all : (m L c : ℕ) → L ≤ m → (2 ^ m + c) / 2 ^ (m - L) ≡ 2 ^ L + cell_up m L c
unfolding cell_up
up_all m L c h = ap (λ (n : ℕ). (n + c) / 2 ^ (m - L)) (sym (all_cells m L h)) ∙ mul-add-div_right (pow_pos (m - L)) (2 ^ L) c
