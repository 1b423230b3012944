-- Document 01, "Ruler and cells", as definitions. Every test is a Bool and computes.
use Rattle.std.specs.Prelude.{Bool, cond, ◌&&◌, ℕ, zero, suc, ◌+◌, ◌-◌, ◌*◌, ◌/◌, ◌%◌, ◌^◌, leb, ltb, eqb}
use Rattle.std.specs.Int.Count.{count_trailing_zeros}
use Rattle.ruler.specs.declared.Time.{Time}
use Rattle.ruler.specs.declared.Cell.{Cell}
use Rattle.ruler.specs.declared.Numbers.{Numbers}
use Rattle.ruler.specs.declared.Numbers.TheVariants.{Bits, Spread}

-- "Times are whole seconds on the service day; as in GTFS Schedule they may pass 24:00:00."
abbrev pub time_at : (seconds : ℕ) → Time
time_at seconds = record { 0 = seconds }

abbrev pub before : Time → Time → Bool
before s t = ltb s.0 t.0

abbrev pub same_time : Time → Time → Bool
same_time s t = eqb s.0 t.0

abbrev pub no_later : Time → Time → Bool
no_later s t = leb s.0 t.0

-- the time one second later
abbrev pub next_time : Time → Time
next_time t = time_at (t.0 + 1)

-- "The widest ruler, the deepest level and the most trips, 4,096, are the ruler's own constants."
abbrev pub widest : ℕ
widest = 24

abbrev pub deepest : ℕ
deepest = 10

abbrev pub most_trips : ℕ
most_trips = 4096

-- "A ruler has w, 1 to 24, and m, 0 to 10 and at most w." Document 02, T-09: "Beside the present ruler add one with lo and hi, lo < hi < 2^24"; its m is
-- 0 to 10, whatever hi − lo is.
unfoldable pub in_bounds : Numbers → Bool
in_bounds (Bits w m) = leb 1 w && leb w widest && leb m deepest && leb m w
in_bounds (Spread m lo hi) = leb m deepest && ltb lo hi && ltb hi (2 ^ widest)

-- the numbers that a caller names a ruler of the first kind by, and the deepest level that numbers name
abbrev pub numbers_of : (w m : ℕ) → Numbers
numbers_of w m = Bits w m

abbrev pub bottom_of : Numbers → ℕ
bottom_of (Bits w m) = m
bottom_of (Spread m lo hi) = m

-- All that the index knows of a ruler: whether its numbers are in bounds, the number m of its deepest level, which raw times it has,
-- and the level-m cell of a time. Only this file says how a ruler makes its scale.
pub record Scale : Type 0 where
  pub good : Bool
  pub m : ℕ
  pub has : Time → Bool
  pub cell : Time → ℕ

-- "Raw times run from 0 to 2^w − 1." "The cell of time t at level L is the whole part of t / 2^(w − L)": here at level m; at each
-- other level it is `cell_up`, and the law `cell_at_level` says that this is the whole part of t / 2^(w − L).
-- T-09: "the level-m cell of t is the whole part of (t − lo) × (2^m − 1) / (hi − lo), and each step from level m towards 0 halves it. Times outside
-- lo..hi get 4, a bad lo, hi or m gets 1."
unfoldable pub scale_of : Numbers → Scale
scale_of (Bits w m) = record {
  good = in_bounds (Bits w m);
  m = m;
  has = λ t. ltb t.0 (2 ^ w);
  cell = λ t. t.0 / 2 ^ (w - m);
}
scale_of (Spread m lo hi) = record {
  good = in_bounds (Spread m lo hi);
  m = m;
  has = λ t. leb lo t.0 && leb t.0 hi;
  cell = λ t. (t.0 - lo) * (2 ^ m - 1) / (hi - lo);
}

-- both times are on the ruler, the first no later than the second
abbrev pub spans : Scale → (start end : Time) → Bool
spans s start end = s.has start && s.has end && no_later start end

-- the number of the level-L cell in which the level-m cell c lies: each step towards level 0 halves it
unfoldable pub cell_up : (m L c : ℕ) → ℕ
cell_up m L c = c / 2 ^ (m - L)

-- a cell at a level: the level, and the number of the cell there
abbrev pub cell_of : (level number : ℕ) → Cell
cell_of level number = record { 0 = level; 1 = number }

-- the level-m cell of a time
abbrev pub bottom_cell : Scale → Time → Cell
bottom_cell s t = cell_of s.m (s.cell t)

-- ---- what is done to cells

-- two cells of one level: the same, and the first of them no later
abbrev pub same_cell : Cell → Cell → Bool
same_cell c d = eqb c.1 d.1

abbrev pub no_later_cell : Cell → Cell → Bool
no_later_cell c d = leb c.1 d.1

-- the cell after it on its level; after the last one this is where a range of cells ends
abbrev pub next_cell : Cell → Cell
next_cell c = cell_of c.0 (c.1 + 1)

-- the cell of the level above in which it lies, and that of any level L above
abbrev pub cell_above : Cell → Cell
cell_above c = cell_of (c.0 - 1) (c.1 / 2)

abbrev pub cell_in : (L : ℕ) → Cell → Cell
cell_in L c = cell_of L (cell_up c.0 L c.1)

-- which of the two cells of the cell above it is, 0 or 1; and the one that is 0
abbrev pub parity : Cell → ℕ
parity c = c.1 % 2

abbrev pub first_of_two : Cell → Cell
first_of_two c = cell_of c.0 (c.1 / 2 * 2)

-- the first and the last level-m cell that lie in it
abbrev pub first_in : (m : ℕ) → Cell → Cell
first_in m c = cell_of m (c.1 * 2 ^ (m - c.0))

abbrev pub last_in : (m : ℕ) → Cell → Cell
last_in m c = cell_of m ((c.1 + 1) * 2 ^ (m - c.0) - 1)

-- it is the first of the cells of its level that lie in one cell of level L
unfoldable pub begins : Cell → (L : ℕ) → Bool
begins c L = eqb (c.1 % 2 ^ (c.0 - L)) 0

-- how many levels up it still is the first of the cells that lie in one: all levels where its number is 0, else as many as zeros end that number
abbrev pub levels_begun : Cell → ℕ
levels_begun c = count_trailing_zeros c.0 c.1

-- how many cells of this level and those above, each as large as can be, make up the cells from x on, up to y: of a level the first where it is the
-- second of two, and the last where it is the first of two, if any are left; for n levels
unfoldable pub pieces : (n x y : ℕ) → ℕ
pieces zero x y = zero
pieces (suc n) x y = cond (leb y x) 0 (x % 2 + y % 2 + pieces n ((x + 1) / 2) (y / 2))

-- as many cells as come before it, level after level from level 0 on
abbrev pub cell_rank : Cell → ℕ
cell_rank c = 2 ^ c.0 - 1 + c.1

-- ---- a ruler

-- what it keeps beside its numbers: its first and last time
unfoldable pub first_time_of : Numbers → ℕ
first_time_of (Bits w m) = 0
first_time_of (Spread m lo hi) = lo

unfoldable pub last_time_of : Numbers → ℕ
last_time_of (Bits w m) = 2 ^ w - 1
last_time_of (Spread m lo hi) = hi

-- And what a second counts for, so that a cell takes a product and no division. On either kind the cells climb so many steps over so many seconds (the law
-- `cell-climbs`). A second's share of a cell is counted in parts, 2^48 to the cell, and one part is added, so that no cell comes out too low (the law `by_shares`).
unfoldable pub steps_of : Numbers → ℕ
steps_of (Bits w m) = 2 ^ m
steps_of (Spread m lo hi) = 2 ^ m - 1

unfoldable pub span_of : Numbers → ℕ
span_of (Bits w m) = 2 ^ w
span_of (Spread m lo hi) = hi - lo

abbrev pub share_bits : ℕ
share_bits = 48

unfoldable pub share_of : Numbers → ℕ
share_of n = steps_of n * 2 ^ share_bits / span_of n + 1
