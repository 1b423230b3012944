-- Document 02, T-02: "exactly one of codes 0 to 12 holds for any window and trip, points too". Computed for all windows and trips of the times 0 to 3; any
-- other window and trip stand as the ranks of their four times do.
use Rattle.trip.specs.declared.Relationship.{Relationship}
use Rattle.std.proofs.Common.{None, Option, Some}
use mathlib.Core.Path.{◌≡◌, refl, sym, ap₂, ◌∙◌}
use mathlib.Core.Bool.{Bool, not, ◌&&◌, ◌||◌, and_comm}
use mathlib.Core.List.Memᴰ.{head as here}
use mathlib.Core.List.Memᴰ.{tail as there}
use Prim.Native.Nat.{ℕ, ◌≤◌, ◌<◌}
use native.Mathlib.Omega.{arith}
use lib.Dec.{T, ltb, eqb, ltb→lt, eqb→eq}
use Rattle.lists.specs.Lists.{every, count, up_to}
use Rattle.lists.proofs.Tests.{of_or_not}
use Rattle.lists.proofs.Counts.{count_ext, one_counted}
use Rattle.lists.proofs.Upto.{every-up_to}
use Rattle.trip.specs.declared.Trip.{Trip}
use Rattle.trip.specs.declared.Window.{Window}
use Rattle.trip.specs.declared.Relationship.TheVariants.{Before, After, GOverlaps}
use Rattle.trip.specs.Relationships.{named, related, thirteen, holds_by, code_holds}
use Rattle.trip.specs.Trips.{trip_of, window_of}
use Rattle.trip.proofs.Ranks.{no_later_lem, rank, rank_rises, rank_below, four, ranked_window, ranked_trip, by_rank}

-- ---- all windows and trips of four times

abbrev times : ℕ
times = 4

-- how many of the thirteen hold for the window a to b and the trip c to d
abbrev how_many : (a b c d : ℕ) → ℕ
how_many a b c d = count (λ code. code_holds code (window_of a b) (trip_of 0 c d 0)) thirteen

-- one, where neither is backward
abbrev one_holds : (a b c d : ℕ) → Bool
one_holds a b c d = ltb b a || (ltb d c || eqb (how_many a b c d) 1)

abbrev for_all : (ℕ → Bool) → Bool
for_all f = every (up_to f times)

computed : T (for_all (λ a. for_all (λ b. for_all (λ c. for_all (λ d. one_holds a b c d)))))
unfolding every up_to count holds_by related
computed = tt

one_holds_lem : (a b c d : ℕ) → a ≤ b → b < times → c ≤ d → d < times → how_many a b c d ≡ 1
one_holds_lem a b c d ab hb cd hd =
    let of_a = every-up_to (λ a. for_all (λ b. for_all (λ c. for_all (λ d. one_holds a b c d)))) times a (omega arith) computed in
    let of-b = every-up_to (λ b. for_all (λ c. for_all (λ d. one_holds a b c d))) times b hb of_a in
    let of_c = every-up_to (λ c. for_all (λ d. one_holds a b c d)) times c (omega arith) of-b in
    let of-d = every-up_to (λ d. one_holds a b c d) times d hd of_c in
    let one = of_or_not (ltb b a) (ltb d c || eqb (how_many a b c d) 1) (λ p. omega (arith, ltb→lt)) of-d in
    eqb→eq (how_many a b c d) 1 (of_or_not (ltb d c) (eqb (how_many a b c d) 1) (λ p. omega (arith, ltb→lt)) one)

-- ---- any window and trip, neither of them backward

module _ (q : Window) (s : Trip) (forward : q.start.0 ≤ q.end.0) (runs : s.start.0 ≤ s.end.0) where
  by_ranks : (code : ℕ) → code_holds code q s ≡ code_holds code (ranked_window q s) (ranked_trip q s)
  unfolding holds_by
  by_ranks code = go (named code)
    where
      go : (n : Option Relationship) → holds_by n q s ≡ holds_by n (ranked_window q s) (ranked_trip q s)
      go (Some r) = sym (by_rank q s r)
      go None = refl

  pub all_thirteen : count (λ code. code_holds code q s) thirteen ≡ 1
  all_thirteen =
      count_ext _ _ thirteen (λ code h. by_ranks code)
      ∙ one_holds_lem (rank (four q s) q.start) (rank (four q s) q.end) (rank (four q s) s.start) (rank (four q s) s.end)
      (rank_rises (four q s) q.start q.end forward) (rank_below (four q s) q.end (there (here refl)))
      (rank_rises (four q s) s.start s.end runs) (rank_below (four q s) s.end (there (there (there (here refl)))))

  -- there is a code that holds, and any of the thirteen that holds is that one
  pub one_of_thirteen : (code : ℕ) × (code < thirteen) × T (code_holds code q s) × ((other : ℕ) → other < thirteen → T (code_holds other q s) → other ≡ code)
  one_of_thirteen = one_counted (λ code. code_holds code q s) thirteen all_thirteen

-- ---- G-OVERLAPS holds exactly where neither BEFORE nor AFTER does

pub neither_before_nor_after : (q : Window) (s : Trip) → related GOverlaps q s ≡ (not (related Before q s) && not (related After q s))
unfolding related
neither_before_nor_after q s =
    ap₂ ◌&&◌ (no_later_lem q.start s.end) (no_later_lem s.start q.end) ∙ and_comm (not (related After q s)) (not (related Before q s))
