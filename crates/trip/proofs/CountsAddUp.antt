-- Document 02, T-02: "so the thirteen counts for a window add up to the table's trips": of any list of trips that are not backward, those kept by each
-- of the thirteen codes are all of them; and those kept by the codes below BEFORE's are those that G-OVERLAPS keeps.
use mathlib.Core.Path.{◌≡◌, ap, ◌∙◌}
use mathlib.Core.Bool.{Bool, true, false, not, ◌&&◌}
use mathlib.Core.List.{List, Memᴰ as Mem}
use Prim.Native.Nat.{ℕ, ◌≤◌}
use native.Mathlib.Omega.{arith}
use lib.ListN.{length}
use Rattle.lists.specs.Lists.{one_more, count, sum_to, keep}
use Rattle.lists.proofs.Kept.{keep_all}
use Rattle.lists.proofs.Sums.{sum_kept}
use Rattle.trip.specs.declared.Trip.{Trip}
use Rattle.trip.specs.declared.Window.{Window}
use Rattle.trip.specs.declared.Relationship.TheVariants.{Before, After, GOverlaps}
use Rattle.trip.specs.Relationships.{code_of, related, thirteen, holds_by, code_holds}
use Rattle.trip.proofs.ExactlyOne.{all_thirteen, neither_before_nor_after}

-- ---- of one trip

-- where one of three kinds is counted, and the last two are a and b, the first counts 1 exactly where neither is
rest : (a b : Bool) (n : ℕ) → one_more a (one_more b n) ≡ 1 → n ≡ one_more (not b && not a) 0
rest true true n e = absurd (omega arith)
rest true false n e = omega arith
rest false true n e = omega arith
rest false false n e = omega arith

module _ (q : Window) (t : Trip) (forward : q.start.0 ≤ q.end.0) (runs : t.start.0 ≤ t.end.0) where
  below-before : count (λ code. code_holds code q t) (code_of Before) ≡ one_more (related GOverlaps q t) 0
  unfolding count code_of holds_by
  below-before = rw (neither_before_nor_after q t) (rest (related After q t) (related Before q t) _ (all_thirteen q t forward runs))

-- ---- of a list of trips

module _ (q : Window) (forward : q.start.0 ≤ q.end.0) (ts : List Trip) (run : (t : Trip) → Mem t ts → t.start.0 ≤ t.end.0) where
  pub thirteen_kept : sum_to (λ code. length (keep (code_holds code q) ts)) thirteen ≡ length ts
  thirteen_kept =
      sum_kept (λ code t. code_holds code q t) (λ t. true) ts thirteen (λ t m. all_thirteen q t forward (run t m))
      ∙ ap length (keep_all (λ t. true) ts (λ t m. tt))

  pub overlapping_kept : sum_to (λ code. length (keep (code_holds code q) ts)) (code_of Before) ≡ length (keep (related GOverlaps q) ts)
  overlapping_kept =
      sum_kept (λ code t. code_holds code q t) (related GOverlaps q) ts (code_of Before) (λ t m. below-before q t forward (run t m))
