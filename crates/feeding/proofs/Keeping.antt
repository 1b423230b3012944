-- One byte more of a line: it is kept where there is room, and else nothing changes.
-- Assumes nothing.
use mathlib.Core.Path.{◌≡◌, sym, ap, ◌∙◌}
use mathlib.Core.List.{List, [], ◌∷◌, ◌++◌}
use Prim.Native.Nat.{ℕ, ◌+◌, ◌≤◌, ◌<◌}
use native.Mathlib.Numerals.{add-one}
use native.Mathlib.Omega.{arith}
use lib.ListN.{length, take, set, length-append, length-take}
use lib.Seq.{take_all, take_at, take-suc-set}
use Rattle.lists.specs.Lists.{padded}
use Rattle.lists.proofs.Padded.{padded-length, padded-more}
use Rattle.feeding.specs.Line.{line_kept, Kept}

-- the room holds so many bytes
pub count_back : (room : List ℕ) (n : ℕ) → Kept room n → length (take n room) ≡ n
count_back room n kept =
    let whole = ap length kept.zeros ∙ padded-length line_kept (take n room) (omega (arith, length-take n room, kept.within)) in
    omega (arith, length-take n room, kept.within, whole)

module _ (room : List ℕ) (n b : ℕ) (kept : Kept room n) where
  abbrev line : List ℕ
  line = take n room

  module _ (more : n < line_kept) where
    next-line : take (n + 1) (set room n b) ≡ line ++ (b ∷ [])
    next-line =
        let whole = ap length kept.zeros ∙ padded-length line_kept line (omega (arith, length-take n room, kept.within)) in
        rw add-one (take-suc-set room n b (omega (arith, whole)))

    pub kept_more : Kept (set room n b) (n + 1)
    kept_more =
        let count = count_back room n kept in
        let zeros : set room n b ≡ padded line_kept (line ++ (b ∷ [])) =
        ap (λ (m : List ℕ). set m n b) kept.zeros ∙ ap (λ (k : ℕ). set (padded line_kept line) k b) (sym count)
        ∙ padded-more line_kept line b (omega (arith, count)) in
        record { within = omega arith; zeros = rw next-line zeros }

    pub kept_push : take (n + 1) (set room n b) ≡ take line_kept (line ++ (b ∷ []))
    kept_push =
        let count = length-append line (b ∷ []) in
        next-line ∙ sym (take_all line_kept (line ++ (b ∷ [])) (omega (arith, count, count_back room n kept)))

  pub kept_full : line_kept ≤ n → line ≡ take line_kept (line ++ (b ∷ []))
  kept_full h = sym (take_at line (b ∷ []) line_kept (omega (arith, count_back room n kept, kept.within)))
