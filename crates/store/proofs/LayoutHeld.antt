-- From the words of a half to the layout of document 01, and back: words that hold the slots of a table are its directory half and its
-- arena. And one slot of many changed.
use mathlib.Core.Path.{◌≡◌, refl, sym, ap, ap₂, ◌∙◌}
use mathlib.Core.Logic.{◌≢◌}
use mathlib.Core.List.{List, [], ◌∷◌, ◌++◌, append-nil}
use Prim.Native.Nat.{ℕ, zero, suc, ◌+◌, ◌-◌, ◌*◌, ◌<◌}
use native.Mathlib.Nat.{zero-add, add-zero}
use native.Mathlib.Numerals.{add-one}
use native.Mathlib.Omega.{arith}
use lib.ListN.{length, get_or, set, replicate, length-append, length-replicate}
use Rattle.lists.specs.Lists.{joined, up_to, padded}
use Rattle.lists.proofs.Upto.{get_or_up_to}
use Rattle.lists.proofs.Replaced.{up_to-set}
use Rattle.ruler.specs.Ruler.{Scale}
use Rattle.trip.specs.declared.Trip.{Trip}
use Rattle.layout.specs.declared.Half.{Half}
use Rattle.layout.specs.Words.{words, partitions, half_length, slot, entries_before, entries, directory_half}
use Rattle.layout.specs.Words as laid
use Rattle.store.specs.Slots.{flat, starts_from, Holds}
use Rattle.store.proofs.Parts.{flat_append}

-- ---- slots f 0, f 1, .., f (n - 1)

pub flat-up_to : (f : ℕ → List Trip) (n : ℕ) → flat (up_to f n) ≡ joined f n
unfolding joined up_to
flat-up_to f zero = refl
flat-up_to f (suc n) = flat_append (up_to f n) (f n ∷ []) ∙ ap₂ ◌++◌ (flat-up_to f n) (append-nil (f n))

starts_more : (n : ℕ) (ls : List (List Trip)) (x : List Trip)
    → starts_from n (ls ++ (x ∷ [])) ≡ starts_from n ls ++ ((n + length (flat ls) + length x) ∷ [])
starts_more n [] x = rw add-zero
starts_more n (l ∷ ls) x =
    let e : n + length l + length (flat ls) + length x ≡ n + length (l ++ flat ls) + length x = rw length-append (omega arith) in
    ap (λ (y : List ℕ). n ∷ y) (starts_more (n + length l) ls x ∙ ap (λ (i : ℕ). starts_from (n + length l) ls ++ (i ∷ [])) e)

pub starts-up_to : (f : ℕ → List Trip) (n : ℕ) → starts_from 0 (up_to f n) ≡ up_to (λ k. length (joined f k)) (suc n)
unfolding joined up_to
starts-up_to f zero = refl
starts-up_to f (suc n) =
    starts_more 0 (up_to f n) (f n)
    ∙ ap₂ ◌++◌ (starts-up_to f n) (ap (λ (i : ℕ). i ∷ []) (rw (flat-up_to f n, zero-add) (sym (length-append (joined f n) (f n)))))

-- one slot changed by c, and the others as they are: an entry put in (c = inserted p t), taken out (removed p), or a slot put in order
pub changed_slot : (c : List Trip → List Trip) (f g : ℕ → List Trip) (n s : ℕ) → s < n → g s ≡ c (f s) → ((k : ℕ) → k < n → k ≢ s → g k ≡ f k)
    → set (up_to f n) s (c (get_or (up_to f n) s [])) ≡ up_to g n
changed_slot c f g n s h e other = up_to-set f g n s (c (get_or (up_to f n) s [])) h (e ∙ ap c (sym (get_or_up_to f n s [] h))) other

-- ---- the slots of a table

abbrev pub table_slots : Scale → Half → List Trip → List (List Trip)
table_slots s h ts = up_to (slot s h ts) (2 * partitions s.m)

module _ (s : Scale) (h : Half) (ts : List Trip) where
  starts_laid : starts_from 0 (table_slots s h ts) ≡ directory_half s h ts
  unfolding directory_half half_length entries_before
  starts_laid = starts-up_to (slot s h ts) (2 * partitions s.m) ∙ rw add-one

  flat_laid : flat (table_slots s h ts) ≡ entries s h ts
  unfolding entries entries_before
  flat_laid = flat-up_to (slot s h ts) (2 * partitions s.m)

  -- words that hold the slots of a table are its layout
  pub holds_laid : (dir arena : List ℕ) → Holds dir arena (table_slots s h ts)
      → (dir ≡ directory_half s h ts) × (arena ≡ laid.arena s h ts (length arena))
  unfolding laid.arena padded
  holds_laid dir arena w =
      let l = words (entries s h ts) in
      let e : arena ≡ l ++ replicate w.free 0 = w.entries ∙ ap (λ (x : List Trip). words x ++ replicate w.free 0) flat_laid in
      let size : length arena ≡ length l + w.free =
      ap length e ∙ length-append l (replicate w.free 0) ∙ ap (λ (k : ℕ). length l + k) (length-replicate w.free 0) in
      let left : w.free ≡ length arena - length l = omega arith in
      (w.counts ∙ starts_laid, e ∙ ap (λ (k : ℕ). l ++ replicate k 0) left)

  -- and the layout of a table holds its slots
  pub laid_holds : (dir arena : List ℕ) (n : ℕ) → dir ≡ directory_half s h ts → arena ≡ laid.arena s h ts n → Holds dir arena (table_slots s h ts)
  unfolding laid.arena padded
  laid_holds dir arena n d a = record {
    counts = d ∙ sym starts_laid;
    free = n - length (words (entries s h ts));
    entries = a ∙ ap (λ (x : List Trip). words x ++ replicate (n - length (words (entries s h ts))) 0) (sym flat_laid);
  }
