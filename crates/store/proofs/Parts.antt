-- The part of the arena between the directory's words j and k: where it is there; the slots j .. k - 1 in it, their words and their rows; one
-- slot; and a slot whose part comes back changed.
use mathlib.Core.Path.{◌≡◌, refl, sym, ap, ap₂, ◌∙◌}
use mathlib.Core.Bool.{true, ◌&&◌}
use mathlib.Core.List.{List, [], ◌∷◌, ◌++◌, append_assoc, append-nil}
use Prim.Native.Nat.{ℕ, zero, suc, ◌+◌, ◌-◌, ◌*◌, ◌/◌, ◌≤◌, ◌<◌}
use native.Mathlib.Omega.{arith}
use lib.Dec.{leb, leb→le, le→leb}
use lib.ListN.{length, get_or, set, take, drop, replicate, length-append, length-drop, take-append-drop}
use lib.Seq.{length-take-le, take_at, drop_at, take-add, drop-drop, drop-cons, set_split}
use borrow.Rule.Slice.PartMut.{put_mid}
use Rattle.lists.proofs.Tests.{of_and, to_and, to_T, of_T}
use Rattle.lists.specs.Lists.{joined}
use Rattle.ruler.specs.Ruler.{Scale}
use Rattle.trip.specs.declared.Trip.{Trip}
use Rattle.layout.specs.declared.Half.{Half}
use Rattle.layout.specs.Words.{entry_words, words, rows, partitions, slot}
use Rattle.layout.proofs.ByDirectory.{LaidFrom, slots_rise, slots_room, slots_part}
use Rattle.layout.proofs.Rows.{words-add, words_le, words_append, words-length, rows_words}
use Rattle.store.specs.Slots.{flat, starts_from, Holds}
use Rattle.store.specs.Parts.{part_words, PartThere, part_inside, part_in}
use Rattle.store.proofs.Slots.{ahead_flat, holds_slots, holds-start}

-- ---- a part that is there

module _ (dir arena : List ℕ) (j k : ℕ) where
  abbrev starts : ℕ
  starts = entry_words * get_or dir j 0

  abbrev ends : ℕ
  ends = entry_words * get_or dir k 0

  pub of_inside : part_inside dir arena j k ≡ true → (starts ≤ ends) × (ends ≤ length arena)
  of_inside e =
      let w = of_and (leb starts ends) (leb ends (length arena)) (to_T e) in
      (leb→le starts ends w.0, leb→le ends (length arena) w.1)

  pub inside-there : (j < length dir) × (k < length dir) → part_inside dir arena j k ≡ true → PartThere dir arena j k
  inside-there h e =
      let w = of_inside e in
      record { from_in = h.0; to_in = h.1; rises = omega (arith, w); room = w.1 }

  pub part_words_lem : PartThere dir arena j k → part_in dir arena j k ≡ part_words dir arena j k
  unfolding part_in
  part_words_lem w =
      rw (of_T (leb starts ends && leb ends (length arena))
      (to_and (leb starts ends) (leb ends (length arena)) (le→leb starts ends (words_le w.rises)) (le→leb ends (length arena) w.room))) refl

  -- its words tell how many entries it has
  pub part_entries : PartThere dir arena j k → length (part_words dir arena j k) / entry_words ≡ get_or dir k 0 - get_or dir j 0
  unfolding part_words
  part_entries w =
      let long = length-take-le (ends - starts) (drop starts arena) (rw length-drop (omega (arith, w.room))) in
      omega (arith, long, w.rises)

-- ---- the words of a part as slots

pub flat_append : (ls ks : List (List Trip)) → flat (ls ++ ks) ≡ flat ls ++ flat ks
flat_append [] ks = refl
flat_append (l ∷ ls) ks = ap (λ (x : List Trip). l ++ x) (flat_append ls ks) ∙ sym (append_assoc l (flat ls) (flat ks))

-- the slots j .. k - 1
abbrev pub between : (j k : ℕ) → List (List Trip) → List (List Trip)
between j k ls = take (k - j) (drop j ls)

-- ---- a stretch of slots

module _ (dir arena : List ℕ) (ls : List (List Trip)) (j k : ℕ) (h : Holds dir arena ls) (order : j ≤ k) (inside : k ≤ length ls) where
  -- the words before the stretch, and those after it
  first : List ℕ
  first = words (flat (take j ls))

  rest : List ℕ
  rest = words (flat (drop k ls)) ++ replicate h.free 0

  three : ls ≡ take j ls ++ (between j k ls ++ drop k ls)
  three =
      let e : j + (k - j) ≡ k = omega arith in
      let after : drop (k - j) (drop j ls) ≡ drop k ls = drop-drop (k - j) j ls ∙ ap (λ (n : ℕ). drop n ls) e in
      let from : drop j ls ≡ between j k ls ++ drop k ls =
      sym (take-append-drop (k - j) (drop j ls)) ∙ ap (λ (x : List (List Trip)). between j k ls ++ x) after in
      sym (take-append-drop j ls) ∙ ap (λ (x : List (List Trip)). take j ls ++ x) from

  stretch-whole : arena ≡ first ++ (words (flat (between j k ls)) ++ rest)
  unfolding first rest
  stretch-whole =
      let a = flat (take j ls) in
      let b = flat (between j k ls) in
      let c = flat (drop k ls) in
      let all : flat ls ≡ a ++ (b ++ c) =
      ap flat three ∙ flat_append (take j ls) _ ∙ ap (λ (x : List Trip). a ++ x) (flat_append (between j k ls) (drop k ls)) in
      let in_words : words (flat ls) ≡ words a ++ (words b ++ words c) =
      ap words all ∙ words_append a (b ++ c) ∙ ap (λ (x : List ℕ). words a ++ x) (words_append b c) in
      h.entries ∙ ap (λ (x : List ℕ). x ++ replicate h.free 0) in_words
      ∙ simp append_assoc

  -- the two words of the directory
  many : get_or dir k 0 ≡ get_or dir j 0 + length (flat (between j k ls))
  many =
      let e : k ≡ j + (k - j) = omega arith in
      let all : flat (take k ls) ≡ flat (take j ls) ++ flat (between j k ls) =
      ap (λ (n : ℕ). flat (take n ls)) e ∙ ap flat (take-add j (k - j) ls) ∙ flat_append (take j ls) (between j k ls) in
      holds-start h k inside ∙ sym (ahead_flat k ls) ∙ ap length all ∙ length-append (flat (take j ls)) (flat (between j k ls))
      ∙ ap (λ (n : ℕ). n + length (flat (between j k ls))) (ahead_flat j ls ∙ sym (holds-start h j (omega arith)))

  first_length : length first ≡ entry_words * get_or dir j 0
  unfolding first
  first_length = words-length (flat (take j ls)) ∙ ap (λ (n : ℕ). entry_words * n) (ahead_flat j ls ∙ sym (holds-start h j (omega arith)))

  long : entry_words * get_or dir k 0 ≡ entry_words * get_or dir j 0 + length (words (flat (between j k ls)))
  long =
      ap (λ (n : ℕ). entry_words * n) many ∙ words-add (get_or dir j 0) (length (flat (between j k ls)))
      ∙ ap (λ (n : ℕ). entry_words * get_or dir j 0 + n) (sym (words-length (flat (between j k ls))))

  middle_length : length (words (flat (between j k ls))) ≡ entry_words * get_or dir k 0 - entry_words * get_or dir j 0
  middle_length = omega (arith, long)

  -- the part is there
  pub stretch-there : PartThere dir arena j k
  stretch-there =
      let size : length arena ≡ length first + (length (words (flat (between j k ls))) + length rest) =
      ap length stretch-whole ∙ length-append first _ ∙ ap (λ (n : ℕ). length first + n) (length-append (words (flat (between j k ls))) rest) in
      record {
        from_in = omega (arith, holds_slots h);
        to_in = omega (arith, holds_slots h);
        rises = omega (arith, many);
        room = omega (arith, long, first_length);
      }

  pub stretch-words : part_words dir arena j k ≡ words (flat (between j k ls))
  unfolding part_words
  stretch-words =
      let a = entry_words * get_or dir j 0 in
      let n = entry_words * get_or dir k 0 - a in
      let m = words (flat (between j k ls)) in
      ap (λ (x : List ℕ). take n (drop a x)) stretch-whole ∙ ap (take n) (drop_at first (m ++ rest) a first_length) ∙ take_at m rest n middle_length

  -- the arena with other words in the part's place
  stretch-put : (part : List ℕ)
      → put_mid (entry_words * get_or dir j 0) (entry_words * get_or dir k 0 - entry_words * get_or dir j 0) arena part ≡ first ++ (part ++ rest)
  stretch-put part =
      let a = entry_words * get_or dir j 0 in
      let n = entry_words * get_or dir k 0 - a in
      let m = words (flat (between j k ls)) in
      let front : take a arena ≡ first = ap (take a) stretch-whole ∙ take_at first (m ++ rest) a first_length in
      let back : drop n (drop a arena) ≡ rest =
      ap (λ (x : List ℕ). drop n (drop a x)) stretch-whole ∙ ap (drop n) (drop_at first (m ++ rest) a first_length)
      ∙ drop_at m rest n middle_length in
      ap₂ (λ (x y : List ℕ). x ++ (part ++ y)) front back

-- ---- one slot

one_slot : (k : ℕ) (ls : List (List Trip)) → k < length ls → flat (between k (k + 1) ls) ≡ get_or ls k []
one_slot k ls h =
    let e : k + 1 - k ≡ 1 = omega arith in
    ap (λ (n : ℕ). flat (take n (drop k ls))) e ∙ ap (λ (x : List (List Trip)). flat (take 1 x)) (drop-cons ls k [] h) ∙ append-nil (get_or ls k [])

starts-same : (n k : ℕ) (ls : List (List Trip)) (x : List Trip) → length x ≡ length (get_or ls k []) → starts_from n (set ls k x) ≡ starts_from n ls
starts-same n k [] x e = refl
starts-same n zero (l ∷ ls) x e = ap (λ (i : ℕ). n ∷ starts_from (n + i) ls) e
starts-same n (suc k) (l ∷ ls) x e = ap (λ (r : List ℕ). n ∷ r) (starts-same (n + length l) k ls x e)

module _ (dir arena : List ℕ) (ls : List (List Trip)) (k : ℕ) (h : Holds dir arena ls) (inside : k < length ls) where
  pub slot-there : PartThere dir arena k (k + 1)
  slot-there = stretch-there dir arena ls k (k + 1) h (omega arith) (omega arith)

  pub slot-words : part_words dir arena k (k + 1) ≡ words (get_or ls k [])
  slot-words = stretch-words dir arena ls k (k + 1) h (omega arith) (omega arith) ∙ ap words (one_slot k ls inside)

  pub slot-rows : rows (part_words dir arena k (k + 1)) ≡ get_or ls k []
  slot-rows = ap rows slot-words ∙ rows_words (get_or ls k [])

  -- the part of slot k came back with the words of other trips, as many: the slot has these
  pub slot_changed : (part : List ℕ) (x : List Trip) → part ≡ words x → length x ≡ length (get_or ls k [])
      → Holds dir (put_mid (entry_words * get_or dir k 0) (entry_words * get_or dir (k + 1) 0 - entry_words * get_or dir k 0) arena part) (set ls k x)
  unfolding first rest
  slot_changed part x is same =
      let e : suc k ≡ k + 1 = omega arith in
      let a = flat (take k ls) in
      let c = flat (drop (k + 1) ls) in
      let z : List ℕ = replicate h.free 0 in
      let all : flat (set ls k x) ≡ a ++ (x ++ c) =
      ap flat (set_split ls k x inside ∙ ap (λ (m : ℕ). take k ls ++ (x ∷ drop m ls)) e) ∙ flat_append (take k ls) (x ∷ drop (k + 1) ls) in
      let in_words : words (flat (set ls k x)) ≡ words a ++ (words x ++ words c) =
      ap words all ∙ words_append a (x ++ c) ∙ ap (λ (y : List ℕ). words a ++ y) (words_append x c) in
      record {
        counts = h.counts ∙ sym (starts-same 0 k ls x same);
        free = h.free;
        entries = stretch-put dir arena ls k (k + 1) h (omega arith) (omega arith) part ∙ ap (λ (y : List ℕ). words a ++ (y ++ (words c ++ z))) is
            ∙ sym (ap (λ (y : List ℕ). y ++ z) in_words ∙ simp append_assoc);
      }

-- ---- the slots of an index, from the word `base` of the directory on

module _ {s : Scale} {h : Half} {ts : List Trip} {d : List ℕ} {base : ℕ} {l : List ℕ} (w : LaidFrom s h ts d base l) where
  module _ (j c : ℕ) (in_half_lem : j + c ≤ 2 * partitions s.m) where
    pub laid_there : PartThere d l (base + j) (base + (j + c))
    laid_there = record {
      from_in = omega (arith, w.inside);
      to_in = omega (arith, w.inside);
      rises = slots_rise w j c in_half_lem;
      room = slots_room w j c in_half_lem;
    }

    pub laid_words : part_words d l (base + j) (base + (j + c)) ≡ words (joined (λ i. slot s h ts (j + i)) c)
    unfolding part_words
    laid_words = slots_part w j c in_half_lem

  -- one slot
  module _ (k : ℕ) (in_half_lem : k < 2 * partitions s.m) where
    next : base + (k + 1) ≡ base + k + 1
    next = omega arith

    pub laid_slot-there : PartThere d l (base + k) (base + k + 1)
    laid_slot-there = rw next at (laid_there k 1 (omega arith))

    pub laid_slot : part_words d l (base + k) (base + k + 1) ≡ words (slot s h ts k)
    unfolding joined
    laid_slot = let none : k + 0 ≡ k = omega arith in rw (next, none) at (laid_words k 1 (omega arith))
