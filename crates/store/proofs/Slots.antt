-- Slots in words: what the code reads of a half, and what an entry more or less does to it.
use mathlib.Core.Path.{◌≡◌, refl, sym, ap, ap₂, ◌∙◌}
use mathlib.Core.List.{List, [], ◌∷◌, ◌++◌}
use Prim.Native.Nat.{ℕ, zero, suc, ◌+◌, ◌-◌, ◌*◌, ◌≤◌, ◌<◌}
use native.Mathlib.Nat.{le_of_suc-le-suc, not-suc-le-zero, add_assoc, add-zero, zero-add, suc-add}
use native.Mathlib.Numerals.{add-one}
use native.Mathlib.Omega.{arith}
use lib.ListN.{length, get_or, set, take, replicate, length-append, length-replicate, replicate-append-replicate}
use Rattle.trip.specs.declared.Trip.{Trip}
use Rattle.layout.specs.Words.{entry_words, words}
use Rattle.layout.proofs.Rows.{words-length}
use Rattle.store.specs.Entries.{put}
use Rattle.store.specs.Passes.{most_entries, from, ups, downs, opened, closed}
use Rattle.store.specs.Slots.{flat, starts_from, inserted, inserted_in, removed, removed_in, Holds, Room, There}
use Rattle.store.proofs.Gaps.{words-inserted, words-removed}

-- ---- the directory of slots

-- how many entries stand before slot s
abbrev pub ahead : ℕ → List (List Trip) → ℕ
ahead zero ls = 0
ahead (suc s) [] = 0
ahead (suc s) (l ∷ ls) = length l + ahead s ls

pub ahead_flat : (s : ℕ) (ls : List (List Trip)) → length (flat (take s ls)) ≡ ahead s ls
ahead_flat zero ls = refl
ahead_flat (suc s) [] = refl
ahead_flat (suc s) (l ∷ ls) = length-append l (flat (take s ls)) ∙ ap (λ (n : ℕ). length l + n) (ahead_flat s ls)

ahead_all : (ls : List (List Trip)) → ahead (length ls) ls ≡ length (flat ls)
ahead_all [] = refl
ahead_all (l ∷ ls) = rw length-append (ap (λ (n : ℕ). length l + n) (ahead_all ls))

ahead_slot : (s : ℕ) (ls : List (List Trip)) → ahead s ls + length (get_or ls s []) ≤ length (flat ls)
ahead_slot zero [] = omega arith
ahead_slot (suc s) [] = omega arith
ahead_slot zero (l ∷ ls) = rw length-append (omega arith)
ahead_slot (suc s) (l ∷ ls) = rw length-append (omega (arith, ahead_slot s ls))

pub length-starts : (n : ℕ) (ls : List (List Trip)) → length (starts_from n ls) ≡ length ls + 1
length-starts n [] = refl
length-starts n (l ∷ ls) = omega (arith, length-starts (n + length l) ls)

pub start_at : (n s : ℕ) (ls : List (List Trip)) → s ≤ length ls → get_or (starts_from n ls) s 0 ≡ n + ahead s ls
start_at n zero [] h = sym (add-zero n)
start_at n (suc s) [] h = absurd (not-suc-le-zero h)
start_at n zero (l ∷ ls) h = sym (add-zero n)
start_at n (suc s) (l ∷ ls) h = start_at (n + length l) s ls (le_of_suc-le-suc h) ∙ add_assoc n (length l) (ahead s ls)

start_most : (n k : ℕ) (ls : List (List Trip)) → get_or (starts_from n ls) k 0 ≤ n + length (flat ls)
start_most n zero [] = omega arith
start_most n (suc k) [] = omega arith
start_most n zero (l ∷ ls) = omega arith
start_most n (suc k) (l ∷ ls) = rw length-append (omega (arith, start_most (n + length l) k ls))

-- past a slot at least that slot's entries are counted
start_least : (n s k : ℕ) (ls : List (List Trip)) → s < k → k ≤ length ls → n + length (get_or ls s []) ≤ get_or (starts_from n ls) k 0
start_least n s zero ls h l = absurd (not-suc-le-zero h)
start_least n s (suc k) [] h l = absurd (not-suc-le-zero l)
start_least n zero (suc k) (x ∷ ls) h l = omega (arith, start_at (n + length x) k ls (le_of_suc-le-suc l))
start_least n (suc s) (suc k) (x ∷ ls) h l = omega (arith, start_least (n + length x) s k ls (le_of_suc-le-suc h) (le_of_suc-le-suc l))

start_last : (ls : List (List Trip)) → get_or (starts_from 0 ls) (length (starts_from 0 ls) - 1) 0 ≡ length (flat ls)
start_last ls =
    let e : length (starts_from 0 ls) - 1 ≡ length ls = omega (arith, length-starts 0 ls) in
    ap (λ (k : ℕ). get_or (starts_from 0 ls) k 0) e ∙ start_at 0 (length ls) ls (omega arith) ∙ zero-add (ahead (length ls) ls) ∙ ahead_all ls

-- a slot's list replaced by one of another length moves the starts after it
starts_up : (n : ℕ) (ls : List (List Trip)) → starts_from (n + 1) ls ≡ ups (starts_from n ls)
starts_up n [] = refl
starts_up n (l ∷ ls) =
    let e : n + 1 + length l ≡ n + length l + 1 = omega arith in
    ap (λ (r : List ℕ). (n + 1) ∷ r) (ap (λ (k : ℕ). starts_from k ls) e ∙ starts_up (n + length l) ls)

starts_down : (n : ℕ) (ls : List (List Trip)) → starts_from n ls ≡ downs (starts_from (n + 1) ls)
starts_down n [] = ap (λ (k : ℕ). k ∷ []) (omega arith)
starts_down n (l ∷ ls) =
    let e : n + length l + 1 ≡ n + 1 + length l = omega arith in
    let f : n ≡ n + 1 - 1 = omega arith in
    ap (λ (k : ℕ). k ∷ starts_from (n + length l) ls) f
    ∙ ap (λ (r : List ℕ). (n + 1 - 1) ∷ r) (starts_down (n + length l) ls ∙ ap (λ (k : ℕ). downs (starts_from k ls)) e)

starts_longer : (n s : ℕ) (x : List Trip) (ls : List (List Trip)) → s < length ls → length x ≡ length (get_or ls s []) + 1
    → starts_from n (set ls s x) ≡ from (suc s) ups (starts_from n ls)
starts_longer n s x [] h e = absurd (not-suc-le-zero h)
starts_longer n zero x (l ∷ ls) h e =
    let g : n + length x ≡ n + length l + 1 = omega arith in
    ap (λ (r : List ℕ). n ∷ r) (ap (λ (k : ℕ). starts_from k ls) g ∙ starts_up (n + length l) ls)
starts_longer n (suc s) x (l ∷ ls) h e = ap (λ (r : List ℕ). n ∷ r) (starts_longer (n + length l) s x ls (le_of_suc-le-suc h) e)

starts_shorter : (n s : ℕ) (x : List Trip) (ls : List (List Trip)) → s < length ls → length x + 1 ≡ length (get_or ls s [])
    → starts_from n (set ls s x) ≡ from (suc s) downs (starts_from n ls)
starts_shorter n s x [] h e = absurd (not-suc-le-zero h)
starts_shorter n zero x (l ∷ ls) h e =
    let g : n + length x + 1 ≡ n + length l = omega arith in
    ap (λ (r : List ℕ). n ∷ r) (starts_down (n + length x) ls ∙ ap (λ (k : ℕ). downs (starts_from k ls)) g)
starts_shorter n (suc s) x (l ∷ ls) h e = ap (λ (r : List ℕ). n ∷ r) (starts_shorter (n + length l) s x ls (le_of_suc-le-suc h) e)

-- ---- one list

length_inserted : (j : ℕ) (t : Trip) (l : List Trip) → length (inserted j t l) ≡ length l + 1
length_inserted zero t l = sym (add-one (length l))
length_inserted (suc j) t [] = refl
length_inserted (suc j) t (x ∷ l) = omega (arith, length_inserted j t l)

inserted-left : (j : ℕ) (t : Trip) (l r : List Trip) → j ≤ length l → inserted j t l ++ r ≡ inserted j t (l ++ r)
inserted-left zero t l r h = refl
inserted-left (suc j) t [] r h = absurd (not-suc-le-zero h)
inserted-left (suc j) t (x ∷ l) r h = ap (λ (s : List Trip). x ∷ s) (inserted-left j t l r (le_of_suc-le-suc h))

inserted_right : (j : ℕ) (t : Trip) (l r : List Trip) → l ++ inserted j t r ≡ inserted (length l + j) t (l ++ r)
inserted_right j t [] r = rw zero-add
inserted_right j t (x ∷ l) r = rw suc-add (ap (λ (s : List Trip). x ∷ s) (inserted_right j t l r))

length_removed : (j : ℕ) (l : List Trip) → j < length l → length (removed j l) + 1 ≡ length l
length_removed j [] h = absurd (not-suc-le-zero h)
length_removed zero (x ∷ l) h = add-one (length l)
length_removed (suc j) (x ∷ l) h = omega (arith, length_removed j l (le_of_suc-le-suc h))

removed-left : (j : ℕ) (l r : List Trip) → j < length l → removed j l ++ r ≡ removed j (l ++ r)
removed-left j [] r h = absurd (not-suc-le-zero h)
removed-left zero (x ∷ l) r h = refl
removed-left (suc j) (x ∷ l) r h = ap (λ (s : List Trip). x ∷ s) (removed-left j l r (le_of_suc-le-suc h))

removed_right : (j : ℕ) (l r : List Trip) → l ++ removed j r ≡ removed (length l + j) (l ++ r)
removed_right j [] r = rw zero-add
removed_right j (x ∷ l) r = rw suc-add (ap (λ (s : List Trip). x ∷ s) (removed_right j l r))

-- ---- all entries

flat-inserted : (s p : ℕ) (t : Trip) (ls : List (List Trip)) → s < length ls → p ≤ length (get_or ls s [])
    → flat (inserted_in s p t ls) ≡ inserted (ahead s ls + p) t (flat ls)
flat-inserted s p t [] h k = absurd (not-suc-le-zero h)
flat-inserted zero p t (l ∷ ls) h k = rw zero-add (inserted-left p t l (flat ls) k)
flat-inserted (suc s) p t (l ∷ ls) h k =
    ap (λ (r : List Trip). l ++ r) (flat-inserted s p t ls (le_of_suc-le-suc h) k) ∙ rw add_assoc (inserted_right (ahead s ls + p) t l (flat ls))

flat-removed : (s p : ℕ) (ls : List (List Trip)) → p < length (get_or ls s []) → flat (removed_in s p ls) ≡ removed (ahead s ls + p) (flat ls)
flat-removed zero p [] h = absurd (not-suc-le-zero h)
flat-removed (suc s) p [] h = absurd (not-suc-le-zero h)
flat-removed zero p (l ∷ ls) h = rw zero-add (removed-left p l (flat ls) h)
flat-removed (suc s) p (l ∷ ls) h =
    ap (λ (r : List Trip). l ++ r) (flat-removed s p ls h) ∙ rw add_assoc (removed_right (ahead s ls + p) l (flat ls))

-- ---- a half

pub holds_slots : {dir arena : List ℕ} {ls : List (List Trip)} → Holds dir arena ls → length dir ≡ length ls + 1
holds_slots {ls = ls} h = ap length h.counts ∙ length-starts 0 ls

pub holds-room : {dir arena : List ℕ} {ls : List (List Trip)} (h : Holds dir arena ls) → length arena ≡ entry_words * length (flat ls) + h.free
holds-room {ls = ls} h =
    ap length h.entries ∙ length-append (words (flat ls)) (replicate h.free 0) ∙ ap₂ ◌+◌ (words-length (flat ls)) (length-replicate h.free 0)

pub holds-total : {dir arena : List ℕ} {ls : List (List Trip)} → Holds dir arena ls → get_or dir (length dir - 1) 0 ≡ length (flat ls)
holds-total {ls = ls} h = ap (λ (d : List ℕ). get_or d (length d - 1) 0) h.counts ∙ start_last ls

pub holds-start : {dir arena : List ℕ} {ls : List (List Trip)} (h : Holds dir arena ls) (s : ℕ) → s ≤ length ls → get_or dir s 0 ≡ ahead s ls
holds-start {ls = ls} h s l = ap (λ (d : List ℕ). get_or d s 0) h.counts ∙ start_at 0 s ls l ∙ zero-add (ahead s ls)

-- what `insert` reads of the words
pub record RoomWords (dir arena : List ℕ) (slot pos : ℕ) : Type 0 where
  pub slot_in : slot + 1 < length dir
  pub pos_in : get_or dir slot 0 + pos ≤ get_or dir (length dir - 1) 0
  pub room : entry_words * get_or dir (length dir - 1) 0 + entry_words ≤ length arena
  pub few : (k : ℕ) → get_or dir k 0 < most_entries

pub room_words : {dir arena : List ℕ} {slot pos : ℕ} → (ls : List (List Trip)) × Room dir arena ls slot pos → RoomWords dir arena slot pos
room_words {slot = slot} (ls, r) =
    let h = r.holds in
    record {
      slot_in = omega (arith, holds_slots h, r.slot_in);
      pos_in = omega (arith, holds-start h slot (omega (arith, r.slot_in)), holds-total h, ahead_slot slot ls, r.pos_in);
      room = rw (holds-total h) r.room;
      few = λ k. omega (arith, ap (λ (d : List ℕ). get_or d k 0) h.counts, start_most 0 k ls, r.few);
    }

-- and what it leaves
pub room-inserted : (dir arena : List ℕ) (ls : List (List Trip)) (slot pos at used : ℕ) (t : Trip) → Room dir arena ls slot pos
    → at ≡ get_or dir slot 0 + pos → used ≡ get_or dir (length dir - 1) 0
    → Holds (from (slot + 1) ups dir) (put at t (opened (entry_words * at) (entry_words * used) arena)) (inserted_in slot pos t ls)
room-inserted dir arena ls slot pos at used t r a u =
    let h = r.holds in
    let l = get_or ls slot [] in
    let free : ℕ = h.free - entry_words in
    let some : h.free ≡ entry_words + free = omega (arith, holds-room h, r.room) in
    let zeros : replicate {A = ℕ} h.free 0 ≡ replicate entry_words 0 ++ replicate free 0 =
    ap (λ (k : ℕ). replicate k 0) some ∙ sym (replicate-append-replicate entry_words free 0) in
    let whole : arena ≡ words (flat ls) ++ (replicate entry_words 0 ++ replicate free 0) =
    h.entries ∙ ap (λ (z : List ℕ). words (flat ls) ++ z) zeros in
    let at-is : at ≡ ahead slot ls + pos = a ∙ ap (λ (k : ℕ). k + pos) (holds-start h slot (omega (arith, r.slot_in))) in
    let used-is : used ≡ length (flat ls) = u ∙ holds-total h in
    let inside : ahead slot ls + pos ≤ length (flat ls) = omega (arith, ahead_slot slot ls, r.pos_in) in
    record {
      counts = ap (from (slot + 1) ups) h.counts
          ∙ rw (add-one slot) (sym (starts_longer 0 slot (inserted pos t l) ls r.slot_in (length_inserted pos t l)));
      free = free;
      entries = rw (whole, at-is, used-is, flat-inserted slot pos t ls r.slot_in r.pos_in)
          (words-inserted (ahead slot ls + pos) t (flat ls) (replicate entry_words 0) (replicate free 0) inside (length-replicate {A = ℕ} entry_words 0));
    }

-- what `remove` reads of the words
pub record ThereWords (dir arena : List ℕ) (slot pos : ℕ) : Type 0 where
  pub slot_in : slot + 1 < length dir
  pub pos_in : get_or dir slot 0 + pos < get_or dir (length dir - 1) 0
  pub room : entry_words * get_or dir (length dir - 1) 0 ≤ length arena
  pub more : (k : ℕ) → slot + 1 ≤ k → k < length dir → 0 < get_or dir k 0

pub there_words : {dir arena : List ℕ} {slot pos : ℕ} → (ls : List (List Trip)) × There dir arena ls slot pos → ThereWords dir arena slot pos
there_words {slot = slot} (ls, r) =
    let h = r.holds in
    record {
      slot_in = omega (arith, holds_slots h, r.slot_in);
      pos_in = omega (arith, holds-start h slot (omega (arith, r.slot_in)), holds-total h, ahead_slot slot ls, r.pos_in);
      room = rw (holds-total h) (omega (arith, holds-room h));
      more = λ k a b.
          omega (arith, ap (λ (d : List ℕ). get_or d k 0) h.counts, start_least 0 slot k ls (omega arith) (omega (arith, holds_slots h)), r.pos_in);
    }

-- and what it leaves
pub there-removed : (dir arena : List ℕ) (ls : List (List Trip)) (slot pos at used : ℕ) → There dir arena ls slot pos
    → at ≡ get_or dir slot 0 + pos → used ≡ get_or dir (length dir - 1) 0
    → Holds (from (slot + 1) downs dir) (closed (entry_words * at) (entry_words * used) arena) (removed_in slot pos ls)
there-removed dir arena ls slot pos at used r a u =
    let h = r.holds in
    let l = get_or ls slot [] in
    let at-is : at ≡ ahead slot ls + pos = a ∙ ap (λ (k : ℕ). k + pos) (holds-start h slot (omega (arith, r.slot_in))) in
    let used-is : used ≡ length (flat ls) = u ∙ holds-total h in
    let inside : ahead slot ls + pos < length (flat ls) = omega (arith, ahead_slot slot ls, r.pos_in) in
    record {
      counts = ap (from (slot + 1) downs) h.counts
          ∙ rw (add-one slot) (sym (starts_shorter 0 slot (removed pos l) ls r.slot_in (length_removed pos l r.pos_in)));
      free = entry_words + h.free;
      entries = rw (h.entries, at-is, used-is, flat-removed slot pos ls r.pos_in, ← replicate-append-replicate {A = ℕ} entry_words h.free 0)
          (words-removed (ahead slot ls + pos) (flat ls) (replicate h.free 0) inside);
    }
