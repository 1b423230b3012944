-- Laws of what a line means: its letter, and the numbers after it one by one.
-- Assumes nothing.
use mathlib.Core.Path.{◌≡◌, refl, sym, ap, ◌∙◌}
use mathlib.Core.Bool.{Bool, true, false, cond}
use mathlib.Core.List.{List, [], ◌∷◌, ◌++◌, append_assoc, append-nil}
use Prim.Native.Nat.{ℕ, suc, ◌+◌, ◌≤◌, ◌<◌}
use Prim.Native.Char.{code}
use borrow.Author.Tests.{ne_eqb, eqb-true, eq-eqb}
use lib.Dec.{eqb}
use Rattle.std.proofs.lemmas.Bool.{false≢true}
use lib.ListN.{length, take, drop, get_or, set, length-append, length-set, length-take}
use lib.Seq.{take_all, length-take-le, take-suc-set}
use native.Mathlib.Nat.{zero-add}
use native.Mathlib.Numerals.{add-one}
use native.Mathlib.Omega.{arith}
use Rattle.std.proofs.lemmas.Option.{none-some, same_Some}
use Rattle.std.specs.Prelude.{Option, Some, None, option_map, option_and_then}
use Rattle.text.specs.declared.Command.{Command}
use Rattle.text.specs.declared.Command.TheVariants.{Ruler, Add, Remove, Ask}
use Rattle.text.specs.Bytes.{space, parted, until, on_first, place_of}
use Rattle.text.specs.Number.{number_of}
use Rattle.text.specs.Command.{followed_by, numbers_of, form_of, command_of_fields, command_of, numbers_left, exactly}
use Rattle.text.proofs.Parting.{later_parts, parted_first}

-- ---- The numbers after a letter

-- after a field stands nothing, or a space and the fields after it
left_after : (l : List ℕ) → numbers_left (drop (until space l) l) ≡ numbers_of (later_parts space l)
unfolding until numbers_left later_parts numbers_of
left_after [] = refl
left_after (b ∷ l) = go (eqb b space) refl (left_after l)
  where
    go : (t : Bool) → eqb b space ≡ t → numbers_left (drop (until space l) l) ≡ numbers_of (later_parts space l)
        → numbers_left (drop (cond t 0 (suc (until space l))) (b ∷ l)) ≡ numbers_of (cond t (parted space l) (later_parts space l))
    go true e h = rw e
    go false e h = h

left_step : (l : List ℕ) → numbers_left (space ∷ l) ≡ followed_by (number_of (take (until space l) l)) (numbers_left (drop (until space l) l))
unfolding numbers_left numbers_of
left_step l = rw (parted_first space l, left_after l)

-- the numbers of what is left, after others
abbrev after : List ℕ → Option (List ℕ) → Option (List ℕ)
after ns None = None
after ns (Some ms) = Some (ns ++ ms)

after_nothing : (o : Option (List ℕ)) → o ≡ after [] o
after_nothing None = refl
after_nothing (Some ms) = refl

after_more : (ns : List ℕ) (n : ℕ) (o : Option (List ℕ)) → after ns (followed_by (Some n) o) ≡ after (ns ++ (n ∷ [])) o
after_more ns n None = refl
after_more ns n (Some ms) = rw append_assoc

-- what begins with no space has no numbers
no_space : (l ns : List ℕ) → (take 1 l ≡ space ∷ [] → ⊥) → numbers_left l ≡ Some ns → length ns ≡ 0
unfolding numbers_left
no_space [] ns n e = ap length (sym (same_Some _ _ e))
no_space (b ∷ l) ns n e = go (eqb b space) refl e
  where
    go : (t : Bool) → eqb b space ≡ t → cond t (numbers_of (parted space l)) None ≡ Some ns → length ns ≡ 0
    go true is e = absurd (n (rw (eqb-true b space is)))
    go false is e = absurd (none-some _ e)

after_space : (l : List ℕ) → take 1 l ≡ space ∷ [] → l ≡ space ∷ drop 1 l
after_space [] e = absurd (cc)
after_space (b ∷ l) e = ap (λ (m : List ℕ). m ++ l) e

nothing_left : (l : List ℕ) → length l ≡ 0 → numbers_left l ≡ Some []
unfolding numbers_left
nothing_left [] h = refl
nothing_left (b ∷ l) h = absurd (omega arith)

-- anything at all has some
some_left : (l ns : List ℕ) → 1 ≤ length l → numbers_left l ≡ Some ns → 1 ≤ length ns
unfolding numbers_left numbers_of
some_left [] ns h e = absurd (omega arith)
some_left (b ∷ l) ns h e = go (eqb b space) e
  where
    some : (x : Option ℕ) (o : Option (List ℕ)) → followed_by x o ≡ Some ns → 1 ≤ length ns
    some None o e = absurd (none-some _ e)
    some (Some n) None e = absurd (none-some _ e)
    some (Some n) (Some ms) e = rw (← same_Some _ _ e) (omega arith)

    go : (t : Bool) → cond t (numbers_of (parted space l)) None ≡ Some ns → 1 ≤ length ns
    go true e = some (number_of (take (until space l) l)) (numbers_of (later_parts space l)) (rw (parted_first space l) at e)
    go false e = absurd (none-some _ e)

-- there are not n of them
other_count : (n : ℕ) (ns : List ℕ) {o : Option (List ℕ)} (p : Option (List ℕ)) → o ≡ after ns p
    → ((ms : List ℕ) → p ≡ Some ms → length ns + length ms ≡ n → ⊥) → None ≡ exactly n o
other_count n ns None e h = rw e
other_count n ns (Some ms) e h = rw (e, length-append ns ms, ne_eqb (length ns + length ms) n (h ms refl))

-- i numbers were read: with those of what is left, they are the numbers of all
pub record ReadNumbers (n : ℕ) (whole numbers left : List ℕ) (i : ℕ) : Type 0 where
  pub long : length numbers ≡ n
  pub so_far : numbers_left whole ≡ after (take i numbers) (numbers_left left)

pub numbers_start : (n : ℕ) (whole numbers : List ℕ) → length numbers ≡ n → ReadNumbers n whole numbers whole 0
numbers_start n whole numbers h = record { long = h; so_far = after_nothing (numbers_left whole) }

module _ (n : ℕ) (whole numbers left : List ℕ) (i : ℕ) (r : ReadNumbers n whole numbers left i) where
  pub numbers_end : n ≤ i → length left ≡ 0 → Some numbers ≡ exactly n (numbers_left whole)
  numbers_end h none =
      rw (r.so_far, nothing_left left none, append-nil, take_all i numbers (omega (arith, r.long)), eq-eqb (length numbers) n r.long)

  pub numbers_beyond : n ≤ i → 1 ≤ length left → None ≡ exactly n (numbers_left whole)
  numbers_beyond h some =
      other_count n (take i numbers) (numbers_left left) r.so_far
      (λ ms e k. omega (arith, some_left left ms some e, length-take i numbers, r.long))

  module _ (more : i < n) where
    count : length (take i numbers) ≡ i
    count = length-take-le i numbers (omega (arith, r.long))

    pub numbers_short : (take 1 left ≡ space ∷ [] → ⊥) → None ≡ exactly n (numbers_left whole)
    unfolding count
    numbers_short none =
        other_count n (take i numbers) (numbers_left left) r.so_far (λ ms e k. omega (arith, no_space left ms none e, count))

    module _ (fields : List ℕ) (end : ℕ) (here : take 1 left ≡ space ∷ []) (rest : fields ≡ drop 1 left) (ends : end ≡ place_of space fields 0) where
      step : numbers_left left ≡ followed_by (number_of (take end fields)) (numbers_left (drop end fields))
      unfolding place_of
      step = rw (after_space left here, ← rest, left_step fields, ends, zero-add)

      pub numbers_bad : None ≡ number_of (take end fields) → None ≡ exactly n (numbers_left whole)
      unfolding step
      numbers_bad e = other_count n (take i numbers) (numbers_left left) r.so_far (λ ms is k. none-some ms (rw (step, ← e) at is))

      pub numbers_turn : {x : ℕ} → Some x ≡ number_of (take end fields) → ReadNumbers n whole (set numbers i x) (drop end fields) (i + 1)
      unfolding step
      numbers_turn {x} e =
          let h : i < length numbers = omega (arith, r.long) in
          record {
            long = length-set numbers i x ∙ r.long;
            so_far = rw (r.so_far, step, ← e, add-one, take-suc-set numbers i x h) (after_more (take i numbers) x (numbers_left (drop end fields)));
          }

-- ---- The letter

pub letter_first : (a : ℕ) (l : List ℕ) → (a ≡ space → ⊥) → command_of (a ∷ l) ≡ option_and_then (form_of a) (numbers_left l)
unfolding command_of command_of_fields parted numbers_left numbers_of
letter_first a [] n = rw (ne_eqb a space n)
letter_first a (b ∷ l) n = rw (ne_eqb a space n) (go (eqb b space) refl)
  where
    go : (t : Bool) → eqb b space ≡ t → command_of_fields (on_first a (cond t ([] ∷ parted space l) (on_first b (parted space l))))
        ≡ option_and_then (form_of a) (cond t (numbers_of (parted space l)) None)
    go true e = refl
    go false e = rw (parted_first space l)

pub no_command : (l : List ℕ) → length l ≡ 0 → command_of l ≡ None
unfolding command_of command_of_fields parted
no_command [] h = refl
no_command (b ∷ l) h = absurd (omega arith)

pub no_letter : (l : List ℕ) → command_of (space ∷ l) ≡ None
unfolding command_of command_of_fields parted
no_letter l = refl

-- ---- The numbers that each letter asks for

-- what holds of each few numbers, and of more than four, holds of all
by_count : (P : List ℕ → Type 0) → P [] → ((a : ℕ) → P (a ∷ [])) → ((a b : ℕ) → P (a ∷ b ∷ [])) → ((a b c : ℕ) → P (a ∷ b ∷ c ∷ []))
    → ((a b c d : ℕ) → P (a ∷ b ∷ c ∷ d ∷ [])) → ((a b c d e : ℕ) (ns : List ℕ) → P (a ∷ b ∷ c ∷ d ∷ e ∷ ns)) → (ns : List ℕ) → P ns
by_count P none one two three four more [] = none
by_count P none one two three four more (a ∷ []) = one a
by_count P none one two three four more (a ∷ b ∷ []) = two a b
by_count P none one two three four more (a ∷ b ∷ c ∷ []) = three a b c
by_count P none one two three four more (a ∷ b ∷ c ∷ d ∷ []) = four a b c d
by_count P none one two three four more (a ∷ b ∷ c ∷ d ∷ e ∷ ns) = more a b c d e ns

-- n numbers make the command of this letter, and any other count makes none
abbrev Asks : (letter n : ℕ) → (List ℕ → Command) → List ℕ → Type 0
Asks letter n made ns = form_of letter ns ≡ cond (eqb (length ns) n) (Some (made ns)) None

-- more than four are none of them
beyond : (n : ℕ) (ns : List ℕ) → n ≤ 4 → eqb (suc (suc (suc (suc (suc (length ns)))))) n ≡ false
beyond n ns h = ne_eqb (suc (suc (suc (suc (suc (length ns)))))) n (λ e. omega arith)

abbrev nth : List ℕ → ℕ → ℕ
nth ns i = get_or ns i 0

abbrev ruler : List ℕ → Command
ruler ns = Ruler (nth ns 0) (nth ns 1)

abbrev adding : List ℕ → Command
adding ns = Add (nth ns 0) (nth ns 1) (nth ns 2) (nth ns 3)

abbrev removing : List ℕ → Command
removing ns = Remove (nth ns 0)

abbrev asking : List ℕ → Command
asking ns = Ask (nth ns 0) (nth ns 1) (nth ns 2) (nth ns 3)

-- so what is made of exactly n numbers after the letter is the line's meaning
abbrev pub Makes : (letter n : ℕ) → (List ℕ → Command) → Type 0
Makes letter n made =
    (line rest : List ℕ) (a : ℕ) (o : Option (List ℕ)) → line ≡ a ∷ rest → a ≡ letter → o ≡ exactly n (numbers_left rest)
    → option_map made o ≡ command_of line

made_of : (letter n : ℕ) (made : List ℕ → Command) → (letter ≡ space → ⊥) → ((ns : List ℕ) → Asks letter n made ns) → Makes letter n made
made_of letter n made other asks line rest a o parts first numbers =
    rw (parts, first, letter_first letter rest other, numbers) (go (numbers_left rest))
  where
    go : (o : Option (List ℕ)) → option_map made (exactly n o) ≡ option_and_then (form_of letter) o
    go None = refl
    go (Some ns) = rw (asks ns) (some (eqb (length ns) n))
      where
        some : (t : Bool) → option_map made (cond t (Some ns) None) ≡ cond t (Some (made ns)) None
        some true = refl
        some false = refl

pub makes_ruler : Makes (code "D") 2 ruler
makes_ruler =
    made_of (code "D") 2 ruler (λ e. omega arith)
    (by_count (Asks (code "D") 2 ruler) refl (λ a. refl) (λ a b. refl) (λ a b c. refl) (λ a b c d. refl)
    (λ a b c d e ns. rw (beyond 2 ns (omega arith))))

pub makes_adding : Makes (code "T") 4 adding
makes_adding =
    made_of (code "T") 4 adding (λ e. omega arith)
    (by_count (Asks (code "T") 4 adding) refl (λ a. refl) (λ a b. refl) (λ a b c. refl) (λ a b c d. refl)
    (λ a b c d e ns. rw (beyond 4 ns (omega arith))))

pub makes_removing : Makes (code "X") 1 removing
makes_removing =
    made_of (code "X") 1 removing (λ e. omega arith)
    (by_count (Asks (code "X") 1 removing) refl (λ a. refl) (λ a b. refl) (λ a b c. refl) (λ a b c d. refl)
    (λ a b c d e ns. rw (beyond 1 ns (omega arith))))

pub makes_asking : Makes (code "Q") 4 asking
makes_asking =
    made_of (code "Q") 4 asking (λ e. omega arith)
    (by_count (Asks (code "Q") 4 asking) refl (λ a. refl) (λ a b. refl) (λ a b c. refl) (λ a b c d. refl)
    (λ a b c d e ns. rw (beyond 4 ns (omega arith))))

-- and no other letter makes a command
pub other_letter : {line rest : List ℕ} {a : ℕ} → line ≡ a ∷ rest → (a ≡ code "D" → ⊥) → (a ≡ code "T" → ⊥) → (a ≡ code "X" → ⊥) → (a ≡ code "Q" → ⊥)
    → None ≡ command_of line
other_letter {line} {rest} {a} parts d t x q = rw parts (go (eqb a space) refl)
  where
    none : (ns : List ℕ) → None ≡ form_of a ns
    none = by_count (λ ns. None ≡ form_of a ns) refl (λ i. rw (ne_eqb a (code "X") x)) (λ w m. rw (ne_eqb a (code "D") d)) (λ i j k. refl)
        (λ i j k l. rw (ne_eqb a (code "T") t, ne_eqb a (code "Q") q)) (λ i j k l m ns. refl)

    all : (o : Option (List ℕ)) → None ≡ option_and_then (form_of a) o
    all None = refl
    all (Some ns) = none ns

    go : (s : Bool) → eqb a space ≡ s → None ≡ command_of (a ∷ rest)
    go true e = rw (eqb-true a space e, no_letter rest)
    go false e = rw (letter_first a rest (λ is. false≢true (sym e ∙ eq-eqb a space is))) (all (numbers_left rest))
