-- The longest line that is not malformed is a letter and four numbers of ten digits, each after a space. So a line that does not end
-- within a buffer of more bytes is malformed, whatever follows.
-- Assumes nothing.
use mathlib.Core.Path.{◌≡◌, refl, sym, ap, ◌∙◌}
use mathlib.Core.Bool.{Bool, true, false, cond}
use mathlib.Core.List.{List, [], ◌∷◌, ◌++◌, append_assoc, append-nil}
use Prim.Native.Nat.{ℕ, suc, ◌+◌, ◌-◌, ◌*◌, ◌≤◌, ◌<◌}
use native.Mathlib.Omega.{arith}
use borrow.Author.Tests.{leb-true, leb-false, ltb-true, ltb-false, le-leb, lt-leb}
use lib.Dec.{leb, ltb, eqb}
use lib.ListN.{length, take, length-append}
use lib.Seq.{take_all, length-take-le}
use Rattle.std.specs.Prelude.{Option, Some, None, option_and_then}
use Rattle.std.proofs.lemmas.Option.{none-some, same_Some}
use Rattle.text.specs.Bytes.{space, on_first, parted}
use Rattle.text.specs.Number.{most_digits, number_of}
use Rattle.text.specs.Command.{followed_by, numbers_of, form_of, command_of_fields, command_of, most_numbers, longest_line}
use Rattle.text.proofs.Parting.{parted_first}
use Rattle.text.proofs.FieldRead.{too_many}

-- a space and a number
abbrev most_field : ℕ
most_field = 1 + most_digits

-- the bytes of fields, with a space for each
abbrev size : List (List ℕ) → ℕ
size [] = 0
size (f ∷ fs) = suc (length f) + size fs

size-parted : (s : ℕ) (l : List ℕ) → size (parted s l) ≡ suc (length l)
unfolding parted
size-parted s [] = refl
size-parted s (b ∷ l) = go (eqb b s) (size-parted s l)
  where
    go : (t : Bool) → size (parted s l) ≡ suc (length l)
        → size (cond t ([] ∷ parted s l) (on_first b (parted s l))) ≡ suc (suc (length l))
    go true e = omega arith
    go false e = rw (parted_first s l) (omega (arith, rw (parted_first s l) at e))

-- as many numbers have no more bytes than the most digits each
few_bytes : (fs : List (List ℕ)) (ns : List ℕ) → numbers_of fs ≡ Some ns → size fs ≤ length ns * most_field
unfolding numbers_of
few_bytes [] ns e = omega arith
few_bytes (f ∷ fs) ns e = go (leb (length f) most_digits) refl (number_of f) refl (numbers_of fs) (few_bytes fs) e
  where
    go : (t : Bool) → leb (length f) most_digits ≡ t → (x : Option ℕ) → number_of f ≡ x
        → (o : Option (List ℕ)) → ((ms : List ℕ) → o ≡ Some ms → size fs ≤ length ms * most_field)
        → followed_by x o ≡ Some ns → suc (length f) + size fs ≤ length ns * most_field
    go t few None is o rest e = absurd (none-some _ e)
    go t few (Some n) is None rest e = absurd (none-some _ e)
    go true few (Some n) is (Some ms) rest e =
        rw (← same_Some _ _ e) (omega (arith, leb-true (length f) most_digits few, rest ms refl))
    go false few (Some n) is (Some ms) rest e =
        absurd (none-some n (rw (too_many f (leb-false (length f) most_digits few)) at is))

-- no command has more numbers than the most
no_form : (a : ℕ) (ns : List ℕ) → most_numbers < length ns → form_of a ns ≡ None
no_form a [] h = refl
no_form a (x ∷ []) h = absurd (omega arith)
no_form a (x ∷ y ∷ []) h = absurd (omega arith)
no_form a (x ∷ y ∷ z ∷ []) h = refl
no_form a (x ∷ y ∷ z ∷ w ∷ []) h = absurd (omega arith)
no_form a (x ∷ y ∷ z ∷ w ∷ v ∷ ns) h = refl

long_fields : (fs : List (List ℕ)) → suc longest_line < size fs → command_of_fields fs ≡ None
unfolding command_of_fields
long_fields [] h = refl
long_fields ([] ∷ fs) h = refl
long_fields ((a ∷ []) ∷ fs) h = go (numbers_of fs) refl
  where
    go : (o : Option (List ℕ)) → numbers_of fs ≡ o → option_and_then (form_of a) o ≡ None
    go None e = refl
    go (Some ns) e = no_form a ns (omega (arith, few_bytes fs ns e))
long_fields ((a ∷ b ∷ l) ∷ fs) h = refl

pub long_line : (l : List ℕ) → longest_line < length l → command_of l ≡ None
unfolding command_of
long_line l h = long_fields (parted space l) (omega (arith, size-parted space l))

-- so more bytes than the longest line has show what the whole line means
pub cut_line : (l : List ℕ) (k : ℕ) → longest_line < k → command_of (take k l) ≡ command_of l
cut_line l k h = go (leb (length l) k) refl
  where
    go : (t : Bool) → leb (length l) k ≡ t → command_of (take k l) ≡ command_of l
    go true e = rw (take_all k l (leb-true (length l) k e))
    go false e =
        let more = leb-false (length l) k e in
        rw (long_line l (omega arith), long_line (take k l) (omega (arith, length-take-le k l (omega arith))))

-- ---- The same of the numbers one after another: how many bytes those that follow may have

-- one number more, of which there are at most four; none once one is malformed or they are too many
abbrev pub with_one : Option (List ℕ) → Option ℕ → Option (List ℕ)
with_one None x = None
with_one (Some ns) None = None
with_one (Some ns) (Some n) = cond (ltb (length ns) most_numbers) (Some (ns ++ (n ∷ []))) None

-- the numbers with those of more fields
unfoldable pub numbers_after : Option (List ℕ) → List (List ℕ) → Option (List ℕ)
numbers_after ns [] = ns
numbers_after ns (f ∷ fs) = numbers_after (with_one ns (number_of f)) fs

-- how many numbers there are; after wrong ones none may follow, as after the most
abbrev pub counted : Option (List ℕ) → ℕ
counted None = most_numbers
counted (Some ns) = length ns

-- how many bytes the fields after these numbers may have
abbrev pub room : Option (List ℕ) → ℕ
room ns = (most_numbers - counted ns) * most_field

stays_wrong : (fs : List (List ℕ)) → numbers_after None fs ≡ None
unfolding numbers_after
stays_wrong [] = refl
stays_wrong (f ∷ fs) = stays_wrong fs

-- one field more, of few bytes, takes up its room
pub one_more : (ns : Option (List ℕ)) (x : Option ℕ) (n : ℕ) (fs : List (List ℕ)) → n ≤ most_digits → room ns < suc n + size fs
    → ((ms : Option (List ℕ)) → room ms < size fs → numbers_after ms fs ≡ None) → numbers_after (with_one ns x) fs ≡ None
one_more None x n fs few h rest = stays_wrong fs
one_more (Some ns) None n fs few h rest = stays_wrong fs
one_more (Some ns) (Some a) n fs few h rest = go (ltb (length ns) most_numbers) refl
  where
    go : (b : Bool) → ltb (length ns) most_numbers ≡ b → numbers_after (cond b (Some (ns ++ (a ∷ []))) None) fs ≡ None
    go true e = rest (Some (ns ++ (a ∷ []))) (omega (arith, length-append ns (a ∷ []), ltb-true (length ns) most_numbers e))
    go false e = stays_wrong fs

-- more bytes than there is room for are malformed
long_numbers : (fs : List (List ℕ)) (ns : Option (List ℕ)) → room ns < size fs → numbers_after ns fs ≡ None
unfolding numbers_after
long_numbers [] ns h = absurd (omega arith)
long_numbers (f ∷ fs) ns h = go (leb (length f) most_digits) refl (long_numbers fs)
  where
    go : (t : Bool) → leb (length f) most_digits ≡ t → ((ms : Option (List ℕ)) → room ms < size fs → numbers_after ms fs ≡ None)
        → numbers_after (with_one ns (number_of f)) fs ≡ None
    go true e rest = one_more ns (number_of f) (length f) fs (leb-true (length f) most_digits e) h rest
    go false e rest = rw (too_many f (leb-false (length f) most_digits e)) (wrong ns)
      where
        wrong : (ks : Option (List ℕ)) → numbers_after (with_one ks None) fs ≡ None
        wrong None = stays_wrong fs
        wrong (Some ks) = stays_wrong fs

-- and all of them are the numbers of the line, where these are at most four
abbrev pub few_numbers : List ℕ → Option (List ℕ)
few_numbers ns = cond (leb (length ns) most_numbers) (Some ns) None

pub numbers_are : (fs : List (List ℕ)) (ns : List ℕ) → length ns ≤ most_numbers
    → numbers_after (Some ns) fs ≡ option_and_then (λ ms. few_numbers (ns ++ ms)) (numbers_of fs)
unfolding numbers_after numbers_of
numbers_are [] ns h = rw (append-nil ns, le-leb (length ns) most_numbers h)
numbers_are (f ∷ fs) ns h = go (number_of f) (numbers_are fs)
  where
    go : (x : Option ℕ) → ((ks : List ℕ) → length ks ≤ most_numbers
        → numbers_after (Some ks) fs ≡ option_and_then (λ ms. few_numbers (ks ++ ms)) (numbers_of fs))
        → numbers_after (with_one (Some ns) x) fs ≡ option_and_then (λ ms. few_numbers (ns ++ ms)) (followed_by x (numbers_of fs))
    go None rest = stays_wrong fs
    go (Some n) rest = more (ltb (length ns) most_numbers) refl
      where
        many : (o : Option (List ℕ)) → most_numbers ≤ length ns → option_and_then (λ ms. few_numbers (ns ++ ms)) (followed_by (Some n) o) ≡ None
        many None g = refl
        many (Some ms) g = rw (lt-leb (length (ns ++ (n ∷ ms))) most_numbers (omega (arith, length-append ns (n ∷ ms))))

        joins : (o : Option (List ℕ)) → option_and_then (λ ms. few_numbers ((ns ++ (n ∷ [])) ++ ms)) o
            ≡ option_and_then (λ ms. few_numbers (ns ++ ms)) (followed_by (Some n) o)
        joins None = refl
        joins (Some ms) = ap few_numbers (append_assoc ns (n ∷ []) ms)

        more : (b : Bool) → ltb (length ns) most_numbers ≡ b → numbers_after (cond b (Some (ns ++ (n ∷ []))) None) fs
            ≡ option_and_then (λ ms. few_numbers (ns ++ ms)) (followed_by (Some n) (numbers_of fs))
        more true e =
            rest (ns ++ (n ∷ [])) (omega (arith, length-append ns (n ∷ []), ltb-true (length ns) most_numbers e)) ∙ joins (numbers_of fs)
        more false e = stays_wrong fs ∙ sym (many (numbers_of fs) (ltb-false (length ns) most_numbers e))
