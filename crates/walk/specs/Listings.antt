-- The laws of a listing: ids listed from a word on, none, or more after them.
use Rattle.std.specs.Prelude.{◌≡◌, List, [], ◌++◌, ℕ, ◌+◌, ◌≤◌, length, take, drop}
use Rattle.std.proofs.Common.{refl, sym, ◌∙◌, append_assoc, length-append, length-drop, arith}
use Rattle.std.proofs.lemmas.List.{map-append, length-map, length-take-le, take-append-drop, drop-drop, take_at, drop_at}
use Rattle.std.proofs.Math.Seq.{take-append-add, drop-append-add}
use Rattle.lists.specs.Lists.{over}
use Rattle.trip.specs.declared.Trip.{Trip}
use Rattle.layout.proofs.SortedLists.{id_of}
use Rattle.store.specs.Entries.{ids}
use Rattle.walk.specs.Part.{ListedFrom}

pub over_none : (old : List ℕ) → over [] old ≡ old
unfolding over
over_none old = refl

pub over-length : (new old : List ℕ) → length new ≤ length old → length (over new old) ≡ length old
unfolding over
over-length new old h = rw (length-append, length-drop) (omega arith)

-- more words into the rest
module _ (new old : List ℕ) where
  front-is : take (length new) (over new old) ≡ new
  unfolding over
  front-is = take_at new (drop (length new) old) (length new) refl

  rest-is : drop (length new) (over new old) ≡ drop (length new) old
  unfolding over
  rest-is = drop_at new (drop (length new) old) (length new) refl

  over-more : (more : List ℕ) → new ++ over more (drop (length new) old) ≡ over (new ++ more) old
  unfolding over
  over-more more = rw (drop-drop (length more) (length new) old, length-append, append_assoc)

pub listed_from-none : (old : List ℕ) (n : ℕ) → ListedFrom n [] old old n
listed_from-none old n = record { counted = omega arith; written = rw over_none (sym (take-append-drop n old)) }

module _ {n k : ℕ} (ts us : List Trip) {old mid : List ℕ} (fits : n + length (ts ++ us) ≤ length old) (one : ListedFrom n ts old mid k) where
  pub listed_from-rest : k + length us ≤ length mid
  listed_from-rest =
      let a = length-append ts us in
      let front = length-take-le n old (omega arith) in
      let b = over-length (ids ts) (drop n old) (rw (length-map ts id_of, length-drop) (omega arith)) in
      rw one.written (rw length-append (omega (arith, front, one.counted, b, length-drop n old)))

  pub listed_from-more : {new : List ℕ} {r : ℕ} → ListedFrom k us mid new r → ListedFrom n (ts ++ us) old new r
  listed_from-more two =
      let a = length-append ts us in
      let front = length-take-le n old (omega arith) in
      let after = drop n old in
      let e : k ≡ length (take n old) + length (ids ts) = omega (arith, one.counted, front, length-map ts id_of) in
      record {
        counted = omega (arith, one.counted, two.counted);
        written = two.written
            ∙ rw (one.written, e, take-append-add, drop-append-add, front-is, rest-is, append_assoc, over-more (ids ts) after (ids us), map-append id_of ts us) refl;
      }
