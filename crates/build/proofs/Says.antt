-- The chain of a build's refusals, link by link, and what a build leaves.
use mathlib.Core.Path.{◌≡◌, refl, sym, ap, ◌∙◌}
use mathlib.Core.Bool.{true, false}
use mathlib.Core.List.{List, [], ◌++◌}
use Prim.Native.Nat.{ℕ, ◌/◌, ◌%◌, ◌≤◌}
use native.Mathlib.Omega.{arith}
use lib.ListN.{length}
use borrow.Author.Tests.{eq-eqb, ne_eqb}
use Rattle.ruler.specs.declared.Ruler.{Ruler}
use Rattle.ruler.specs.Ruler.{Scale, most_trips}
use Rattle.ruler.specs.Made.{scale}
use Rattle.layout.specs.declared.Half.TheVariants.{Originals, Replicas}
use Rattle.layout.specs.declared.Refusal.TheVariants.{RulerOutOfBounds, TableSize, DirectoryLength, NoRoom}
use Rattle.std.proofs.Common.{Err}
use Rattle.layout.specs.declared.Rejection.{Rejection}
use Rattle.layout.specs.Outcomes.{Outcome, Accepted, Refused}
use Rattle.layout.specs.Words.{entry_words, rows, entries, directory_length, half_length, directory_half, arena, lengths_of, layout}
use Rattle.layout.specs.Refusals.{is_accepted, refuse, out_of_bounds, bad_size, bad_directory, no_room, first_bad_row, build_outcome}
use Rattle.layout.specs.Calls.{if_accepted, index, after, build_of}
use Rattle.layout.proofs.RulerCells.{good-ruler}
use Rattle.layout.proofs.Rows.{length-rows}
use Rattle.layout.proofs.Chains.{of_bad_size}
use Rattle.layout.proofs.Tables.{Table, of_first_bad_row, of_build}
use Rattle.layout.proofs.Links.{and_then, then_refused, leaves_found, leaves_made, rows_then}
use Rattle.build.specs.HalfBuilt.{Tested, Fillable}
use Rattle.build.specs.RowsJudged.{lengths}
use Rattle.build.proofs.RowsJudged.{originals_are}

-- ---- the chain

module _ (r : Ruler) (table : List ℕ) (directory originals replicas : ℕ) where
  abbrev says : Outcome
  says = build_outcome (scale r) table (lengths directory originals replicas)

  in_bounds_lem : out_of_bounds (scale r) ≡ false
  unfolding out_of_bounds
  in_bounds_lem = rw (good-ruler r)

  pub says_2 : bad_size table ≡ true → Refused TableSize 0 ≡ says
  unfolding build_outcome refuse
  says_2 e = rw (in_bounds_lem, e)

  module _ (whole : bad_size table ≡ false) where
    pub few-rows : length table / entry_words ≤ most_trips
    few-rows = (of_bad_size table (rw whole tt)).few-rows

    pub says_3 : (directory ≡ directory_length (scale r).m → ⊥) → Refused DirectoryLength 0 ≡ says
    unfolding build_outcome bad_directory refuse
    says_3 e = rw (in_bounds_lem, whole, ne_eqb directory (directory_length (scale r).m) e)

    module _ (long : directory ≡ directory_length (scale r).m) (o : Outcome) (of-rows : o ≡ first_bad_row (scale r) 0 [] (rows table) Accepted)
      where
        -- what is left of the chain
        rows_first : says ≡ first_bad_row (scale r) 0 [] (rows table)
            (refuse (no_room (scale r) (rows table) (lengths directory originals replicas)) NoRoom 0 Accepted)
        unfolding build_outcome bad_directory refuse
        rows_first = rw (in_bounds_lem, whole, eq-eqb directory (directory_length (scale r).m) long)

        rows_decide : says ≡ and_then o (refuse (no_room (scale r) (rows table) (lengths directory originals replicas)) NoRoom 0 Accepted)
        rows_decide =
            let rest = refuse (no_room (scale r) (rows table) (lengths directory originals replicas)) NoRoom 0 Accepted in
            rows_first ∙ rows_then (scale r) 0 [] (rows table) rest ∙ ap (λ (x : Outcome). and_then x rest) (sym of-rows)

        pub says_bad : (w : Rejection) → o ≡ Err w → Err w ≡ says
        unfolding is_accepted
        says_bad w e = sym e ∙ sym (rows_decide ∙ then_refused o _ (rw e))

        module _ (fine : o ≡ Accepted) where
          pub tested : Tested r table
          tested = record {
            few = rw length-rows few-rows;
            rows_ok = (of_first_bad_row (scale r) 0 [] (rows table) Accepted (sym of-rows ∙ fine)).0;
          }

          -- the length of the directory has no part in the test of the room
          room_last : says ≡ refuse (no_room (scale r) (rows table) (lengths 0 originals replicas)) NoRoom 0 Accepted
          unfolding no_room if_accepted
          room_last =
              rows_decide ∙ ap (λ (x : Outcome). and_then x
              (refuse (no_room (scale r) (rows table) (lengths directory originals replicas)) NoRoom 0 Accepted)) fine

          pub says_7 : no_room (scale r) (rows table) (lengths 0 originals replicas) ≡ true → Refused NoRoom 0 ≡ says
          unfolding refuse
          says_7 e = sym (room_last ∙ rw e)

          pub says_0 : no_room (scale r) (rows table) (lengths 0 originals replicas) ≡ false → Accepted ≡ says
          unfolding refuse
          says_0 e = sym (room_last ∙ rw e)

-- numbers out of bounds
pub says_1 : (s : Scale) (table d o r : List ℕ) → s.good ≡ false
    → after (Refused RulerOutOfBounds 0) (index d o r) ≡ build_of s table (index d o r)
unfolding build_of build_outcome out_of_bounds refuse is_accepted
says_1 s table d o r e = leaves_found (Refused RulerOutOfBounds 0) (index d o r) _ refl (rw e)

-- ---- what is left

module _ (s : Scale) (table d o r : List ℕ) {a : Outcome} (says : a ≡ build_outcome s table (lengths (length d) (length o) (length r))) where
  pub left_old : (w : Rejection) → a ≡ Err w → after (Err w) (index d o r) ≡ build_of s table (index d o r)
  unfolding build_of lengths_of is_accepted
  left_old w e = leaves_found (Err w) (index d o r) _ refl (sym e ∙ says)

  module _ (fine : a ≡ Accepted) where
    pub accepted-table : Table s (rows table) (lengths (length d) (length o) (length r)) × (length table % entry_words ≡ 0)
    accepted-table = of_build s table (lengths (length d) (length o) (length r)) (sym says ∙ fine)

    pub left_new : (d' o' r' : List ℕ) → d' ≡ directory_half s Originals (rows table) ++ directory_half s Replicas (rows table)
        → o' ≡ arena s Originals (rows table) (length o) → r' ≡ arena s Replicas (rows table) (length r)
        → after Accepted (index d' o' r') ≡ build_of s table (index d o r)
    unfolding build_of lengths_of layout
    left_new d' o' r' p q t = leaves_made (index d o r) _ (sym says ∙ fine) (λ i. record { directory = p i; originals = q i; replicas = t i })

-- ---- what each half is filled with

module _ (r : Ruler) (table d o p : List ℕ) (w : Table (scale r) (rows table) (lengths (length d) (length o) (length p))) where
  tested-table : Tested r table
  tested-table = record { few = w.few; rows_ok = w.rows_ok }

  pub first_half_lem : (long room : ℕ) → long ≡ half_length (scale r).m → room ≡ length o → Fillable r table Originals long room
  first_half_lem long room e f = record { tested = tested-table; whole = e; fits = rw f w.room.for_originals }

  pub second_half_lem : (long : ℕ) → long ≡ half_length (scale r).m → Fillable r table Replicas long (length p)
  second_half_lem long e = record { tested = tested-table; whole = e; fits = w.room.for_replicas }

  pub rows-room : length table % entry_words ≡ 0 → length table ≤ length o
  rows-room whole =
      let firsts : length (entries (scale r) Originals (rows table)) ≡ length table / entry_words = originals_are r table tested-table in
      omega (arith, w.room.for_originals, firsts, whole)

-- both halves of a directory, and what each of them is made from
pub record ToBuild (r : Ruler) (table d o p : List ℕ) : Type 0 where
  pub long : length d ≡ directory_length (scale r).m
  pub whole : length table % entry_words ≡ 0
  pub originals : Fillable r table Originals (half_length (scale r).m) (length o)
  pub replicas : Fillable r table Replicas (half_length (scale r).m) (length p)
  -- the originals' arena has room for the rows
  pub room : length table ≤ length o

pub to_build : (r : Ruler) (table d o p : List ℕ) {a : Outcome} → a ≡ build_outcome (scale r) table (lengths (length d) (length o) (length p))
    → a ≡ Accepted → ToBuild r table d o p
to_build r table d o p e fine =
    let accepted = accepted-table (scale r) table d o p e fine in
    let w = accepted.0 in
    record {
      long = w.directory;
      whole = accepted.1;
      originals = first_half_lem r table d o p w _ _ refl refl;
      replicas = second_half_lem r table d o p w _ refl;
      room = rows-room r table d o p w accepted.1;
    }
