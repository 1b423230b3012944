-- "each accepted addition or removal": a history of edits, what it leaves, and the table that it makes.
use Rattle.std.specs.Prelude.{List, [], ◌∷◌, ◌++◌, ℕ}
use Rattle.ruler.specs.Ruler.{Scale}
use Rattle.trip.specs.declared.Trip.{Trip}
use Rattle.layout.specs.Words.{trip_words, words, rows, Index}
use Rattle.layout.specs.Calls.{After, if_accepted, add_of, without, remove_of}

pub data Edit : Type 0 where
  Addition : Trip → Edit
  Removal : (id : ℕ) → Edit

-- the outcome of an edit, and the words after it
unfoldable pub edit_of : Scale → Index → Edit → After
edit_of s x (Addition t) = add_of s x t
edit_of s x (Removal i) = remove_of s x i

-- the table with the trip in front, or without the trip
unfoldable pub edited_table : Edit → (table : List ℕ) → List ℕ
edited_table (Addition t) table = trip_words t ++ table
edited_table (Removal i) table = words (without i (rows table))

-- the words after edits, the first of the list first
unfoldable pub words_after : Scale → Index → List Edit → Index
words_after s x [] = x
words_after s x (e ∷ es) = words_after s (edit_of s x e).words es

-- the table after the same edits: an accepted edit changes it, a refused one does not
unfoldable pub table_after : Scale → Index → List Edit → (table : List ℕ) → List ℕ
table_after s x [] table = table
table_after s x (e ∷ es) table =
    let a = edit_of s x e in
    table_after s a.words es (if_accepted a.outcome (edited_table e table) table)
