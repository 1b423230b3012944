-- What the C functions say: the ruler that they are given, the numbers of document 01, and the words that the entry leaves.
use Rattle.std.specs.Prelude.{List, cond, ℕ, ltb, eqb, length}
use Rattle.ruler.specs.declared.Numbers.{Numbers}
use Rattle.ruler.specs.declared.Numbers.TheVariants.{Bits, Spread}
use Rattle.ruler.specs.Ruler.{scale_of}
use Rattle.trip.specs.Trips.{trip_of, asking_of}
use Rattle.layout.specs.Outcomes.{Outcome}
use Rattle.layout.specs.Words.{Index}
use Rattle.layout.specs.Refusals.{number_of, detail_of, check_outcome, run_outcome}
use Rattle.layout.specs.Calls.{After, Asked, if_accepted, build_of, add_of, remove_of, ask_of, census_of, run_of, run_from_of}
use Rattle.export.specs.declared.NamedRuler.{NamedRuler}
use Rattle.export.specs.declared.Said.{Said}
use Rattle.export.specs.declared.Told.{Told}
use Rattle.export.specs.declared.Shown.{Shown}

-- ---- a ruler: one value with two makers

-- the kinds, what stands in a word that a kind has no number for, and the width that no ruler has
abbrev pub bits_kind : ℕ
bits_kind = 0

abbrev pub spread_kind : ℕ
spread_kind = 1

abbrev pub unused : ℕ
unused = 0

abbrev pub no_width : ℕ
no_width = 0

abbrev pub bits_named : (w m : ℕ) → NamedRuler
bits_named w m = record { kind = bits_kind; m = m; first = w; second = unused }

abbrev pub spread_named : (m lo hi : ℕ) → NamedRuler
spread_named m lo hi = record { kind = spread_kind; m = m; first = lo; second = hi }

-- The numbers that such a value names, by its kind. C code can write any kind: another one names a width that no ruler has, so that every call
-- refuses it with 1, as it does all numbers out of bounds (the law `other_kinds_refused`).
unfoldable pub numbers_named : NamedRuler → Numbers
numbers_named r =
    cond (eqb r.kind bits_kind) (Bits r.first r.m)
    (cond (eqb r.kind spread_kind) (Spread r.m r.first r.second) (Bits no_width r.m))

-- ---- the calls

abbrev pub said_of : Outcome → Said
said_of o = record { number = number_of o; detail = detail_of o }

-- a call that leaves words
pub record Left : Type 0 where
  pub said : Said
  pub words : Index

abbrev pub left : Said → Index → Left
left s x = record { said = s; words = x }

abbrev pub left_of : After → Left
left_of a = left (said_of a.outcome) a.words

-- a question
pub record Heard : Type 0 where
  pub told : Told
  pub answers : List ℕ

abbrev pub told : Told → List ℕ → Heard
told t l = record { told = t; answers = l }

abbrev pub told_of : Asked → Heard
told_of a = told (record { number = number_of a.outcome; detail = detail_of a.outcome; count = a.count }) a.answers

unfoldable pub build_said : Numbers → (table : List ℕ) → Index → Left
build_said n table x = left_of (build_of (scale_of n) table x)

unfoldable pub check_said : Numbers → Index → Said
check_said n x = said_of (check_outcome (scale_of n) x)

unfoldable pub add_said : Numbers → (id start end days : ℕ) → Index → Left
add_said n i s e y x = left_of (add_of (scale_of n) x (trip_of i s e y))

unfoldable pub remove_said : Numbers → (id : ℕ) → Index → Left
remove_said n i x = left_of (remove_of (scale_of n) x i)

unfoldable pub ask_said : Numbers → (code start end day : ℕ) → Index → (answers : List ℕ) → Heard
ask_said n c s e y x l = told_of (ask_of (scale_of n) x (asking_of c s e y) l)

-- a census: the number, and the eleven rows of four counts
pub record Counted : Type 0 where
  pub said : Said
  pub counts : List (List ℕ)

abbrev pub counted : Said → List (List ℕ) → Counted
counted s c = record { said = s; counts = c }

unfoldable pub census_said : Numbers → Index → Counted
census_said n x = counted (check_said n x) (census_of (scale_of n) x)

-- a run: which arena it is a part of (0 the originals, 1 the replicas), the word of the arena at which it begins, and its words. The
-- detail of its refusals is always 0. A refused run is an empty part of the originals.
abbrev pub first_of_replicas : ℕ
first_of_replicas = 2

unfoldable pub arena_of : (subdivision : ℕ) → ℕ
arena_of d = cond (ltb d first_of_replicas) 0 1

abbrev pub shown : (number arena offset length : ℕ) → Shown
shown n a o l = record { number = n; arena = a; offset = o; length = l }

unfoldable pub run_said : Numbers → (level partition subdivision : ℕ) → Index → Shown
run_said n L i d x =
    let s = scale_of n in
    let o = run_outcome s x L i d in
    shown (number_of o) (if_accepted o (arena_of d) 0) (run_from_of s x L i d) (length (run_of s x L i d))
