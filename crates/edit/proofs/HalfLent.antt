-- An edit that is accepted can be made: the index, and the cells of the trip's times.
use mathlib.Core.Path.{◌≡◌}
use mathlib.Core.List.{List, ◌∷◌, Memᴰ as Mem}
use Prim.Native.Nat.{ℕ}
use lib.ListN.{take, drop}
use Rattle.ruler.specs.declared.Ruler.{Ruler}
use Rattle.ruler.specs.Ruler.{Scale}
use Rattle.ruler.specs.Made.{scale}
use Rattle.trip.specs.declared.Trip.{Trip}
use Rattle.layout.specs.declared.Half.{Half}
use Rattle.layout.specs.declared.Half.TheVariants.{Originals, Replicas}
use Rattle.layout.specs.Outcomes.{Accepted}
use Rattle.layout.specs.Words.{half_length, Index}
use Rattle.layout.specs.Refusals.{table_of, add_outcome, remove_outcome}
use Rattle.layout.proofs.EditsBuild.{of_add, of_remove}
use Rattle.layout.proofs.RulerCells.{deep-ruler, last_cell_lem}
use Rattle.layout.specs.Calls.{without}
use Rattle.store.specs.Slots.{inserted_in, removed_in}
use Rattle.edit.specs.SlotFound.{place_in, Vacant, Present}
use Rattle.edit.proofs.IndexRead.{first_of_lem, second_of}
use Rattle.edit.proofs.Grown.{adds}
use Rattle.edit.proofs.Shrunk.{removes}
use Rattle.edit.specs.SlotSteps.{Steps, Editable}

pub adding : (r : Ruler) (x : Index) (t : Trip) → add_outcome (scale r) x t ≡ Accepted
    → Editable (λ dir arena ls half slot t. Vacant dir arena ls half slot) (λ half slot t ls. inserted_in slot (place_in half slot t ls) t ls)
    (scale r) x t (t ∷ table_of (scale r) x)
adding r x t a =
    let e = of_add (scale r) x t a in
    let f = e.row_ok.fits in
    record {
      is-index = e.is-index;
      steps = λ half dir arena w. adds (scale r) half x t dir arena
          (record { deep = deep-ruler r; accepted = a; fits = f; end_in = last_cell_lem r t f; words_are = w });
    }

pub removing : (r : Ruler) (x : Index) (t : Trip) → remove_outcome (scale r) x t.id ≡ Accepted → Mem t (table_of (scale r) x)
    → Editable (λ dir arena ls half slot t. Present dir arena ls half slot t) (λ half slot t ls. removed_in slot (place_in half slot t ls) ls)
    (scale r) x t (without t.id (table_of (scale r) x))
removing r x t a m =
    let e = (of_remove (scale r) x t.id a).is-index in
    let f = e.table.rows_ok.fits t m in
    record {
      is-index = e;
      steps = λ half dir arena w. removes (scale r) half x t dir arena
          (record { accepted = a; fits = f; end_in = last_cell_lem r t f; present = m; words_are = w });
    }

-- the two parts of the directory, as the edits of both halves begin with them
module _ {ready : (dir arena : List ℕ) → List (List Trip) → Half → (slot : ℕ) → Trip → Type 0}
    {changed : Half → (slot : ℕ) → Trip → List (List Trip) → List (List Trip)} {s : Scale} {x : Index} {t : Trip} {ts : List Trip}
    (e : Editable ready changed s x t ts) {half : ℕ} (cut : half ≡ half_length s.m) where
  pub first_steps : {dir : List ℕ} → dir ≡ take half x.directory → Steps ready changed s x t ts Originals dir x.originals
  first_steps q = rw q (e.steps _ _ _ (first_of_lem s x e.is-index cut))

  pub second_steps : {dir : List ℕ} → dir ≡ drop half x.directory → Steps ready changed s x t ts Replicas dir x.replicas
  second_steps q = rw q (e.steps _ _ _ (second_of s x e.is-index cut))
