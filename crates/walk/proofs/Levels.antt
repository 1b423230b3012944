-- On an index the stretches of a level are there, and their matches are those that the walk lists; and so are those of the looks, level by level.
use mathlib.Core.Path.{◌≡◌, refl, sym, ap, ap₂, subst, ◌∙◌, fun_ext}
use mathlib.Core.Bool.{Bool, true, false, ◌&&◌}
use mathlib.Core.List.{List, [], ◌++◌, Memᴰ as Mem}
use Prim.Native.Nat.{ℕ, ◌+◌, ◌-◌, ◌*◌, ◌^◌, ◌≤◌, ◌<◌}
use native.Mathlib.Omega.{arith}
use lib.Dec.{ltb}
use borrow.Author.Tests.{ltb-true, ltb-false}
use Rattle.lists.specs.Lists.{keep, joined}
use Rattle.lists.proofs.Tests.{to_T}
use Rattle.ruler.specs.Ruler.{Scale, cell_up}
use Rattle.trip.specs.declared.Trip.{Trip}
use Rattle.layout.specs.declared.Half.{Half}
use Rattle.layout.specs.declared.Half.TheVariants.{Originals, Replicas}
use Rattle.layout.specs.Words.{partition_number, half_length, Index}
use Rattle.layout.specs.Refusals.{table_of, is_index}
use Rattle.layout.proofs.RowOrder.{Distinct}
use Rattle.layout.proofs.Indexes.{Indexed, of_is_index}
use Rattle.layout.proofs.ByDirectory.{LaidFrom, originals_laid, replicas_laid}
use Rattle.plan.specs.declared.range.Plan.{Plan}
use Rattle.plan.specs.Plan.{Ranged, original_slots, replica_slots, first_slot, slot_at, sure_first, sure_last, stretch, arranged, stretches_at}
use Rattle.plan.proofs.Looked.{slots_from, width, looked_at, level_walk, walk}
use Rattle.plan.proofs.Ranges.{few_slots, cells-ordered, high_in}
use Rattle.plan.proofs.Sure.{three-pieces, first_sure, between_sure, last_sure, one_sure, replicas_sure}
use Rattle.store.specs.Parts.{PartThere}
use Rattle.walk.specs.Part.{stretch_matches}
use Rattle.walk.specs.Levels.{level_matches, LevelsThere, walk_matches}
use Rattle.walk.proofs.LevelSlots.{SlotsThere, AllThere, four_matches}
use Rattle.walk.proofs.LooksMeet.{none_kept, level_looks, level_there}
use Rattle.walk.proofs.StretchWords.{stretch-is, stretch-there, partition_there}

-- what the walk asks: an index, a plan on its ruler, and that a quick plan is right to be so: the test says the same, told or not
pub record Ready (s : Scale) (t : Bool → Trip → Bool) (p : Plan) (x : Index) : Type 0 where
  pub indexed : is_index s x ≡ true
  pub ranged : Ranged s.m p
  pub sure : p.quick ≡ true → (u : Trip) → Mem u (table_of s x) → p.low.1 < s.cell u.end → s.cell u.start < p.high.1 → t true u ≡ t false u

no_slots : (s : Scale) (h : Half) (ts : List Trip) (L i : ℕ) → slots_from s h ts L i 0 ≡ []
unfolding slots_from joined
no_slots s h ts L i = refl

module _ {s : Scale} {t : Bool → Trip → Bool} {p : Plan} {x : Index} (r : Ready s t p x) (L : ℕ) (deep : L ≤ s.m) where
  abbrev ts : List Trip
  ts = table_of s x

  abbrev a : ℕ
  a = cell_up s.m L p.low.1

  abbrev b : ℕ
  b = cell_up s.m L p.high.1

  indexed : Indexed s x
  indexed = of_is_index s x (to_T r.indexed)

  apart : Distinct ts
  apart = indexed.table.rows_ok.distinct

  originals : LaidFrom s Originals ts x.directory 0 x.originals
  originals = originals_laid s x indexed

  replicas : LaidFrom s Replicas ts x.directory (half_length s.m) x.replicas
  replicas = replicas_laid s x indexed

  -- a stretch of n slots from partition i on: it is there, and these match
  piece_there : (i n from to : ℕ) → 2 * i + n ≤ 2 * 2 ^ L → from ≡ first_slot L i → to ≡ first_slot L i + n
      → PartThere x.directory x.originals from to
  piece_there i n from to h f g = stretch-there originals L i n deep h (omega arith) (omega arith)

  slots_there : (i n from to : ℕ) (sure : Bool) → n ≤ 2 → 2 * i + n ≤ 2 * 2 ^ L → from ≡ first_slot L i → to ≡ first_slot L i + n
      → SlotsThere Originals x.directory x.originals (stretch from to sure)
  slots_there i n from to sure few h f g = partition_there originals L i n deep h (omega arith) (omega arith) sure few apart

  piece_is : (i n from to : ℕ) (sure : Bool) → 2 * i + n ≤ 2 * 2 ^ L → from ≡ first_slot L i → to ≡ first_slot L i + n
      → stretch_matches t x.directory x.originals (stretch from to sure) ≡ keep (t sure) (slots_from s Originals ts L i n)
  unfolding stretch_matches
  piece_is i n from to sure h f g = ap (keep (t sure)) (stretch-is originals L i n deep h (omega arith) (omega arith))

  -- the first slots of the two partitions, and where the replicas' half begins, as the code has them
  module _ (P Q H : ℕ) (at-P : P ≡ first_slot L a) (at-Q : Q ≡ first_slot L b) (at_H : H ≡ half_length s.m) where
    abbrev n : ℕ
    n = original_slots p.kind

    abbrev k : ℕ
    k = replica_slots p.kind

    abbrev there : Type 0
    there =
        AllThere x.directory x.originals x.replicas
        (arranged P Q n p.quick (sure_first p L) (sure_last p L) (stretch (H + P) (H + P + k) (sure_first p L)))

    copies_there : SlotsThere Replicas x.directory x.replicas (stretch (H + P) (H + P + k) (sure_first p L))
    copies_there =
        let f = few_slots p.kind in
        let i = high_in r.ranged L deep in
        let o = cells-ordered r.ranged L deep in
        partition_there replicas L a k deep (omega arith) (omega arith) (omega arith) (sure_first p L) f.1 apart

    arranged-there : (c : Bool) → ltb P Q ≡ c → there
    unfolding arranged first_slot partition_number
    arranged-there true e =
        let h = ltb-true P Q e in
        let f = few_slots p.kind in
        let i = high_in r.ranged L deep in
        rw e (record {
          first = slots_there a 2 P (P + 2) (sure_first p L) (omega arith) (omega arith) at-P (omega arith);
          between = piece_there (a + 1) (2 * (b - (a + 1))) (P + 2) Q (omega arith) (omega arith) (omega arith);
          last = slots_there b n Q (Q + n) (sure_last p L) f.0 (omega arith) at-Q (omega arith);
          replicas = copies_there;
          first_between = refl;
          between_last = refl;
        })
    arranged-there false e =
        let f = few_slots p.kind in
        let i = high_in r.ranged L deep in
        let o = cells-ordered r.ranged L deep in
        rw e (record {
          first = slots_there a 0 P P p.quick (omega arith) (omega arith) at-P (omega arith);
          between = piece_there a 0 P P (omega arith) at-P (omega arith);
          last = slots_there a n P (P + n) (sure_first p L && sure_last p L) f.0 (omega arith) at-P (omega arith);
          replicas = copies_there;
          first_between = refl;
          between_last = refl;
        })

    -- the matches of the originals' three stretches, and of the replicas'
    copies_are : stretch_matches t x.directory x.replicas (stretch (H + P) (H + P + k) (sure_first p L)) ≡ keep (t false) (slots_from s Replicas ts L a k)
    unfolding stretch_matches
    copies_are =
        let f = few_slots p.kind in
        let i = high_in r.ranged L deep in
        let o = cells-ordered r.ranged L deep in
        ap (keep (t (sure_first p L))) (stretch-is replicas L a k deep (omega arith) (omega arith) (omega arith))
        ∙ replicas_sure s ts t p r.ranged r.sure L

    arranged_are : (c : Bool) → ltb P Q ≡ c
        → four_matches t x.directory x.originals x.replicas
        (arranged P Q n p.quick (sure_first p L) (sure_last p L) (stretch (H + P) (H + P + k) (sure_first p L)))
        ≡ keep (t false) (slots_from s Originals ts L a (2 * (b - a) + n)) ++ keep (t false) (slots_from s Replicas ts L a k)
    unfolding arranged four_matches first_slot partition_number
    arranged_are true e =
        let h = ltb-true P Q e in
        let ab : a < b = omega arith in
        let f = few_slots p.kind in
        let i = high_in r.ranged L deep in
        let first = piece_is a 2 P (P + 2) (sure_first p L) (omega arith) at-P (omega arith) ∙ first_sure s ts t p r.ranged r.sure L ab in
        let between =
        piece_is (a + 1) (2 * (b - (a + 1))) (P + 2) Q p.quick (omega arith) (omega arith) (omega arith)
        ∙ between_sure s ts t p r.ranged r.sure L ab
        in
        let last = piece_is b n Q (Q + n) (sure_last p L) (omega arith) at-Q (omega arith) ∙ last_sure s ts t p r.ranged r.sure L ab in
        rw e (ap₂ ◌++◌ (ap₂ ◌++◌ (ap₂ ◌++◌ first between) last ∙ three-pieces s ts (t false) L a b n ab) copies_are)
    arranged_are false e =
        let h = ltb-false P Q e in
        let f = few_slots p.kind in
        let i = high_in r.ranged L deep in
        let o = cells-ordered r.ranged L deep in
        let ab : a ≡ b = omega arith in
        let size : 2 * (b - a) + n ≡ n = omega arith in
        let none =
        piece_is a 0 P P p.quick (omega arith) at-P (omega arith) ∙ ap (keep (t p.quick)) (no_slots s Originals ts L a)
        ∙ none_kept (t p.quick)
        in
        let one =
        piece_is a n P (P + n) (sure_first p L && sure_last p L) (omega arith) at-P (omega arith)
        ∙ one_sure s ts t p r.ranged r.sure L ab
        in
        rw (e, size) (ap₂ ◌++◌ (ap₂ ◌++◌ (ap₂ ◌++◌ none none) one) copies_are)

  low_at : slot_at p.low L ≡ first_slot L a
  low_at = rw r.ranged.low_level

  high_at : slot_at p.high L ≡ first_slot L b
  high_at = rw r.ranged.high_level

  stretches-there : AllThere x.directory x.originals x.replicas (stretches_at p L)
  unfolding stretches_at
  stretches-there =
      arranged-there (slot_at p.low L) (slot_at p.high L) (half_length p.low.0) low_at high_at (ap half_length r.ranged.low_level)
      (ltb (slot_at p.low L) (slot_at p.high L)) refl

  stretches_match : four_matches t x.directory x.originals x.replicas (stretches_at p L) ≡ level_walk s (t false) p (table_of s x) L
  unfolding stretches_at level_walk looked_at width
  stretches_match =
      arranged_are (slot_at p.low L) (slot_at p.high L) (half_length p.low.0) low_at high_at (ap half_length r.ranged.low_level)
      (ltb (slot_at p.low L) (slot_at p.high L)) refl

-- ---- all levels

module _ {s : Scale} {t : Bool → Trip → Bool} {p : Plan} {x : Index} (r : Ready s t p x) where
  pub levels_there : LevelsThere x.directory x.originals x.replicas p
  levels_there =
      let e = r.ranged.low_level in
      record { ranged = subst (λ (m : ℕ). Ranged m p) (sym e) r.ranged; there = λ L h. level_there (stretches-there r L (omega arith)) }

  pub walk-matches : walk_matches t x.directory x.originals x.replicas p ≡ walk s (t false) p (table_of s x) (s.m + 1)
  unfolding walk
  walk-matches =
      let e = r.ranged.low_level in
      let of : ℕ → List Trip = λ L. level_matches t x.directory x.originals x.replicas (stretches_at p L) in
      ap₂ (λ (f : ℕ → List Trip) (m : ℕ). joined f (m + 1))
      (fun_ext λ up. ap (λ (m : ℕ). of (m - up)) e
      ∙ level_looks (stretches-there r (s.m - up) (omega arith)) t ∙ stretches_match r (s.m - up) (omega arith)) e
