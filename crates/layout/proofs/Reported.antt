-- A walk over the relevant partitions that takes originals everywhere and replicas in a level's first relevant partition alone meets
-- each trip that shares a cell with the window once, and no other: for any m, from the law that each cell of a trip is covered once.
use mathlib.Core.Path.{◌≡◌, refl, ap}
use mathlib.Core.Logic.{◌⊎◌, inl, inr}
use mathlib.Core.Bool.{Bool, ◌&&◌, ◌||◌}
use Prim.Native.Nat.{ℕ, ◌^◌, ◌≤◌, ◌<◌}
use native.Mathlib.Omega.{arith}
use native.Mathlib.Decide.{dec_lt}
use lib.Dec.{T, leb, eqb, leb→le, le→leb, eqb→eq, eqb_refl}
use Rattle.lists.proofs.Tests.{of_and, to_and, of_or, or_left, or_right}
use Rattle.ruler.specs.Ruler.{cell_up}
use Rattle.ruler.proofs.CellLevels.{up_mono, up_from, up_to}
use Rattle.layout.specs.Stored.{holds}
use Rattle.layout.proofs.Partitions.{Once, once, holds-within, of_within}

module _ (m a b qa qb : ℕ) where
  -- "relevant" at level L, and an original entry or one of the first relevant partition
  unfoldable pub reported : ℕ → ℕ → Bool
  reported L i = holds m L i a b && ((leb (cell_up m L qa) i && leb i (cell_up m L qb)) && (eqb (cell_up m L a) i || eqb (cell_up m L qa) i))

  pub record Reported (L i : ℕ) : Type 0 where
    pub is_held : T (holds m L i a b)
    pub from : cell_up m L qa ≤ i
    pub to : i ≤ cell_up m L qb
    pub kind : (cell_up m L a ≡ i) ⊎ (cell_up m L qa ≡ i)

  pub of_reported : (L i : ℕ) → T (reported L i) → Reported L i
  unfolding reported
  of_reported L i t =
      let w = of_and (holds m L i a b) ((leb (cell_up m L qa) i && leb i (cell_up m L qb)) && (eqb (cell_up m L a) i || eqb (cell_up m L qa) i)) t in
      let u = of_and (leb (cell_up m L qa) i && leb i (cell_up m L qb)) (eqb (cell_up m L a) i || eqb (cell_up m L qa) i) w.1 in
      let v = of_and (leb (cell_up m L qa) i) (leb i (cell_up m L qb)) u.0 in
      record {
        is_held = w.0;
        from = leb→le (cell_up m L qa) i v.0;
        to = leb→le i (cell_up m L qb) v.1;
        kind = elim (of_or (eqb (cell_up m L a) i) (eqb (cell_up m L qa) i) u.1)
            [ inl p ↦ inl (eqb→eq (cell_up m L a) i p) | inr p ↦ inr (eqb→eq (cell_up m L qa) i p) ];
      }

  -- whatever is reported shares a cell with the window
  pub reported_shares : (L i : ℕ) → Reported L i → (a ≤ qb) × (qa ≤ b)
  reported_shares L i w =
      let p = of_within m L i a b (holds-within m L i a b w.is_held) in
      let x = up_from m L qb i w.to in
      let y = up_to m L qa i w.from in
      (omega arith, omega arith)

  -- the cell at which it is met: the first that trip and window share
  module _ (x : ℕ) (ax : a ≤ x) (xb : x ≤ b) (qx : qa ≤ x) (xq : x ≤ qb) (first : (x ≡ a) ⊎ (x ≡ qa)) where
    met : (L i : ℕ) → Reported L i → cell_up m L x ≡ i
    met L i w = go first w.kind
      where
        go : (x ≡ a) ⊎ (x ≡ qa) → (cell_up m L a ≡ i) ⊎ (cell_up m L qa ≡ i) → cell_up m L x ≡ i
        go (inl e) (inl k) = rw e k
        go (inl e) (inr k) =
            let p = of_within m L i a b (holds-within m L i a b w.is_held) in
            let q = up_from m L qa i (omega arith) in
            let s : x ≡ qa = omega arith in
            rw s k
        go (inr e) (inl k) = let p = up_mono m L a x ax in let f = w.from in let s = ap (cell_up m L) e in omega arith
        go (inr e) (inr k) = rw e k

    to_reported : (L : ℕ) → T (holds m L (cell_up m L x) a b) → T (reported L (cell_up m L x))
    unfolding reported
    to_reported L t =
        to_and (holds m L (cell_up m L x) a b) _ t
        (to_and (leb (cell_up m L qa) (cell_up m L x) && leb (cell_up m L x) (cell_up m L qb)) _
        (to_and (leb (cell_up m L qa) (cell_up m L x)) _ (le→leb (cell_up m L qa) (cell_up m L x) (up_mono m L qa x qx))
        (le→leb (cell_up m L x) (cell_up m L qb) (up_mono m L x qb xq)))
        (kind first))
      where
        kind : (x ≡ a) ⊎ (x ≡ qa) → T (eqb (cell_up m L a) (cell_up m L x) || eqb (cell_up m L qa) (cell_up m L x))
        kind (inl e) = or_left (eqb (cell_up m L a) (cell_up m L x)) (eqb (cell_up m L qa) (cell_up m L x)) (rw e (eqb_refl (cell_up m L a)))
        kind (inr e) = or_right (eqb (cell_up m L a) (cell_up m L x)) (eqb (cell_up m L qa) (cell_up m L x)) (rw e (eqb_refl (cell_up m L qa)))

    pub report_once : x < 2 ^ m → Once m reported
    report_once bound =
        let o = once m a b x bound ax xb in
        let w = of_and (holds m o.level o.place a b) (eqb (cell_up m o.level x) o.place) o.has in
        let e = eqb→eq (cell_up m o.level x) o.place w.1 in
        record {
          level = o.level;
          place = o.place;
          deep = o.deep;
          there = o.there;
          has = rw e at (to_reported o.level (rw e w.0));
          only = λ L i h t.
              let u = of_reported L i t in
              o.only L i h (to_and (holds m L i a b) (eqb (cell_up m L x) i) u.is_held (rw (met L i u) (eqb_refl i)));
        }

-- the trip shares a cell with the window: it is reported once
pub shared_once : (m a b qa qb : ℕ) → a ≤ b → qa ≤ qb → a ≤ qb → qa ≤ b → b < 2 ^ m → Once m (reported m a b qa qb)
shared_once m a b qa qb ab q aq qab bound = go (dec_lt a qa)
  where
    go : Dec (a < qa) → Once m (reported m a b qa qb)
    go (yes l) = report_once m a b qa qb qa (omega arith) qab (omega arith) q (inr refl) (omega arith)
    go (no l) = report_once m a b qa qb a (omega arith) ab (omega arith) aq (inl refl) (omega arith)
