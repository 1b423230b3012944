-- Where the words of slots stand in a directory, and that they rise: bounds for the code that reads them.
use mathlib.Core.Path.{◌≡◌, refl}
use mathlib.Core.Bool.{Bool}
use mathlib.Core.List.{List}
use Prim.Native.Nat.{ℕ, zero, suc, ◌+◌, ◌-◌, ◌*◌, ◌^◌, ◌≤◌, ◌<◌}
use native.Mathlib.Omega.{arith}
use lib.ListN.{get_or}
use lib.Pow.{pow_pos}
use Rattle.layout.specs.declared.Half.{Half}
use Rattle.layout.specs.declared.Half.TheVariants.{Originals, Replicas}
use Rattle.layout.specs.declared.Subdivision.{Subdivision}
use Rattle.layout.specs.declared.Subdivision.TheVariants.{RAft}
use Rattle.layout.specs.Words.{half_length, directory_length, slot_number}
use Rattle.layout.specs.Answers.{half_of, is_aft, subdivision_numbered}
use Rattle.layout.proofs.ByDirectory.{slot-inside, slots_apart}
use Rattle.view.specs.Directory.{half_from, slot_at, every_second, Rising, Halves}

pub half_fits : (m : ℕ) (h : Half) → half_from m h + half_length m ≤ directory_length m
unfolding half_from half_length directory_length
half_fits m Originals = omega arith
half_fits m Replicas = omega arith

-- a slot's word and the one after it are words of the directory
pub slot-fits : (m L i : ℕ) (d : Subdivision) → L ≤ m → i < 2 ^ L → slot_at m L i d + 1 < directory_length m
unfolding slot_at half_length
slot-fits m L i d deep there = omega (arith, half_fits m (half_of d), slot-inside m L i (is_aft d) deep there)

-- the words of the slots of one side of a level are words of one half, so they rise
pub level_rising : (m L : ℕ) (dir : List ℕ) (d : Subdivision) → Halves m dir → L ≤ m → Rising dir (slot_at m L 0 d) (2 * 2 ^ L)
unfolding slot_at half_length
level_rising m L dir d w deep =
    let h = half_from m (half_of d) in
    let first = slot_number L 0 (is_aft d) in
    let half = w.rising (half_of d) in
    let last = slot-inside m L (2 ^ L - 1) (is_aft d) deep (omega (arith, pow_pos L)) in
    let apart = slots_apart L (2 ^ L - 1) (is_aft d) in
    record {
      inside = omega (arith, half.inside, pow_pos L);
      rises = λ k l.
          let e : h + (first + k) ≡ h + first + k = omega arith in
          rw e at (half.rises (first + k) (omega (arith, pow_pos L)));
    }

-- the entries of the slots passed are no more than those before the next slot
pub sum_below : (dir : List ℕ) (from n : ℕ) → Rising dir from (2 * n) → (i : ℕ) → i < n → every_second dir from i ≤ get_or dir (from + 2 * i) 0
unfolding every_second
sum_below dir from n w zero l = omega arith
sum_below dir from n w (suc i) l =
    let here : from + (2 * i + 1) ≡ from + 2 * i + 1 = omega arith in
    let next : from + 2 * i + 1 + 1 ≡ from + 2 * suc i = omega arith in
    let up = w.rises (2 * i) (omega arith) in
    let on : get_or dir (from + 2 * i + 1) 0 ≤ get_or dir (from + 2 * suc i) 0 = rw (here, next) at (w.rises (2 * i + 1) (omega arith)) in
    omega (arith, sum_below dir from n w i (omega arith))

-- the place of a slot's word, made of its parts
pub slot-sum : (m L i : ℕ) (d : Subdivision) {from at : ℕ} {h : Half} {aft : Bool} → h ≡ half_of d → from ≡ half_from m h → aft ≡ is_aft d → (number : ℕ)
    → number ≡ slot_number L i aft → at ≡ number → from + at ≡ slot_at m L i d
unfolding slot_at
slot-sum m L i d p q r n e f = cc
