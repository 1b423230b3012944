-- Laws that docs/landings and docs/PORT name and that no proof cites: of a ruler as it is made, of the numbers of cells, of words in even steps, of the
-- halves of a directory, of an id that is put where a test passes, and of a byte of a line that is kept.
use Rattle.std.proofs.Common.{◌≡◌, ℕ, ◌+◌, ◌-◌, ◌*◌, ◌/◌, ◌^◌, ◌<◌, ◌≤◌, Bool, true, false, cond, List, [], ◌∷◌, ◌++◌, length, get_or, take, drop, length-drop, refl, sym, ap, ◌∙◌, arith, add-one, Some}
use lib.ListN.{set, length-set}
use lib.Seq.{length-take-le}
use native.Mathlib.Nat.{mul_comm, suc-mul, mul-le-mul_right, le-div_iff_mul-le}
use lib.Pow.{pow_pos, pow_mono}
use Rattle.lists.proofs.Upto.{length-up_to, get_or_up_to}
use Rattle.ruler.specs.declared.Numbers.{Numbers}
use Rattle.ruler.specs.declared.Ruler.{Ruler}
use Rattle.ruler.specs.Ruler.{deepest, in_bounds}
use Rattle.ruler.specs.Made.{ruler_of, judge}
use Rattle.ruler.proofs.RulerMade.{judge_good, ruler_is}
use Rattle.ruler.proofs.CellLevels.{all_cells}
use Rattle.layout.specs.Words.{half_length, directory_length, Index}
use Rattle.store.specs.Ids.{every_step}
use Rattle.dialogue.specs.Session.{state}
use Rattle.feeding.specs.declared.Standing.{Standing}
use Rattle.feeding.specs.Line.{line_kept}
use Rattle.feeding.specs.Feeding.{held, byte_kept, held_by, Sound}
use Rattle.feeding.proofs.Keeping.{kept_more, kept_push}

-- a ruler as it is made: of its numbers, which are in bounds. Every ruler is
abbrev pub Made : Ruler → Type 0
Made r = judge r.numbers ≡ Some r

pub made : (r : Ruler) → Made r
made r = ruler_is r

pub made_of : (n : Numbers) (good : in_bounds n ≡ true) → Made (ruler_of n good)
made_of n good = judge_good n good

pub made_good : (r : Ruler) → in_bounds r.numbers ≡ true
made_good r = r.good

pub made_is : (r : Ruler) → r ≡ ruler_of r.numbers r.good
made_is r = let e : Some r ≡ Some (ruler_of r.numbers r.good) = sym (ruler_is r) ∙ judge_good r.numbers r.good in cc

-- and a ruler of these numbers is the one that they make
pub made_as : (n : Numbers) (r : Ruler) → r.numbers ≡ n → (good : in_bounds n ≡ true) → r ≡ ruler_of n good
made_as n r same good =
    let e : Some r ≡ Some (ruler_of n good) = sym (ruler_is r) ∙ ap judge same ∙ judge_good n good in cc

-- ---- words in even steps

module _ (step : ℕ) (l : List ℕ) where
  pub long : length (every_step step l) ≡ length l / step
  unfolding every_step
  long = length-up_to (λ (k : ℕ). get_or l (step * k) 0) (length l / step)

  pub at : (i : ℕ) → i < length l / step → get_or (every_step step l) i 0 ≡ get_or l (step * i) 0
  unfolding every_step
  at i h = get_or_up_to (λ (k : ℕ). get_or l (step * k) 0) (length l / step) i 0 h

pub step_inside : (step : ℕ) → 0 < step → (l : List ℕ) (i : ℕ) → i < length l / step → step * i < length l
step_inside step pos l i h =
    let all : (i + 1) * step ≤ length l = (le-div_iff_mul-le {k = step} {x = i + 1} {y = length l} pos).0 (omega arith) in
    omega (arith, all, mul_comm step i, suc-mul i step, ap (λ (k : ℕ). k * step) (add-one i))

-- ---- the cells of a level

-- the cells of level m in cell i of level L, `width` of them, are bounded by those of the deepest level
pub record Small (i width : ℕ) : Type 0 where
  pub from : i * width ≤ (i + 1) * width
  pub to : (i + 1) * width ≤ 2 ^ deepest
  pub some : 1 ≤ (i + 1) * width
  pub few : i < 2 ^ deepest

pub small : (m L i width : ℕ) → m ≤ deepest → L ≤ m → i < 2 ^ L → width ≡ 2 ^ (m - L) → Small i width
small m L i width h g l e =
    let p : 2 ^ L * width ≡ 2 ^ m = ap (λ (k : ℕ). 2 ^ L * k) e ∙ all_cells m L g in
    let next : i + 1 ≤ 2 ^ L = omega arith in
    let one : 1 ≤ i + 1 = omega arith in
    let more : i ≤ i + 1 = omega arith in
    let deeper : L ≤ deepest = omega arith in
    let x = mul-le-mul_right width next in
    let y = mul-le-mul_right width one in
    let z = mul-le-mul_right width more in
    let u = pow_mono h in
    let v = pow_mono deeper in
    let t = pow_pos (m - L) in
    record { from = z; to = omega arith; some = omega arith; few = omega arith }

-- ---- the two halves of a directory are equally long

pub halves_long : (m h : ℕ) (d : List ℕ) → length d ≡ directory_length m → h ≡ half_length m
    → (length (take h d) ≡ half_length m) × (length (drop h d) ≡ half_length m)
unfolding half_length directory_length
halves_long m h d long half = (length-take-le h d (omega arith) ∙ half, length-drop h d ∙ omega arith)

-- ---- an id put where a test passes leaves the list as long

pub put-length : (b : Bool) (out : List ℕ) (at v : ℕ) → length (cond b (set out at v) out) ≡ length out
put-length true out at v = length-set out at v
put-length false out at v = refl

-- ---- a byte that has room is kept

abbrev pub with_byte : (s : Standing) (b : ℕ) → s.line.len < line_kept → Standing
with_byte s b more = record {
  desk = s.desk;
  line = record {
    bytes = set s.line.bytes s.line.len b;
    len = s.line.len + 1;
    kept = kept_more s.line.bytes s.line.len b s.line.kept more;
  };
  more = s.more;
}

pub byte_kept_lem : {s : Standing} → Sound s → (b : ℕ) (more : s.line.len < line_kept)
    → Sound (with_byte s b more) × ((x : Index) (l : List ℕ) → held_by (with_byte s b more) x l ≡ (byte_kept (held_by s x l) b).after)
unfolding byte_kept
byte_kept_lem {s} sound b more =
    let next = kept_push s.line.bytes s.line.len b s.line.kept more in
    (record { ruler = sound.ruler }, λ x l. ap (λ (m : List ℕ). held (state s.desk x l) m s.more) next)
