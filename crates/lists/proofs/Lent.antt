-- A slice whose two parts are lent one after the other, as the halves of a directory: what is lent, and what the slice is when the part
-- comes back.
use mathlib.Core.Path.{◌≡◌, ap, ◌∙◌, sym}
use mathlib.Core.List.{List, [], ◌++◌, append-nil, append_assoc}
use Prim.Native.Nat.{ℕ, ◌-◌, ◌+◌, ◌≤◌}
use native.Mathlib.Nat.{zero-add}
use native.Mathlib.Omega.{arith}
use lib.ListN.{length, take, drop, length-drop, drop_of_length-le, take-append-drop}
use lib.Seq.{take_at, take_all, sets, sets-eq, length-take-le, drop-drop, drop-append-le}
use borrow.Rule.Slice.PartMut.{mid_of, put_mid}

module _ (d : List ℕ) (h : ℕ) where
  same : h - 0 ≡ h
  same = omega arith

  -- `&mut d[0..h]`
  pub head_lent : mid_of 0 (h - 0) d ≡ take h d
  head_lent = ap (λ (n : ℕ). take n d) same

  pub head_back : (e : List ℕ) → put_mid 0 (h - 0) d e ≡ e ++ drop h d
  head_back e = ap (λ (n : ℕ). e ++ drop n d) same

  -- `&mut d[h..]`
  pub tail_lent : mid_of h (length d - h) d ≡ drop h d
  tail_lent = take_all (length d - h) (drop h d) (omega (arith, length-drop h d))

  pub tail_back : (e : List ℕ) → put_mid h (length d - h) d e ≡ take h d ++ e
  tail_back e =
      let none : drop (length d - h) (drop h d) ≡ [] = drop_of_length-le (drop h d) {i = length d - h} (omega (arith, length-drop h d)) in
      ap (λ (r : List ℕ). take h d ++ (e ++ r)) none ∙ ap (λ (r : List ℕ). take h d ++ r) (append-nil e)

-- both parts came back, the front as e and then the rest as f
pub both_back : (e r f : List ℕ) (h : ℕ) → length e ≡ h → put_mid h (length (e ++ r) - h) (e ++ r) f ≡ e ++ f
both_back e r f h l = tail_back (e ++ r) h f ∙ ap (λ (x : List ℕ). x ++ f) (take_at e r h l)

-- bytes stored in a part of a list are stored in the list
pub part_stored : (l v : List ℕ) (a k : ℕ) → a + k ≤ length l → length v ≤ k → put_mid a k l (sets (mid_of a k l) 0 v) ≡ sets l a v
part_stored l v a k h few =
    let m = take k (drop a l) in
    let q = drop k (drop a l) in
    let d = drop (length v) m in
    let long : length m ≡ k = length-take-le k (drop a l) (omega (arith, length-drop a l)) in
    let stored : sets m 0 v ≡ v ++ d = sets-eq v m 0 (omega arith) ∙ rw zero-add in
    let rest : drop (a + length v) l ≡ d ++ q = sym (drop-drop (length v) a l)
    ∙ ap (λ (y : List ℕ). drop (length v) y) (sym (take-append-drop k (drop a l))) ∙ drop-append-le (length v) m q (omega arith) in
    ap (λ (y : List ℕ). take a l ++ (y ++ q)) stored ∙ ap (λ (y : List ℕ). take a l ++ y) (append_assoc v d q)
    ∙ sym (append_assoc (take a l) v (d ++ q)) ∙ ap (λ (y : List ℕ). (take a l ++ v) ++ y) (sym rest) ∙ sym (sets-eq v l a (omega arith))
