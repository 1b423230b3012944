-- A directory by its halves: the last word of each, and both lent by code one after the other.
use mathlib.Core.Path.{◌≡◌, sym, ap, ◌∙◌}
use mathlib.Core.List.{List, ◌++◌}
use Prim.Native.Nat.{ℕ, ◌+◌, ◌-◌, ◌<◌}
use native.Mathlib.Omega.{arith}
use lib.ListN.{length, get_or, take, drop, length-drop, take-append-drop, get_or-append, length-append}
use lib.Seq.{length-take-le, drop_at}
use borrow.Rule.Slice.PartMut.{put_mid}
use Rattle.lists.proofs.Lent.{head_lent, head_back, tail_lent, tail_back, both_back as parts-back}
use Rattle.layout.specs.Words.{half_length, directory_length}
use Rattle.layout.proofs.Numbers.{halves-length}
use Rattle.store.specs.Halves.{total}

pub total_at : (dir : List ℕ) (n : ℕ) → length dir ≡ n + 1 → total dir ≡ get_or dir n 0
unfolding total
total_at dir n l = let e : length dir - 1 ≡ n = omega arith in rw e

-- the last word of the first n + 1
pub total_first : (dir : List ℕ) (n : ℕ) → n < length dir → total (take (n + 1) dir) ≡ get_or dir n 0
total_first dir n l =
    let long : length (take (n + 1) dir) ≡ n + 1 = length-take-le (n + 1) dir (omega arith) in
    total_at (take (n + 1) dir) n long
    ∙ sym (get_or-append (take (n + 1) dir) (drop (n + 1) dir) 0 n (omega (arith, long)))
    ∙ ap (λ (l : List ℕ). get_or l n 0) (take-append-drop (n + 1) dir)

-- ---- both halves, of h words each: `&d[0..h]`, then `&d[h..n]`

pub two_halves : (m : ℕ) {h n : ℕ} → n ≡ directory_length m → h ≡ half_length m → n ≡ h + h
two_halves m e f = omega (arith, halves-length m)

module _ (d : List ℕ) (h n : ℕ) (both : n ≡ h + h) (long : length d ≡ n) where
  pub first_lent : take (h - 0) d ≡ take h d
  first_lent = head_lent d h

  pub second_lent : take (n - h) (drop h d) ≡ drop h d
  second_lent = let e : n - h ≡ length d - h = omega arith in rw e (tail_lent d h)

  -- each has as many words
  pub first_long : length (take (h - 0) d) ≡ h
  first_long = length-take-le (h - 0) d (omega arith) ∙ omega arith

  pub second_long : length (take (n - h) (drop h d)) ≡ h
  second_long = ap length second_lent ∙ length-drop h d ∙ omega arith

  -- the first half came back as f: the second is lent as it was, and both come back
  module _ (f : List ℕ) (size : length f ≡ h) where
    abbrev back : List ℕ
    back = f ++ drop (h - 0) (drop 0 d)

    pub second_next : take (n - h) (drop h back) ≡ drop h d
    second_next =
        let e : h - 0 ≡ h = omega arith in
        ap (take (n - h)) (drop_at f (drop (h - 0) d) h size) ∙ ap (λ (k : ℕ). take (n - h) (drop k d)) e ∙ second_lent

    pub both_back : (g : List ℕ) → put_mid h (n - h) back g ≡ f ++ g
    both_back g =
        let rest = drop (h - 0) d in
        let e : n - h ≡ length (f ++ rest) - h = omega (arith, length-append f rest, length-drop (h - 0) d) in
        rw e (parts-back f rest g h size)

  -- the second half came back first, as g: the first is lent with as many words, and both come back
  module _ (g : List ℕ) (size : length g ≡ h) where
    front : length (take h d) ≡ h
    front = length-take-le h d (omega arith)

    came : put_mid h (n - h) d g ≡ take h d ++ g
    came = let e : n - h ≡ length d - h = omega arith in rw e (tail_back d h g)

    pub first_next : length (take (h - 0) (put_mid h (n - h) d g)) ≡ h
    first_next = length-take-le (h - 0) (put_mid h (n - h) d g) (omega (arith, ap length came, length-append (take h d) g, front)) ∙ omega arith

    pub second_first : (f : List ℕ) → put_mid 0 (h - 0) (put_mid h (n - h) d g) f ≡ f ++ g
    second_first f =
        head_back (put_mid h (n - h) d g) h f ∙ ap (λ (l : List ℕ). f ++ drop h l) came ∙ ap (λ (l : List ℕ). f ++ l) (drop_at (take h d) g h front)
