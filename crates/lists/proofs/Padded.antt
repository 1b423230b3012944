-- Words with zeros after them, up to a length.
use mathlib.Core.Path.{◌≡◌, ◌∙◌, refl, sym}
use mathlib.Core.List.{List, [], ◌∷◌, ◌++◌, append_assoc}
use Prim.Native.Nat.{ℕ, ◌-◌, ◌≤◌, suc, ◌+◌, ◌<◌}
use native.Mathlib.Omega.{arith}
use lib.ListN.{length, replicate, length-append, length-replicate, set}
use lib.Seq.{set_at}
use Rattle.lists.specs.Lists.{padded}

pub padded-length : (n : ℕ) (l : List ℕ) → length l ≤ n → length (padded n l) ≡ n
unfolding padded
padded-length n l h = length-append l (replicate (n - length l) 0) ∙ omega (arith, length-replicate {A = ℕ} (n - length l) 0)

-- and the first zero replaced
pub padded-more : (n : ℕ) (l : List ℕ) (b : ℕ) → length l < n → set (padded n l) (length l) b ≡ padded n (l ++ (b ∷ []))
unfolding padded
padded-more n l b h =
    let more : n - length l ≡ suc (n - (length l + 1)) = omega arith in
    let count : length (l ++ (b ∷ [])) ≡ length l + 1 = length-append l (b ∷ []) in
    rw (more, count) (set_at l 0 (replicate (n - (length l + 1)) 0) b (length l) refl ∙ sym (append_assoc l (b ∷ []) _))
