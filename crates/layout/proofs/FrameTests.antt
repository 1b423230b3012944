-- The tests 1 and 3 of a ruler and the length of a directory: what they tell, and that a refusal of theirs stands for every rest.
use mathlib.Core.Path.{◌≡◌, refl, sym, ◌∙◌}
use mathlib.Core.Bool.{Bool, true, false}
use Prim.Native.Nat.{ℕ}
use lib.Dec.{T}
use borrow.Author.Tests.{ne_eqb}
use Rattle.lists.proofs.Tests.{to_T}
use Rattle.ruler.specs.Ruler.{Scale}
use Rattle.layout.specs.declared.Refusal.{Refusal}
use Rattle.layout.specs.declared.Refusal.TheVariants.{RulerOutOfBounds, DirectoryLength}
use Rattle.layout.specs.Outcomes.{Outcome, Accepted, Refused}
use Rattle.layout.specs.Words.{directory_length}
use Rattle.layout.specs.Refusals.{detail_of, refuse, out_of_bounds, bad_directory, frame_tests}
use Rattle.layout.specs.Calls.{if_accepted}
use Rattle.layout.proofs.Chains.{refuse_no, refuse_pass, refuse_taken, of_out_of_bounds, to_out_of_bounds, of_bad_directory, to_bad_directory}
use Rattle.layout.proofs.Links.{frame_then}

-- a link without a detail
pub link_detail : (b : Bool) (why : Refusal) (rest : Outcome) → detail_of rest ≡ 0 → detail_of (refuse b why 0 rest) ≡ 0
unfolding refuse
link_detail true why rest e = refl
link_detail false why rest e = e

module _ (s : Scale) (n : ℕ) where
  pub frame_detail : detail_of (frame_tests s n Accepted) ≡ 0
  unfolding frame_tests
  frame_detail = link_detail _ _ _ (link_detail _ _ _ refl)

  pub frame_pass : (rest : Outcome) → T s.good → n ≡ directory_length s.m → frame_tests s n rest ≡ rest
  unfolding frame_tests
  frame_pass rest g l = refuse_pass _ _ 0 _ (to_out_of_bounds s g) ∙ refuse_pass _ _ 0 _ (to_bad_directory s n l)

  pub of_frame : (rest : Outcome) → frame_tests s n rest ≡ Accepted → T s.good × (n ≡ directory_length s.m) × (rest ≡ Accepted)
  unfolding frame_tests
  of_frame rest e =
      let a = refuse_no _ _ 0 _ e in
      let b = refuse_no _ _ 0 _ a.1 in
      (of_out_of_bounds s a.0, of_bad_directory s n b.0, b.1)

  pub frame_bounds : s.good ≡ false → Refused RulerOutOfBounds 0 ≡ frame_tests s n Accepted
  unfolding frame_tests out_of_bounds
  frame_bounds e = sym (refuse_taken _ _ 0 _ (rw e tt))

  pub frame_length : s.good ≡ true → (n ≡ directory_length s.m → ⊥) → Refused DirectoryLength 0 ≡ frame_tests s n Accepted
  unfolding frame_tests bad_directory
  frame_length e l =
      sym (refuse_pass _ _ 0 _ (to_out_of_bounds s (to_T e)) ∙ refuse_taken _ _ 0 _ (rw (ne_eqb n (directory_length s.m) l) tt))

  -- where the two refuse, so does the whole chain, for the same reason
  pub frame_refused : (why : Refusal) (d : ℕ) → frame_tests s n Accepted ≡ Refused why d → (rest : Outcome) → frame_tests s n rest ≡ Refused why d
  unfolding if_accepted
  frame_refused why d e rest = frame_then s n rest ∙ rw e

  -- where they accept, the rest decides
  pub frame_accepted : frame_tests s n Accepted ≡ Accepted → (rest : Outcome) → frame_tests s n rest ≡ rest
  unfolding if_accepted
  frame_accepted e rest = frame_then s n rest ∙ rw e
