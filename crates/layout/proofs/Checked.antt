-- The tests 1, 3, 8 that each call on an index begins with: where the check of the index is refused, so is the call, for the same reason;
-- where it passes, the rest of the call's chain decides.
use Rattle.std.proofs.Common.{Err, Ok}
use mathlib.Core.Path.{◌≡◌, refl, sym, ap, ◌∙◌}
use mathlib.Core.Logic.{◌↔◌}
use mathlib.Core.Bool.{Bool, true, false, not}
use Prim.Native.Nat.{ℕ}
use lib.ListN.{length}
use borrow.Author.Tests.{ne_eqb}
use Rattle.lists.proofs.Tests.{to_T}
use Rattle.ruler.specs.Ruler.{Scale}
use Rattle.layout.specs.declared.Refusal.{Refusal}
use Rattle.layout.specs.declared.Refusal.TheVariants.{RulerOutOfBounds, DirectoryLength, NotAnIndex}
use Rattle.layout.specs.Outcomes.{Outcome, Accepted, Refused}
use Rattle.layout.specs.Words.{Index, directory_length}
use Rattle.layout.specs.Refusals.{refusal_number, number_of, detail_of, refuse, out_of_bounds, bad_directory, is_index, index_tests, check_outcome}
use Rattle.layout.specs.Calls.{if_accepted}
use Rattle.layout.proofs.Chains.{refuse_pass, refuse_taken, to_out_of_bounds, to_bad_directory}
use Rattle.layout.proofs.Indexes.{Indexed}
use Rattle.layout.proofs.EditsBuild.{of_index_tests}
use Rattle.layout.proofs.Links.{index_then}

-- where the check is refused, so is every call on these words, for the same reason
pub refused_for_all : (s : Scale) (x : Index) (why : Refusal) (d : ℕ) → check_outcome s x ≡ Refused why d
    → (rest : Outcome) → index_tests s x rest ≡ Refused why d
unfolding if_accepted
refused_for_all s x why d e rest = index_then s x rest ∙ rw e

-- and has no detail
link_detail : (b : Bool) (why : Refusal) (rest : Outcome) → detail_of rest ≡ 0 → detail_of (refuse b why 0 rest) ≡ 0
unfolding refuse
link_detail true why rest e = refl
link_detail false why rest e = e

pub no_detail : (s : Scale) (x : Index) → detail_of (check_outcome s x) ≡ 0
unfolding check_outcome index_tests
no_detail s x = link_detail _ _ _ (link_detail _ _ _ (link_detail _ _ _ refl))

-- where it passes, the words are an index
pub checked : (s : Scale) (x : Index) → check_outcome s x ≡ Accepted → Indexed s x
unfolding check_outcome
checked s x e = (of_index_tests s x Accepted e).0

-- and the rest of a call's chain decides
pub passed : (s : Scale) (x : Index) → check_outcome s x ≡ Accepted → (rest : Outcome) → index_tests s x rest ≡ rest
unfolding if_accepted
passed s x e rest = index_then s x rest ∙ rw e

-- ---- 8: a call whose other links give other numbers is refused with 8 exactly where the check is

pub eight_not-later : (s : Scale) (x : Index) (rest : Outcome) → (number_of rest ≡ refusal_number NotAnIndex → ⊥)
    → (index_tests s x rest ≡ Refused NotAnIndex 0) ↔ (check_outcome s x ≡ Refused NotAnIndex 0)
eight_not-later s x rest other = (go (check_outcome s x) refl, λ e. refused_for_all s x NotAnIndex 0 e rest)
  where
    go : (o : Outcome) → check_outcome s x ≡ o → index_tests s x rest ≡ Refused NotAnIndex 0 → o ≡ Refused NotAnIndex 0
    go (Ok _) e q = absurd (other (ap number_of (sym (passed s x e rest) ∙ q)))
    go (Err r) e q = sym (refused_for_all s x r.refusal r.detail e rest) ∙ q

pub other_link : (b : Bool) (why : Refusal) (d : ℕ) (rest : Outcome) → (refusal_number why ≡ refusal_number NotAnIndex → ⊥)
    → (number_of rest ≡ refusal_number NotAnIndex → ⊥) → number_of (refuse b why d rest) ≡ refusal_number NotAnIndex → ⊥
unfolding refuse
other_link true why d rest n h = n
other_link false why d rest n h = h

-- ---- the outcome of the check, test by test

module _ (s : Scale) (x : Index) where
  pub check-bounds : s.good ≡ false → Refused RulerOutOfBounds 0 ≡ check_outcome s x
  unfolding check_outcome index_tests out_of_bounds
  check-bounds e = sym (refuse_taken _ _ 0 _ (rw e tt))

  pub check-length : s.good ≡ true → (length x.directory ≡ directory_length s.m → ⊥) → Refused DirectoryLength 0 ≡ check_outcome s x
  unfolding check_outcome index_tests bad_directory
  check-length e n =
      sym (refuse_pass _ _ 0 _ (to_out_of_bounds s (to_T e))
      ∙ refuse_taken _ _ 0 _ (rw (ne_eqb (length x.directory) (directory_length s.m) n) tt))

  pub check-words : (b : Bool) → s.good ≡ true → length x.directory ≡ directory_length s.m → is_index s x ≡ b
      → refuse (not b) NotAnIndex 0 Accepted ≡ check_outcome s x
  unfolding check_outcome index_tests
  check-words b e l q =
      sym (refuse_pass _ _ 0 _ (to_out_of_bounds s (to_T e))
      ∙ refuse_pass _ _ 0 _ (to_bad_directory s (length x.directory) l)
      ∙ ap (λ (c : Bool). refuse (not c) NotAnIndex 0 Accepted) q)
