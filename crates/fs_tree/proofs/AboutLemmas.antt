-- What is answered about the file that a handle names.
use Rattle.std.proofs.Common.{◌≡◌, ℕ, List, Option, Some, None, Result, Ok, Err, ap, ◌∙◌}
use Rattle.std.specs.Prelude.{IfOk}
use Rattle.sfs_base.specs.declared.no_memory.NoMemory.{NoMemory}
use Rattle.std.specs.Option.{option_map_or}
use Rattle.nfs_proto.specs.declared.answer.Answer.{Answer}
use Rattle.nfs_proto.specs.declared.answer.Answer.TheVariants.{Fault}
use Rattle.fs_rules.specs.declared.file.File.{File}
use Rattle.fs_rules.specs.declared.plain_tree.PlainTree.{PlainTree}
use Rattle.fs_rules.specs.Handle.{number_in}
use Rattle.fs_rules.specs.Statuses.{Check, first_failure, stale}
use Rattle.fs_rules.specs.Arguments.{file_of}
use Rattle.fs_tree.specs.Reading.{unless, answer_about}

module _ (t : PlainTree) (name : List ℕ) (checks : ℕ → File → List Check) (answer : ℕ → File → Answer) (f : File) (there : file_of t name ≡ Some f) where
  about : answer_about t name checks answer ≡ unless (first_failure (checks (number_in name) f)) (answer (number_in name) f)
  about = ap (λ (o : Option File). option_map_or (λ f. unless (first_failure (checks (number_in name) f)) (answer (number_in name) f)) o (Fault stale)) there

  -- a check fails
  pub about_refused : (status : ℕ) → first_failure (checks (number_in name) f) ≡ Some status → answer_about t name checks answer ≡ Fault status
  about_refused status fails = about ∙ ap (λ (k : Check). unless k (answer (number_in name) f)) fails

  -- none fails
  pub about_answered : first_failure (checks (number_in name) f) ≡ None → answer_about t name checks answer ≡ answer (number_in name) f
  about_answered passes = about ∙ ap (λ (k : Check). unless k (answer (number_in name) f)) passes

-- an answer that was made, where it is another's equal
pub on_equal : (r : Result Answer NoMemory) (a b : Answer) → IfOk r (λ x. x ≡ a) → a ≡ b → IfOk r (λ x. x ≡ b)
on_equal (Ok x) a b is same = is ∙ same
on_equal (Err e) a b is same = tt
