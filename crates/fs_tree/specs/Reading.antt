-- How a call that changes nothing is answered.
use Rattle.std.specs.Prelude.{ℕ, ◌++◌, [], List, Some, None}
use Rattle.rpc_msg.specs.declared.cred.Cred.{Cred}
use Rattle.nfs_proto.specs.declared.answer.Answer.{Answer}
use Rattle.nfs_proto.specs.declared.answer.Answer.TheVariants.{Fault}
use Rattle.fs_rules.specs.declared.file.File.{File}
use Rattle.fs_rules.specs.declared.plain_tree.PlainTree.{PlainTree}
use Rattle.fs_rules.specs.Reading.{lookup_checks}
use Rattle.fs_rules.specs.Statuses.{Check, first_failure, stale}
use Rattle.fs_rules.specs.Arguments.{at_file, looked_up}
use Rattle.fs_checks.specs.Rows.{directory_row}

-- the status of a check that fails, else an answer
abbrev pub unless : Check → Answer → Answer
unless None answer = answer
unless (Some status) answer = Fault status

-- the answer about the file that a handle names, where no check of the procedure fails
abbrev pub answer_about : PlainTree → List ℕ → (ℕ → File → List Check) → (ℕ → File → Answer) → Answer
answer_about t name checks answer = at_file t name (Fault stale) (λ n f. unless (first_failure (checks n f)) (answer n f))

-- the checks of LOOKUP behind that of the handle: a directory, a name, access, and the procedure's own
abbrev pub lookup_row : ℕ → File → List ℕ → Cred → List Check
lookup_row n d name cred = directory_row d cred (looked_up [] name) ++ lookup_checks n d name
