-- How a file that is made is told of, and how CREATE goes where a file has the name.
use Rattle.std.specs.Prelude.{ℕ, List, ◌++◌, Some, None}
use Rattle.rpc_msg.specs.declared.cred.Cred.{Cred}
use Rattle.nfs_proto.specs.declared.answer.Answer.{Answer}
use Rattle.nfs_proto.specs.declared.answer.Answer.TheVariants.{Found}
use Rattle.nfs_proto.specs.declared.sattr.Sattr.{Sattr}
use Rattle.nfs_proto.specs.declared.stamp.Stamp.{Stamp}
use Rattle.fs_rules.specs.declared.file.File.{File}
use Rattle.fs_rules.specs.declared.plain_tree.PlainTree.{PlainTree}
use Rattle.fs_rules.specs.Handle.{handle}
use Rattle.fs_rules.specs.File.{fattr_of}
use Rattle.fs_rules.specs.Statuses.{Check, first_failure, stale}
use Rattle.fs_rules.specs.Arguments.{at_number}
use Rattle.fs_rules.specs.Edits.{Edit, edited, first_made, limits}
use Rattle.fs_rules.specs.Making.{existing_checks, existing_edits}
use Rattle.fs_rules.specs.Reading.{found_at}
use Rattle.fs_rules.specs.Respond.{Responded}
use Rattle.fs_decisions.specs.Steps.{refused}

-- what is told of the file with a number
abbrev pub found_of : ℕ → File → Answer
found_of n f = Found (record { 0 = handle n f.generation }) (fattr_of n f)

-- where a check fails, its status is the answer and the tree stays; else the changes are made, and the file m is told of
abbrev pub found_by : Check → PlainTree → ℕ → Stamp → List Edit → Responded
found_by (Some status) t m now edits = refused t status
found_by None t m now edits = record { answer = found_at (edited now t edits) m; tree = edited now t edits; made = first_made edits }

-- what becomes of CREATE where the file m has the name
abbrev pub existing_of : PlainTree → ℕ → Sattr → Cred → Stamp → ℕ → Responded
existing_of t m set cred now start =
    at_number t m (refused t stale) (λ f. found_by (first_failure (existing_checks f set cred ++ limits t start (existing_edits now set m f))) t m now (existing_edits now set m f))
