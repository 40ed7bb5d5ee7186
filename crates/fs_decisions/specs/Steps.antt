-- How a call about one file goes, step by step.
use Rattle.std.specs.Prelude.{ℕ, ◌*◌, ◌^◌, ◌<◌, ◌≤◌, List, [], ◌∷◌, None}
use Rattle.nfs_proto.specs.declared.answer.Answer.TheVariants.{Fault}
use Rattle.fs_rules.specs.declared.file.File.{File}
use Rattle.fs_rules.specs.declared.plain_tree.PlainTree.{PlainTree}
use Rattle.fs_rules.specs.File.{used}
use Rattle.rpc_msg.specs.declared.cred.Cred.{Cred}
use Rattle.fs_rules.specs.Statuses.{Check}
use Rattle.fs_rules.specs.Arguments.{Named, handle_check, directory_check, name_check, access_check}
use Rattle.fs_rules.specs.Respond.{Responded}

-- what a client is told of a file fits: its mode and its blocks
pub record Fits (f : File) : Type 0 where
  pub mode : f.mode ≤ 0o7777
  pub room : 8 * used f.content < 2 ^ 32

-- a call that is refused
abbrev pub refused : PlainTree → ℕ → Responded
refused t status = record { answer = Fault status; tree = t; made = None }

-- a name that a call gives or takes away
abbrev pub named : List ℕ → List ℕ → ℕ → Named
named dir name unfit = record { dir = dir; name = name; unfit = unfit; bits = 3 }

-- the checks of its arguments, where they are those of one name: its handle, its directory, the name, and access
abbrev pub named_row : PlainTree → Cred → Named → List Check
named_row t cred n = handle_check t n.dir ∷ directory_check t n.dir ∷ name_check n ∷ access_check t cred n ∷ []
