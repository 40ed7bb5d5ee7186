-- How a call that takes a name goes, where nothing forbids it.
use Rattle.std.specs.Prelude.{◌≡◌, ℕ, Bool, false, List, ◌∷◌, None, is_none}
use Rattle.std.specs.Option.{option_map_or}
use Rattle.rpc_msg.specs.declared.cred.Cred.{Cred}
use Rattle.nfs_proto.specs.declared.call.Call.{Call}
use Rattle.nfs_proto.specs.declared.call.Call.TheVariants.{Remove, RemoveDir}
use Rattle.nfs_proto.specs.declared.handle.Handle.{Handle}
use Rattle.nfs_proto.specs.declared.stamp.Stamp.{Stamp}
use Rattle.fs_rules.specs.declared.file.File.{File}
use Rattle.fs_rules.specs.declared.plain_tree.PlainTree.{PlainTree}
use Rattle.fs_rules.specs.Handle.{number_in}
use Rattle.fs_rules.specs.File.{is_directory, slots_of}
use Rattle.fs_rules.specs.Slots.{file_named, is_in_use}
use Rattle.fs_rules.specs.Arguments.{at_number, is_dots}
use Rattle.fs_rules.specs.Statuses.{Check, fails_where, noent}
use Rattle.fs_rules.specs.Names.{one_where}
use Rattle.fs_rules.specs.Respond.{decided, respond}
use Rattle.fs_checks.specs.declared.removal.Removal.{Removal}
use Rattle.fs_checks.specs.declared.removal.Removal.TheVariants as removal
use Rattle.fs_checks.specs.Removals.{dots_status, removal_row}
use Rattle.fs_edits.specs.Taking.{CanTake, taken_edits}

-- the call
abbrev pub removal_of : Removal → Handle → List ℕ → Call
removal_of removal.File dir name = Remove dir name
removal_of removal.Directory dir name = RemoveDir dir name

-- what a test says of the file that a name of the directory d names
abbrev pub named_is : PlainTree → File → List ℕ → (File → Bool) → Bool
named_is t d name test = option_map_or (λ m. at_number t m false test) (file_named (slots_of d.content) name) false

-- its own checks: the name is none of "." and "..", it is there, and its file is of the right kind
abbrev pub removal_checks : Removal → PlainTree → File → List ℕ → List Check
removal_checks r t d name =
    fails_where (dots_status r) (is_dots name)
    ∷ fails_where noent (is_none (file_named (slots_of d.content) name))
    ∷ removal_row r (named_is t d name (λ f. is_directory f.content)) (named_is t d name (λ f. is_in_use (slots_of f.content)))

-- the call takes the name from the file m
pub record MayRemove (t : PlainTree) (r : Removal) (dir : Handle) (name : List ℕ) (cred : Cred) (now : Stamp) (start m : ℕ) : Type 0 where
  pub d : File
  pub f : File
  pub takes : CanTake t (number_in dir.0) m (one_where (is_directory f.content)) d f
  pub answers : respond t (removal_of r dir name) cred now start ≡ decided None t (removal_of r dir name) now (taken_edits now (number_in dir.0) name d m f)
