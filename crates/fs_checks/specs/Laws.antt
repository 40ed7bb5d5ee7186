-- That the checks look at the facts of a file alone.
use Rattle.std.specs.Prelude.{◌≡◌, ℕ, Bool, List}
use Rattle.rpc_msg.specs.declared.cred.Cred.{Cred}
use Rattle.nfs_proto.specs.declared.sattr.Sattr.{Sattr}
use Rattle.fs_rules.specs.declared.file.File.{File}
use Rattle.fs_rules.specs.Access.{may}
use Rattle.fs_rules.specs.Arguments.{Named}
use Rattle.fs_rules.specs.Attributes.{set_attr_checks}
use Rattle.fs_rules.specs.Reading.{read_checks}
use Rattle.fs_rules.specs.Writing.{write_checks}
use Rattle.fs_rules.specs.Making.{existing_checks}
use Rattle.fs_checks.specs.Facts.{facts_of, bare}
use Rattle.fs_checks.specs.Rows.{directory_row, pair_row, read_dir_row}
use Rattle.fs_checks.specs.Naming.{link_row, over_row}

-- what a check gives of each file it gives of the bare one with the same facts
pub record LookAtFacts : Type 0 where
  pub access : (cred : Cred) (bits : ℕ) (f : File) → may (bare (facts_of f)) cred bits ≡ may f cred bits
  pub set_attr : (set : Sattr) (cred : Cred) (f : File) → set_attr_checks (bare (facts_of f)) set cred ≡ set_attr_checks f set cred
  pub read : (cred : Cred) (f : File) → read_checks (bare (facts_of f)) cred ≡ read_checks f cred
  pub write : (cred : Cred) (offset : ℕ) (bytes : List ℕ) (f : File) → write_checks (bare (facts_of f)) cred offset bytes ≡ write_checks f cred offset bytes
  pub named : (cred : Cred) (n : Named) (f : File) → directory_row (bare (facts_of f)) cred n ≡ directory_row f cred n
  pub pair : (cred : Cred) (c d : File) (from_name to_name : List ℕ) → pair_row (bare (facts_of c)) from_name (bare (facts_of d)) to_name cred ≡ pair_row c from_name d to_name cred
  pub list : (cred : Cred) (f : File) → read_dir_row (bare (facts_of f)) cred ≡ read_dir_row f cred
  pub existing : (set : Sattr) (cred : Cred) (f : File) → existing_checks (bare (facts_of f)) set cred ≡ existing_checks f set cred
  pub link : (taken : Bool) (f : File) → link_row (bare (facts_of f)) taken ≡ link_row f taken
  pub over : (is_dir in_use : Bool) (f : File) → over_row is_dir (bare (facts_of f)) in_use ≡ over_row is_dir f in_use
