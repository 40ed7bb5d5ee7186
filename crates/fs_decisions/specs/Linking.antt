-- How LINK goes.
use Rattle.std.specs.Prelude.{◌≡◌, ℕ, ◌+◌, ◌-◌, ◌^◌, ◌==◌, ◌||◌, List, [], ◌∷◌, None}
use Rattle.rpc_msg.specs.declared.cred.Cred.{Cred}
use Rattle.nfs_proto.specs.declared.call.Call.TheVariants.{Link}
use Rattle.nfs_proto.specs.declared.handle.Handle.{Handle}
use Rattle.nfs_proto.specs.declared.stamp.Stamp.{Stamp}
use Rattle.fs_rules.specs.declared.file.File.{File}
use Rattle.fs_rules.specs.declared.plain_tree.PlainTree.{PlainTree}
use Rattle.fs_rules.specs.Handle.{number_in}
use Rattle.fs_rules.specs.Statuses.{Check}
use Rattle.fs_rules.specs.Edits.{Changed}
use Rattle.fs_rules.specs.Making.{with_name, linked}
use Rattle.fs_rules.specs.Respond.{decided, respond}
use Rattle.fs_edits.specs.Giving.{CanGive}
use Rattle.fs_decisions.specs.Limits.{grown_limits}

-- the limits of a name that is given to the file f in the directory d, which has so many slots then
abbrev pub link_limits : PlainTree → File → File → ℕ → Check
link_limits t f d slots = grown_limits t ((d.change == 2 ^ 64 - 1) || (f.change == 2 ^ 64 - 1)) (f.links + 1) d slots

-- LINK gives the name to the file
pub record MayLink (t : PlainTree) (file dir : Handle) (name : List ℕ) (cred : Cred) (now : Stamp) (start : ℕ) : Type 0 where
  pub d : File
  pub f : File
  pub gives : CanGive t (number_in dir.0) (number_in file.0) name d f
  pub answers : respond t (Link file dir name) cred now start
      ≡ decided None t (Link file dir name) now (Changed (number_in dir.0) (with_name now name (number_in file.0) d) ∷ Changed (number_in file.0) (linked f) ∷ [])
