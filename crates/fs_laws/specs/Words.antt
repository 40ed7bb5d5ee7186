-- A tree whose numbers fit the words that its records have for them (docs/FORMATS.md, "Images").
use Rattle.std.specs.Prelude.{◌≡◌, ℕ, ◌^◌, ◌<◌, Some}
use Rattle.std.specs.FinMap as table
use Rattle.rpc_msg.specs.declared.cred.Cred.{Cred}
use Rattle.nfs_proto.specs.declared.call.Call.{Call}
use Rattle.nfs_proto.specs.declared.stamp.Stamp.{Stamp}
use Rattle.nfs_proto.specs.Laws.{IsTyped}
use Rattle.fs_rules.specs.declared.file.File.{File}
use Rattle.fs_rules.specs.declared.geometry.Geometry.{Geometry}
use Rattle.fs_rules.specs.declared.kept.Kept.{Kept}
use Rattle.fs_rules.specs.declared.plain_tree.PlainTree.{PlainTree}
use Rattle.fs_rules.specs.Fresh.{fresh}
use Rattle.fs_rules.specs.Good.{IsGood}
use Rattle.fs_rules.specs.Respond.{respond}

-- a moment of two words
abbrev pub IsMoment : Stamp → Type 0
IsMoment moment = (moment.sec < 2 ^ 32) × (moment.usec < 2 ^ 32)

-- the owner and the generation of a file are words, its change number is two, and its moments are words; its other numbers are
-- small in every good tree
abbrev pub FitsWords : File → Type 0
FitsWords f =
    (f.uid < 2 ^ 32) × (f.gid < 2 ^ 32) × (f.generation < 2 ^ 32) × (f.change < 2 ^ 64) × IsMoment f.atime × IsMoment f.mtime × IsMoment f.ctime

-- what a free number keeps
abbrev pub IsKeptInWords : Kept → Type 0
IsKeptInWords k = (k.generation < 2 ^ 32) × (k.change < 2 ^ 64)

-- all files and all free numbers
pub record IsInWords (t : PlainTree) : Type 0 where
  pub files : (n : ℕ) (f : File) → table.get t.files n ≡ Some f → FitsWords f
  pub freed : (n : ℕ) (k : Kept) → table.get t.freed n ≡ Some k → IsKeptInWords k

-- the user and the group of a caller are words
abbrev pub IsCaller : Cred → Type 0
IsCaller cred = (cred.uid < 2 ^ 32) × (cred.gid < 2 ^ 32)

-- a cluster begins within its words
abbrev pub FreshIsInWords : Type 0
FreshIsInWords = (g : Geometry) → IsInWords (fresh g)

-- every call stays within them: where its own numbers are words, as their types make sure of
abbrev pub WordsStayWords : Type 0
WordsStayWords = (t : PlainTree) (call : Call) (cred : Cred) (now : Stamp) (start : ℕ) → IsGood t → IsInWords t → IsTyped call → IsCaller cred → IsMoment now
    → IsInWords (respond t call cred now start).tree
