-- A call that makes a file.
use Rattle.std.specs.Prelude.{◌≡◌, ℕ, ◌+◌, true, false, if◌then◌else◌, List, [], ◌∷◌, length, None}
use Rattle.std.specs.FinMap as table
use Rattle.rpc_msg.specs.declared.cred.Cred.{Cred}
use Rattle.nfs_proto.specs.declared.answer.Answer.TheVariants.{Plain}
use Rattle.nfs_proto.specs.declared.call.Call.{Call}
use Rattle.nfs_proto.specs.declared.sattr.Sattr.{Sattr}
use Rattle.nfs_proto.specs.declared.stamp.Stamp.{Stamp}
use Rattle.fs_rules.specs.declared.content.Content.TheVariants.{Regular, Directory, Link}
use Rattle.fs_rules.specs.declared.file.File.{File}
use Rattle.fs_rules.specs.declared.kept.Kept.{Kept}
use Rattle.fs_rules.specs.declared.plain_tree.PlainTree.{PlainTree}
use Rattle.fs_rules.specs.Attributes.{chosen}
use Rattle.fs_rules.specs.Contents.{written}
use Rattle.fs_rules.specs.Numbers.{kept_at}
use Rattle.fs_rules.specs.Statuses.{first_failure}
use Rattle.fs_rules.specs.Arguments.{argument_checks}
use Rattle.fs_rules.specs.Edits.{Edit, Changed, Made, edited}
use Rattle.fs_rules.specs.Making.{new_file, new_number, unset}
use Rattle.fs_rules.specs.Respond.{own_checks, edits_of, answer_of}
use Rattle.fs_tree.specs.declared.new_file.NewFile.{NewFile}
use Rattle.fs_edits.specs.Giving.{receiving}
use Rattle.fs_tree.specs.Creating.{found_of}

-- the file, at a number that keeps this
abbrev pub made_with : Kept → Stamp → Cred → NewFile → File
made_with kept now cred new = new_file kept now new.set cred new.mode new.links new.size new.content

-- what is changed where its number is m and its directory is d
abbrev pub made_edits : PlainTree → Cred → Stamp → ℕ → File → List ℕ → NewFile → ℕ → List Edit
made_edits t cred now n d name new m = Changed n (receiving now name m (d.links + new.gained) d) ∷ Made m (made_with (kept_at t m) now cred new) ∷ []

-- the checks of a call pass, and it makes the file in the directory d
pub record Makes (t : PlainTree) (call : Call) (cred : Cred) (now : Stamp) (n : ℕ) (d : File) (name : List ℕ) (new : NewFile) : Type 0 where
  pub arguments : first_failure (argument_checks t call cred) ≡ None
  pub own : first_failure (own_checks t call cred) ≡ None
  pub edits : (start : ℕ) → edits_of t call cred now start ≡ made_edits t cred now n d name new (new_number t start)
  pub answers : (m : ℕ) → table.get t.files m ≡ None
      → answer_of (edited now t (made_edits t cred now n d name new m)) call ≡ (if new.is_told then found_of m (made_with (kept_at t m) now cred new) else Plain)

-- ---- what the procedures make

abbrev pub regular_of : Sattr → NewFile
regular_of set =
    record { content = Regular table.empty; mode = chosen set.mode 0o100644; links = 1; size = chosen set.size 0; set = set; gained = 0; is_told = true }

abbrev pub directory_of : ℕ → Sattr → NewFile
directory_of parent set =
    record { content = Directory [] parent; mode = chosen set.mode 0o755; links = 2; size = 0; set = set; gained = 1; is_told = true }

abbrev pub link_of : List ℕ → NewFile
link_of path =
    record { content = Link (written table.empty 0 path); mode = 0o777; links = 1; size = length path; set = unset; gained = 0; is_told = false }
