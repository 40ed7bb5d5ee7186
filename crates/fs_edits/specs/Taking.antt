-- What a file must have that loses a name or a link.
use Rattle.std.specs.Prelude.{◌≡◌, ◌≢◌, ℕ, ◌-◌, ◌^◌, ◌<◌, ◌≤◌, if◌then◌else◌, List, [], ◌∷◌, length, Some}
use Rattle.std.specs.FinMap.{get}
use Rattle.nfs_proto.specs.declared.stamp.Stamp.{Stamp}
use Rattle.fs_rules.specs.declared.file.File.{File}
use Rattle.fs_rules.specs.declared.plain_tree.PlainTree.{PlainTree}
use Rattle.fs_rules.specs.File.{slots_of, is_directory}
use Rattle.fs_rules.specs.Edits.{Edit, Changed, Freed}
use Rattle.fs_rules.specs.Names.{without_name, unlinked, loses_link, one_where}

-- a directory has no more slots than one may have
pub record HasRoom (d : File) : Type 0 where
  pub few : length (slots_of d.content) ≤ 7650

-- a file may be changed again, and has so many links
pub record CanLose (links : ℕ) (f : File) : Type 0 where
  pub rises : f.change < 2 ^ 64 - 1
  pub some : links ≤ f.links

-- the directory n, which is d, may lose a name and so many links, and the file m, which is f and not that directory, a link
pub record CanTake (t : PlainTree) (n m links : ℕ) (d f : File) : Type 0 where
  pub dir : get t.files n ≡ Some d
  pub file : get t.files m ≡ Some f
  pub apart : m ≢ n
  pub room : HasRoom d
  pub dir_can : CanLose links d
  pub file_can : CanLose 1 f

-- what becomes of a file that loses a name: a directory is freed, and another file where that was its last
abbrev pub lost : ℕ → File → Edit
lost m f = if is_directory f.content then Freed m f else loses_link m f

-- the name is taken from the directory n, which is d, and from its file m, which is f: a directory takes the link to its parent along
abbrev pub taken_edits : Stamp → ℕ → List ℕ → File → ℕ → File → List Edit
taken_edits now n name d m f = Changed n (unlinked (one_where (is_directory f.content)) (without_name now name d)) ∷ lost m f ∷ []
