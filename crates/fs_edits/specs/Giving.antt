-- What a file must have that gets a name or a link.
use Rattle.std.specs.Prelude.{◌≡◌, ◌≢◌, ℕ, ◌-◌, ◌^◌, ◌<◌, ◌≤◌, true, List, length, Some}
use Rattle.std.specs.FinMap.{get}
use Rattle.nfs_proto.specs.declared.stamp.Stamp.{Stamp}
use Rattle.fs_rules.specs.declared.entry.Entry.{Entry}
use Rattle.fs_rules.specs.declared.file.File.{File}
use Rattle.fs_rules.specs.declared.plain_tree.PlainTree.{PlainTree}
use Rattle.fs_rules.specs.File.{is_directory, slots_of}
use Rattle.fs_rules.specs.Slots.{put_name}
use Rattle.fs_rules.specs.Making.{with_name}

-- the directory n can get a name more
pub record CanReceive (t : PlainTree) (n : ℕ) (d : File) (e : Entry) : Type 0 where
  pub there : get t.files n ≡ Some d
  pub is : is_directory d.content ≡ true
  pub change : d.change < 2 ^ 64 - 1
  pub slots : length (put_name (slots_of d.content) e) ≤ 7650

-- a directory with a name more, which has so many links then
abbrev pub receiving : Stamp → List ℕ → ℕ → ℕ → File → File
receiving now name n links d = record (with_name now name n d) { links = links }

-- a file may be changed again, and get a link more
pub record CanGain (f : File) : Type 0 where
  pub rises : f.change < 2 ^ 64 - 1
  pub few : f.links < 32000

-- the directory n, which is d, may get a name of the file m, which is f and not that directory
pub record CanGive (t : PlainTree) (n m : ℕ) (name : List ℕ) (d f : File) : Type 0 where
  pub dir : get t.files n ≡ Some d
  pub file : get t.files m ≡ Some f
  pub apart : m ≢ n
  pub directory : is_directory d.content ≡ true
  pub room : length (put_name (slots_of d.content) (record { name = name; file = m })) ≤ 7650
  pub dir_rises : d.change < 2 ^ 64 - 1
  pub file_can : CanGain f
