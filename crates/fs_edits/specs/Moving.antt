-- How a file is moved from one name to another.
use Rattle.std.specs.Prelude.{◌≡◌, ◌≢◌, ℕ, ◌+◌, ◌-◌, ◌^◌, ◌<◌, ◌≤◌, ◌==◌, true, if◌then◌else◌, List, [], ◌∷◌, ◌++◌, length, Some}
use Rattle.std.specs.Ordering.{nat_cmp}
use Rattle.std.specs.FinMap.{FinMap, get}
use Rattle.nfs_proto.specs.declared.stamp.Stamp.{Stamp}
use Rattle.fs_rules.specs.declared.entry.Entry.{Entry}
use Rattle.fs_rules.specs.declared.file.File.{File}
use Rattle.fs_rules.specs.File.{slots_of, is_directory}
use Rattle.fs_rules.specs.Slots.{put_name, take_name}
use Rattle.fs_rules.specs.Edits.{Edit, Changed, Freed}
use Rattle.fs_rules.specs.Making.{renamed}
use Rattle.fs_rules.specs.Names.{Move, moves_directory, replaces, one_where, received, directory_edits, replaced_edits, with_parent, unlinked}
use Rattle.fs_edits.specs.declared.plan.Plan.{Plan}
use Rattle.fs_edits.specs.declared.replaced.Replaced.{Replaced}
use Rattle.fs_edits.specs.declared.replaced.Replaced.TheVariants.{Nothing, LosesLink, IsFreed}
use Rattle.fs_edits.specs.Taking.{HasRoom, CanLose}

-- a directory with the one name and without the other, which has so many links then
abbrev pub exchanged : Stamp → Entry → List ℕ → ℕ → File → File
exchanged now e old_name links d = record (renamed now (take_name (put_name (slots_of d.content) e) old_name) d) { links = links }

-- what the move changes, but for the file that is replaced
abbrev pub moved_edits : Stamp → Move → List Edit
moved_edits now m = directory_edits now m ++ (Changed m.source (record m.source_file { content = with_parent m.to m.source_file.content }) ∷ [])

-- the file that is replaced is there, and neither a directory of the move nor what is moved
abbrev pub CanReplace : FinMap nat_cmp File → Move → Replaced → Type 0
CanReplace files m Nothing = replaced_edits m ≡ []
CanReplace files m (LosesLink n) = (r : File) × (get files n ≡ Some r) × (n ≢ m.from) × (n ≢ m.to) × (n ≢ m.source) × CanLose 1 r × (replaced_edits m ≡ Changed n (unlinked 1 r) ∷ [])
CanReplace files m (IsFreed n) = (r : File) × (get files n ≡ Some r) × (n ≢ m.from) × (n ≢ m.to) × (n ≢ m.source) × (r.change < 2 ^ 64 - 1) × (replaced_edits m ≡ Freed n r ∷ [])

-- the files of the move m are there and may be changed, and the plan p has its numbers
pub record CanMove (files : FinMap nat_cmp File) (p : Plan) (m : Move) (from_name to_name : List ℕ) : Type 0 where
  pub names : (m.from_name ≡ from_name) × (m.to_name ≡ to_name)
  pub numbers : (p.from ≡ m.from) × (p.to ≡ m.to) × (p.source ≡ m.source)
  pub along : p.along ≡ one_where (moves_directory m)
  pub links : p.links ≡ m.to_dir.links + (if m.from == m.to then 0 else one_where (moves_directory m)) - one_where (replaces m (λ r. is_directory r.content))
  pub from : get files m.from ≡ Some m.from_dir
  pub to : get files m.to ≡ Some m.to_dir
  pub source : get files m.source ≡ Some m.source_file
  pub apart : (m.source ≢ m.from) × (m.source ≢ m.to)
  pub directory : is_directory m.to_dir.content ≡ true
  pub from_room : HasRoom m.from_dir
  pub from_can : CanLose (one_where (moves_directory m)) m.from_dir
  pub to_room : length (received m) ≤ 7650
  pub to_rises : m.to_dir.change < 2 ^ 64 - 1
  pub source_rises : m.source_file.change < 2 ^ 64 - 1
