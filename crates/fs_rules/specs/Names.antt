-- The procedures that give, take and move names: LINK, REMOVE, RMDIR and RENAME (RFC 1094, sections 2.2.11 to 2.2.13 and 2.2.16).
use Rattle.std.specs.Prelude.{ℕ, ◌+◌, ◌-◌, ◌==◌, nat_lt, Bool, false, not, ◌&&◌, ◌||◌, if◌then◌else◌, List, [], ◌∷◌, ◌++◌, Option, Some, None, is_some, is_none, option_and_then}
use Rattle.std.specs.Option.{option_map_or}
use Rattle.std.specs.List.{list_any}
use Rattle.nfs_proto.specs.declared.stamp.Stamp.{Stamp}
use Rattle.fs_rules.specs.declared.content.Content.{Content}
use Rattle.fs_rules.specs.declared.content.Content.TheVariants.{Regular, Link, Directory}
use Rattle.fs_rules.specs.declared.entry.Entry.{Entry}
use Rattle.fs_rules.specs.declared.file.File.{File}
use Rattle.fs_rules.specs.declared.plain_tree.PlainTree.{PlainTree}
use Rattle.fs_rules.specs.File.{is_directory, slots_of}
use Rattle.fs_rules.specs.Lists.{below}
use Rattle.fs_rules.specs.Slots.{file_named, is_in_use, put_name, take_name}
use Rattle.fs_rules.specs.Good.{ancestor}
use Rattle.fs_rules.specs.Making.{renamed, with_name, linked}
use Rattle.fs_rules.specs.Statuses.{Check, fails_where, perm, noent, io, acces, exist, notdir, isdir, nametoolong, notempty}
use Rattle.fs_rules.specs.Arguments.{at_number, is_dots}
use Rattle.fs_rules.specs.Edits.{Edit, Changed, Freed}

-- ---- LINK

-- a file, no directory, gets a new name
unfoldable pub link_checks : File → File → List ℕ → List Check
link_checks f d name =
    fails_where perm (is_directory f.content)
    ∷ fails_where exist (is_dots name || is_some (file_named (slots_of d.content) name))
    ∷ []

unfoldable pub link_edits : ℕ → File → ℕ → File → List ℕ → Stamp → List Edit
link_edits m f n d name now = Changed n (with_name now name m d) ∷ Changed m (linked f) ∷ []

-- ---- REMOVE and RMDIR

-- a directory with a name less
abbrev pub without_name : Stamp → List ℕ → File → File
without_name now name d = renamed now (take_name (slots_of d.content) name) d

-- a file with links less
abbrev pub unlinked : ℕ → File → File
unlinked count f = record f { links = f.links - count }

-- a file that loses a name: it is freed where that was the last
abbrev pub loses_link : ℕ → File → Edit
loses_link m f = if nat_lt 1 f.links then Changed m (unlinked 1 f) else Freed m f

-- the file of a name that is there, which is no directory
unfoldable pub remove_checks : PlainTree → File → List ℕ → List Check
remove_checks t d name =
    fails_where isdir (is_dots name)
    ∷ fails_where noent (is_none (file_named (slots_of d.content) name))
    ∷ fails_where isdir (option_map_or (λ m. at_number t m false (λ f. is_directory f.content)) (file_named (slots_of d.content) name) false)
    ∷ []

abbrev pub remove_edits_by : PlainTree → Option ℕ → ℕ → File → List ℕ → Stamp → List Edit
remove_edits_by t None n d name now = []
remove_edits_by t (Some m) n d name now = Changed n (without_name now name d) ∷ at_number t m [] (λ f. loses_link m f ∷ [])

unfoldable pub remove_edits : PlainTree → ℕ → File → List ℕ → Stamp → List Edit
remove_edits t n d name now = remove_edits_by t (file_named (slots_of d.content) name) n d name now

-- the directory of a name that is there, with no name in use
unfoldable pub remove_dir_checks : PlainTree → File → List ℕ → List Check
remove_dir_checks t d name =
    fails_where acces (is_dots name)
    ∷ fails_where noent (is_none (file_named (slots_of d.content) name))
    ∷ fails_where notdir (not (option_map_or (λ m. at_number t m false (λ f. is_directory f.content)) (file_named (slots_of d.content) name) false))
    ∷ fails_where notempty (option_map_or (λ m. at_number t m false (λ f. is_in_use (slots_of f.content))) (file_named (slots_of d.content) name) false)
    ∷ []

abbrev pub remove_dir_edits_by : PlainTree → Option ℕ → ℕ → File → List ℕ → Stamp → List Edit
remove_dir_edits_by t None n d name now = []
remove_dir_edits_by t (Some m) n d name now = Changed n (unlinked 1 (without_name now name d)) ∷ at_number t m [] (λ f. Freed m f ∷ [])

unfoldable pub remove_dir_edits : PlainTree → ℕ → File → List ℕ → Stamp → List Edit
remove_dir_edits t n d name now = remove_dir_edits_by t (file_named (slots_of d.content) name) n d name now

-- ---- RENAME

-- what a RENAME moves: the directories with their numbers, the names, the file that is moved, and the file that the second
-- name names, where there is one
pub record Move : Type 0 where
  pub from : ℕ
  pub from_dir : File
  pub from_name : List ℕ
  pub to : ℕ
  pub to_dir : File
  pub to_name : List ℕ
  pub source : ℕ
  pub source_file : File
  pub replaced : Option (ℕ × File)

-- the second name is there and names the same file
abbrev pub is_same : Move → Bool
is_same m = option_map_or (λ r. r.0 == m.source) m.replaced false

abbrev pub moves_directory : Move → Bool
moves_directory m = is_directory m.source_file.content

abbrev pub replaces : Move → (File → Bool) → Bool
replaces m test = option_map_or (λ r. test r.1) m.replaced false

-- a directory goes from one directory to another
abbrev pub changes_parent : Move → Bool
changes_parent m = moves_directory m && not (m.from == m.to)

-- whether so many moves to the parent lead from a directory to the file n
abbrev pub leads_to : PlainTree → ℕ → ℕ → ℕ → Bool
leads_to t moves dir n = option_map_or (λ a. a == n) (ancestor t moves dir) false

-- the chain of parents of the second directory has more than 200 steps to the root; the source is on it
abbrev pub is_too_deep : PlainTree → Move → Bool
is_too_deep t m = not (leads_to t 200 m.to 1)

abbrev pub is_above : PlainTree → Move → Bool
is_above t m = list_any (λ moves. leads_to t moves m.to m.source) (below 201)

abbrev pub move_checks : PlainTree → Move → List Check
move_checks t m =
    fails_where notdir (moves_directory m && replaces m (λ r. not (is_directory r.content)))
    ∷ fails_where isdir (not (moves_directory m) && replaces m (λ r. is_directory r.content))
    ∷ fails_where notempty (replaces m (λ r. is_in_use (slots_of r.content)))
    ∷ fails_where nametoolong (changes_parent m && is_too_deep t m)
    ∷ fails_where io (changes_parent m && is_above t m)
    ∷ []

-- a file with another parent, where it is a directory
abbrev pub with_parent : ℕ → Content → Content
with_parent parent (Regular blocks) = Regular blocks
with_parent parent (Directory slots old) = Directory slots parent
with_parent parent (Link blocks) = Link blocks

abbrev pub one_where : Bool → ℕ
one_where b = if b then 1 else 0

-- the second directory's slots with the name: its slot is picked before the old one is emptied
abbrev pub received : Move → List (Option Entry)
received m = put_name (slots_of m.to_dir.content) (record { name = m.to_name; file = m.source })

-- the directories: a directory that is moved takes its link along, and one that is replaced loses the link to its parent
abbrev pub directory_edits : Stamp → Move → List Edit
directory_edits now m =
    if m.from == m.to
    then Changed m.to (unlinked (one_where (replaces m (λ r. is_directory r.content))) (renamed now (take_name (received m) m.from_name) m.to_dir)) ∷ []
    else
    Changed m.from (unlinked (one_where (moves_directory m)) (without_name now m.from_name m.from_dir))
    ∷ Changed m.to
    (unlinked (one_where (replaces m (λ r. is_directory r.content)))
    (record (renamed now (received m) m.to_dir) { links = m.to_dir.links + one_where (moves_directory m) }))
    ∷ []

-- a replaced file loses a link as by REMOVE, or is freed as by RMDIR
abbrev pub replaced_edits : Move → List Edit
replaced_edits m = option_map_or (λ r. (if is_directory r.1.content then Freed r.0 r.1 else loses_link r.0 r.1) ∷ []) m.replaced []

unfoldable pub move_edits : Stamp → Move → List Edit
move_edits now m =
    if is_same m
    then []
    else directory_edits now m ++ (Changed m.source (record m.source_file { content = with_parent m.to m.source_file.content }) ∷ replaced_edits m)

-- the file of a name, with its number
abbrev pub named_file : PlainTree → File → List ℕ → Option (ℕ × File)
named_file t d name = option_and_then (λ n. at_number t n None (λ f. Some (n, f))) (file_named (slots_of d.content) name)

-- what is moved, where the first name is there
abbrev pub move_of : PlainTree → ℕ → File → List ℕ → ℕ → File → List ℕ → Option Move
move_of t a from_dir from_name b to_dir to_name =
    option_map_or
    (λ s. Some (record {
      from = a;
      from_dir = from_dir;
      from_name = from_name;
      to = b;
      to_dir = to_dir;
      to_name = to_name;
      source = s.0;
      source_file = s.1;
      replaced = named_file t to_dir to_name;
    }))
    (named_file t from_dir from_name)
    None

-- neither name is "." or "..", and the first is there; two names of the same file change nothing
unfoldable pub rename_checks : PlainTree → Option Move → List ℕ → List ℕ → List Check
rename_checks t move from_name to_name =
    fails_where acces (is_dots from_name || is_dots to_name)
    ∷ fails_where noent (is_none move)
    ∷ option_map_or (λ m. if is_same m then [] else move_checks t m) move []

abbrev pub rename_edits : Stamp → Option Move → List Edit
rename_edits now move = option_map_or (move_edits now) move []
