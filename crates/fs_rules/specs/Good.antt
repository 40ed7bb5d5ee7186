-- What makes a tree a file system.
use Rattle.std.specs.Prelude.{◌≡◌, ◌≢◌, ℕ, zero, suc, ◌+◌, ◌*◌, ◌/◌, ◌%◌, ◌<◌, ◌≤◌, ◌==◌, Bool, false, List, length, slice_get, slice_index, codes, All, count_by, sum_by, Option, Some, None, IsSome, is_some, option_and_then}
use Rattle.std.specs.FinMap as table
use Rattle.sfs_base.specs.Reading.{IsBytes}
use Rattle.fs_rules.specs.declared.content.Content.{Content}
use Rattle.fs_rules.specs.declared.content.Content.TheVariants.{Regular, Link, Directory}
use Rattle.fs_rules.specs.declared.entry.Entry.{Entry}
use Rattle.fs_rules.specs.declared.file.File.{File}
use Rattle.fs_rules.specs.declared.kept.Kept.{Kept}
use Rattle.fs_rules.specs.declared.plain_tree.PlainTree.{PlainTree}
use Rattle.fs_rules.specs.Geometry.{IsWithinLimits}
use Rattle.fs_rules.specs.File.{BlockMap, slots_of, parent_of}
use Rattle.fs_rules.specs.Numbers.{IsNumber, used_in_all}

-- a name that a slot may have: 1 to 255 bytes, none of them 0 or a slash, and neither "." nor ".."
pub record IsName (name : List ℕ) : Type 0 where
  pub sized : (1 ≤ length name) × (length name ≤ 255)
  pub bytes : IsBytes name
  pub plain : All (λ b. (b ≢ 0) × (b ≢ 47)) name
  pub other : (name ≢ codes ".") × (name ≢ codes "..")

-- whether a slot names the file n
abbrev pub names_file : ℕ → Option Entry → Bool
names_file n None = false
names_file n (Some e) = e.file == n

-- how many slots of the whole tree name the file n
abbrev pub naming_slots : PlainTree → ℕ → ℕ
naming_slots t n = sum_by (λ e. count_by (names_file n) (slots_of e.1.content)) (table.entries t.files)

-- the parent of the file n, where it is a directory
abbrev pub parent_at : PlainTree → ℕ → Option ℕ
parent_at t n = option_and_then (λ f. parent_of f.content) (table.get t.files n)

-- whether a slot names a directory
abbrev pub names_directory : PlainTree → Option Entry → Bool
names_directory t None = false
names_directory t (Some e) = is_some (parent_at t e.file)

-- how many directories these slots name
abbrev pub subdirectories : PlainTree → List (Option Entry) → ℕ
subdirectories t slots = count_by (names_directory t) slots

-- the file that some moves to the parent reach from the file n
unfoldable pub ancestor : PlainTree → ℕ → ℕ → Option ℕ
ancestor t zero n = Some n
ancestor t (suc moves) n = option_and_then (ancestor t moves) (parent_at t n)

-- the stored blocks of a file: of 4,096 bytes, below the size, with zeros past it
pub record IsStored (size : ℕ) (blocks : BlockMap) : Type 0 where
  pub below : (k : ℕ) → IsSome (table.get blocks k) → 4096 * k < size
  pub whole : (k : ℕ) (bytes : List ℕ) → table.get blocks k ≡ Some bytes → (length bytes ≡ 4096) × IsBytes bytes
  pub zeros : (k i : ℕ) (bytes : List ℕ) → table.get blocks k ≡ Some bytes → size ≤ 4096 * k + i → slice_index bytes i ≡ 0

-- the slots of a directory: a multiple of 15 and at most 7,650, each empty or with a name that no other has, of a live file
pub record AreSlots (t : PlainTree) (slots : List (Option Entry)) : Type 0 where
  pub whole : length slots % 15 ≡ 0
  pub few : length slots ≤ 7650
  pub names : (i : ℕ) (e : Entry) → slice_get slots i ≡ Some (Some e) → IsName e.name × IsSome (table.get t.files e.file)
  pub distinct : (i j : ℕ) (e d : Entry) → slice_get slots i ≡ Some (Some e) → slice_get slots j ≡ Some (Some d) → e.name ≡ d.name → i ≡ j

-- a directory is named by one slot, which lies in its parent, and parents lead to the root; the root is its own parent
-- and is named by none
pub record IsPlaced (t : PlainTree) (n parent : ℕ) : Type 0 where
  pub root : n ≡ 1 → (parent ≡ 1) × (naming_slots t n ≡ 0)
  pub named : n ≢ 1 → naming_slots t n ≡ 1
  pub inside : n ≢ 1 → (f : File) × (table.get t.files parent ≡ Some f) × (count_by (names_file n) (slots_of f.content) ≡ 1)
  pub leads : (moves : ℕ) × (ancestor t moves n ≡ Some 1)

-- the file n is in order, by its kind
abbrev pub IsInOrder : PlainTree → ℕ → File → Content → Type 0
IsInOrder t n f (Regular blocks) = (f.size ≤ 16711680) × IsStored f.size blocks × (f.links ≡ naming_slots t n) × (1 ≤ f.links)
IsInOrder t n f (Link blocks) = (f.size ≤ 1024) × IsStored f.size blocks × (f.links ≡ naming_slots t n) × (1 ≤ f.links)
IsInOrder t n f (Directory slots parent) =
    (f.size ≡ 4096 * (length slots / 15)) × AreSlots t slots × (f.links ≡ 2 + subdirectories t slots) × IsPlaced t n parent

-- a live file
pub record IsGoodFile (t : PlainTree) (n : ℕ) (f : File) : Type 0 where
  pub number : IsNumber t.geometry n
  pub mode : f.mode ≤ 0o7777
  pub links : f.links ≤ 32000
  pub content : IsInOrder t n f f.content

-- a free number that was used before: no file has it, and it keeps more than a number that was never used
pub record IsGoodKept (t : PlainTree) (n : ℕ) (k : Kept) : Type 0 where
  pub number : IsNumber t.geometry n
  pub free : table.get t.files n ≡ None
  pub more : (k.generation ≡ 0) → (k.change ≡ 0) → ⊥

-- a tree is a file system: its root is there, each file is in order, and the files fit into the blocks
pub record IsGood (t : PlainTree) : Type 0 where
  pub geometry : IsWithinLimits t.geometry
  pub root : IsSome (parent_at t 1)
  pub files : (n : ℕ) (f : File) → table.get t.files n ≡ Some f → IsGoodFile t n f
  pub freed : (n : ℕ) (k : Kept) → table.get t.freed n ≡ Some k → IsGoodKept t n k
  pub fits : used_in_all t ≤ t.geometry.memories * t.geometry.blocks
