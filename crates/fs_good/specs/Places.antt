-- What a file of a good tree is, beside how often it is named and where its parents lead.
use denote.Ref.{Bor}
use Rattle.std.specs.Prelude.{◌≡◌, ℕ, ◌+◌, ◌*◌, ◌<◌, ◌≤◌, Bool, true, not, ◌||◌, List, length, slice_get, slice_index, bytes_eq, Option, Some, None, IsSome}
use Rattle.std.specs.List.{list_any}
use Rattle.std.specs.FinMap as table
use Rattle.sfs_base.specs.Reading.{IsBytes}
use Rattle.fs_rules.specs.declared.content.Content.{Content}
use Rattle.fs_rules.specs.declared.content.Content.TheVariants.{Regular, Link, Directory}
use Rattle.fs_rules.specs.declared.entry.Entry.{Entry}
use Rattle.fs_rules.specs.declared.file.File.{File}
use Rattle.fs_rules.specs.declared.kept.Kept.{Kept}
use Rattle.fs_rules.specs.declared.plain_tree.PlainTree.{PlainTree}
use Rattle.fs_rules.specs.File.{slots_of}
use Rattle.fs_rules.specs.Good.{parent_at, subdirectories, IsGoodKept}
use Rattle.fs_rules.specs.Numbers.{IsNumber, used_in_all}
use Rattle.fs_laws.proofs.WholeLemmas.{IsOwn}

-- a stored block of a file: it lies below the size, has 4,096 bytes, and zeros past the size
pub record IsStoredBlock (size k : ℕ) (bytes : List ℕ) : Type 0 where
  pub below : 4096 * k < size
  pub whole : (length bytes ≡ 4096) × IsBytes bytes
  pub zeros : (i : ℕ) → size ≤ 4096 * k + i → slice_index bytes i ≡ 0

-- each of so many slots that is in use has a property
abbrev pub Below : (Entry → Type 0) → List (Option Entry) → ℕ → Type 0
Below P slots end = (i : ℕ) (e : Entry) → i < end → slice_get slots i ≡ Some (Some e) → P e

-- the name of a slot is none of those before it
abbrev pub IsFirst : List (Option Entry) → ℕ → Type 0
IsFirst slots i = (d : Entry) → slice_get slots i ≡ Some (Some d) → Below (λ e. e.name ≡ d.name → ⊥) slots i

-- no two slots have the same name
abbrev pub AreDistinct : List (Option Entry) → Type 0
AreDistinct slots = (i j : ℕ) (e d : Entry) → slice_get slots i ≡ Some (Some e) → slice_get slots j ≡ Some (Some d) → e.name ≡ d.name → i ≡ j

-- whether a name is one of these
abbrev pub knows : List (Bor (List ℕ)) → List ℕ → Bool
knows names name = list_any (λ k. bytes_eq name k.now) names

-- a name is one of these from now on; whether it was none of them before
abbrev pub IsNameTaken : List (Bor (List ℕ)) → List (Bor (List ℕ)) → List ℕ → Bool → Type 0
IsNameTaken old new name is_new = (is_new ≡ not (knows old name)) × ((other : List ℕ) → knows new other ≡ (bytes_eq other name || knows old other))

-- the same of the name of a slot, if it has one
abbrev pub IsTaken : List (Bor (List ℕ)) → List (Bor (List ℕ)) → Option Entry → Bool → Type 0
IsTaken old new None is_new = (is_new ≡ true) × ((other : List ℕ) → knows new other ≡ knows old other)
IsTaken old new (Some e) is_new = IsNameTaken old new e.name is_new

-- a slot of a directory names a live file; a directory that it names has this one as its parent
abbrev pub IsUnder : PlainTree → ℕ → Entry → Type 0
IsUnder t n e = IsSome (table.get t.files e.file) × ((p : ℕ) → parent_at t e.file ≡ Some p → p ≡ n)

abbrev pub AreUnder : PlainTree → ℕ → List (Option Entry) → Type 0
AreUnder t n slots = (i : ℕ) (e : Entry) → slice_get slots i ≡ Some (Some e) → IsUnder t n e

-- a directory has two links, and one for each directory in it
abbrev pub HasLinksFor : PlainTree → ℕ → Content → Type 0
HasLinksFor t links (Regular blocks) = Unit {0}
HasLinksFor t links (Directory slots parent) = links ≡ 2 + subdirectories t slots
HasLinksFor t links (Link blocks) = Unit {0}

-- a file with a number of the cluster, in order in itself, that tells its subdirectories and is the parent of these
pub record IsInPlace (t : PlainTree) (n : ℕ) (f : File) : Type 0 where
  pub number : IsNumber t.geometry n
  pub own : IsOwn f
  pub links : HasLinksFor t f.links f.content
  pub under : AreUnder t n (slots_of f.content)

abbrev pub AreInPlace : PlainTree → Type 0
AreInPlace t = (n : ℕ) (f : File) → table.get t.files n ≡ Some f → IsInPlace t n f

-- the tree around its files: the root is its own parent, what free numbers keep is in order, and the files fit
pub record IsShaped (t : PlainTree) : Type 0 where
  pub root : parent_at t 1 ≡ Some 1
  pub freed : (n : ℕ) (k : Kept) → table.get t.freed n ≡ Some k → IsGoodKept t n k
  pub fits : used_in_all t ≤ t.geometry.memories * t.geometry.blocks
