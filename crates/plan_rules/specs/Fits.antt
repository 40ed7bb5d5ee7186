-- Which records and blocks are fit to be held: what a flat memory that stands for a tree never lacks.
use Rattle.std.specs.Prelude.{◌≡◌, ℕ, ◌+◌, ◌*◌, ◌<◌, ◌≤◌, ◌==◌, nat_lt, Bool, IsTrue, if◌then◌else◌, List, All, Option, None, IsSome, is_some, get_or, IfSome}
use Rattle.fs_layout.specs.declared.attrs.Attrs.{Attrs}
use Rattle.fs_layout.specs.declared.reference.Reference.{Reference}
use Rattle.fs_chain.specs.declared.chain_block.ChainBlock.{ChainBlock}
use Rattle.fs_dir.specs.declared.slot.Slot.{Slot}
use Rattle.fs_dir.specs.Slots.{in_use}
use Rattle.fs_rules.specs.declared.geometry.Geometry.{Geometry}
use Rattle.fs_rules.specs.Good.{IsName}
use Rattle.fs_image.specs.Stands.{IsBlock}
use Rattle.plan_rules.specs.Told.{is_number, dir_blocks}

-- the most bytes of a file of a kind, and the most chaining blocks
abbrev pub most_bytes : ℕ → ℕ
most_bytes kind = if kind == 5 then 1024 else if kind == 2 then 2088960 else 16711680

abbrev pub most_chains : ℕ → ℕ
most_chains kind = if kind == 2 then 1 else 8

-- a record is fit: its numbers are within their limits, its first chaining block is one of this cluster and is there just
-- where it tells some; a directory's parent is a number of this cluster, and a chaining block refers to its blocks
pub record IsFitRecord (g : Geometry) (a : Attrs) : Type 0 where
  pub size : a.size ≤ most_bytes a.kind
  pub chains : a.chains ≤ most_chains a.kind
  pub first : IfSome a.first (IsBlock g)
  pub list : is_some a.first ≡ nat_lt 0 a.chains
  pub parent : a.kind ≡ 2 → IsTrue (is_number g a.parent)
  pub blocks : 0 < dir_blocks a → 0 < a.chains

-- a reference is to a block of this cluster, and is there where one is due
abbrev pub IsFitReference : Geometry → Option Reference → Bool → Type 0
IsFitReference g r due = IfSome r (IsBlock g) × (IsTrue due → IsSome r)

-- a chaining block is fit at its place in the list of the file with this number and record: it names both, and a next one
-- just where it is not the last; what it refers to are blocks of this cluster, and each block of a directory is there
pub record IsFitChain (g : Geometry) (a : Attrs) (n k : ℕ) (c : ChainBlock) : Type 0 where
  pub file : c.file ≡ n
  pub index : c.index ≡ k
  pub next : IfSome c.next (IsBlock g)
  pub list : is_some c.next ≡ nat_lt (k + 1) a.chains
  pub references : (j : ℕ) → j < 510 → IsFitReference g (get_or c.references j None) (nat_lt (510 * k + j) (dir_blocks a))

-- the slots of a block of a directory are fit: each in use has a number of this cluster and a name that a tree may have
pub record IsFitSlot (g : Geometry) (s : Slot) : Type 0 where
  pub number : IsTrue (in_use s) → IsTrue (is_number g s.number)
  pub name : IsTrue (in_use s) → IsName s.name

abbrev pub AreFitSlots : Geometry → List Slot → Type 0
AreFitSlots g slots = All (IsFitSlot g) slots
