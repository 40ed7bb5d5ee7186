-- Who owns the blocks of a cluster: which part of which file lies where.
use Rattle.std.specs.Prelude.{◌≡◌, ℕ, ◌==◌, ◌&&◌, Bool, false, Option, Some, None, if◌then◌else◌}
use Rattle.fs_layout.specs.declared.reference.Reference.{Reference}

-- a part of a file that takes a block: a chaining block by its place in the list, or a stored block by its index, which of a
-- directory has 15 slots
pub data Part : Type 0 where
  Chain : ℕ → Part
  Block : ℕ → Part

-- the file of which a block holds a part, and this part
pub record Owned : Type 0 where
  pub file : ℕ
  pub part : Part

-- the owner of each block, and the block of each part of each file; a block is named as a reference names it
pub record Owners : Type 0 where
  pub owner : Reference → Option Owned
  pub place : ℕ → Part → Option Reference

-- they say the same: so a block is of one part at most, and a part lies in one block at most
pub record IsInverse (o : Owners) : Type 0 where
  pub owned : (n : ℕ) (x : Part) (p : Reference) → o.place n x ≡ Some p → o.owner p ≡ Some (record { file = n; part = x })
  pub placed : (n : ℕ) (x : Part) (p : Reference) → o.owner p ≡ Some (record { file = n; part = x }) → o.place n x ≡ Some p

-- ---- taking blocks, and giving them up

abbrev pub is_same_place : Reference → Reference → Bool
is_same_place p q = (p.memory == q.memory) && (p.block == q.block)

abbrev pub is_same_part : Part → Part → Bool
is_same_part (Chain k) (Chain j) = k == j
is_same_part (Chain k) (Block j) = false
is_same_part (Block k) (Chain j) = false
is_same_part (Block k) (Block j) = k == j

-- a file takes a block for a part
abbrev pub taken : Owners → ℕ → Part → Reference → Owners
taken o n x p =
    record {
      owner = λ q. if is_same_place q p then Some (record { file = n; part = x }) else o.owner q;
      place = λ k y. if (k == n) && is_same_part y x then Some p else o.place k y;
    }

-- a part that is kept, or none
abbrev pub kept_part : (ℕ → Part → Bool) → Option Owned → Option Owned
kept_part keep None = None
kept_part keep (Some owned) = if keep owned.file owned.part then Some owned else None

-- all blocks are given up but for these parts
abbrev pub only : (ℕ → Part → Bool) → Owners → Owners
only keep o =
    record {
      owner = λ q. kept_part keep (o.owner q);
      place = λ k y. if keep k y then o.place k y else None;
    }

-- a free block that is taken for a part that has none, and blocks that are given up, leave both sides the same
abbrev pub TakenIsInverse : Type 0
TakenIsInverse = (o : Owners) (n : ℕ) (x : Part) (p : Reference) → IsInverse o → o.owner p ≡ None → o.place n x ≡ None → IsInverse (taken o n x p)

abbrev pub OnlyIsInverse : Type 0
OnlyIsInverse = (o : Owners) (keep : ℕ → Part → Bool) → IsInverse o → IsInverse (only keep o)
