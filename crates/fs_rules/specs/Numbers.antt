-- The numbers of files: which there are, which are free, and which is taken for a new file.
use Rattle.std.specs.Prelude.{◌≡◌, ℕ, ◌+◌, ◌-◌, ◌*◌, ◌%◌, ◌^◌, ◌<◌, nat_lt, Bool, not, ◌&&◌, List, map, find, sum_by, Option, unwrap_or}
use Rattle.std.specs.List.{flat_map}
use Rattle.std.specs.FinMap as table
pub use Rattle.fs_layout.specs.Places.{number_of}
use Rattle.fs_rules.specs.declared.geometry.Geometry.{Geometry}
use Rattle.fs_rules.specs.declared.kept.Kept.{Kept}
use Rattle.fs_rules.specs.declared.plain_tree.PlainTree.{PlainTree}
use Rattle.fs_rules.specs.Lists.{below}
use Rattle.fs_rules.specs.File.{used}

-- a number of this cluster
pub record IsNumber (g : Geometry) (n : ℕ) : Type 0 where
  pub memory : ℕ
  pub inode : ℕ
  pub there : (memory < g.memories) × (inode < g.inodes)
  pub is : n ≡ number_of memory inode

-- what a free number keeps of the file that had it last: one that was never used keeps zeros
abbrev pub kept_at : PlainTree → ℕ → Kept
kept_at t n = unwrap_or (table.get t.freed n) (record { generation = 0; change = 0 })

-- a number is free where no file has it, and both of the numbers that it keeps can still rise
abbrev pub is_free : PlainTree → ℕ → Bool
is_free t n = not (table.contains_key t.files n) && (nat_lt (kept_at t n).generation (2 ^ 32 - 1) && nat_lt (kept_at t n).change (2 ^ 64 - 1))

-- the numbers of a memory node, ascending
abbrev pub numbers_of : Geometry → ℕ → List ℕ
numbers_of g m = map (number_of m) (below g.inodes)

-- the numbers of all memory nodes, from one of them on in a circle
abbrev pub numbers_from : Geometry → ℕ → List ℕ
numbers_from g start = flat_map (λ k. numbers_of g ((start + k) % g.memories)) (below g.memories)

-- the number that a new file gets: the lowest free one of a memory node, else of the next ones in a circle
abbrev pub first_free : PlainTree → ℕ → Option ℕ
first_free t start = find (is_free t) (numbers_from t.geometry start)

-- how many blocks all files together use
abbrev pub used_in_all : PlainTree → ℕ
used_in_all t = sum_by (λ e. used e.1.content) (table.entries t.files)

-- how many blocks are free
abbrev pub free_blocks : PlainTree → ℕ
free_blocks t = t.geometry.memories * t.geometry.blocks - used_in_all t
