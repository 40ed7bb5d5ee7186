-- How large a cluster may be, and which numbers its files have.
use Rattle.std.specs.Prelude.{ℕ, ◌≤◌, nat_le, Bool, ◌&&◌}
use Rattle.fs_rules.specs.declared.geometry.Geometry.{Geometry}

-- 1 to 8 NFS nodes, 1 to 8 memory nodes, 1 to 16,384 blocks and inodes on each of these
pub record IsWithinLimits (g : Geometry) : Type 0 where
  pub nodes : (1 ≤ g.nodes) × (g.nodes ≤ 8)
  pub memories : (1 ≤ g.memories) × (g.memories ≤ 8)
  pub blocks : (1 ≤ g.blocks) × (g.blocks ≤ 16384)
  pub inodes : (1 ≤ g.inodes) × (g.inodes ≤ 16384)

-- the test of one number: at least 1, and within its limit
abbrev pub is_within : ℕ → ℕ → Bool
is_within limit n = nat_le 1 n && nat_le n limit

-- the same as a test of all four
abbrev pub within_limits : Geometry → Bool
within_limits g = is_within 8 g.nodes && (is_within 8 g.memories && (is_within 16384 g.blocks && is_within 16384 g.inodes))
