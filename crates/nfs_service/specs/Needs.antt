-- Which requests need the file system.
use Rattle.std.specs.Prelude.{ℕ, ◌-◌, ◌/◌, ◌%◌, nat_lt, take, drop, Bool, false, ◌&&◌, List}
use Rattle.std.specs.List.{list_all}
use Rattle.std.specs.Int.{w32, from_be_bytes}
use Rattle.std.specs.Str.{bytes_eq}
use Rattle.nfs_proto.specs.declared.call.Call.{Call}
use Rattle.fs_rules.specs.declared.geometry.Geometry.{Geometry}
use Rattle.fs_rules.specs.Handle.{handle, number_in}
use Rattle.fs_rules.specs.Arguments.{handles_of}
use Rattle.nfs_service.specs.declared.request.Request.{Request}
use Rattle.nfs_service.specs.declared.request.Request.TheVariants as request

-- the generation that a handle has
abbrev pub generation_in : List ℕ → ℕ
generation_in bytes = from_be_bytes w32 (take 4 (drop 8 bytes))

-- a number of the cluster: inode i of memory node m is file 16384 * m + i + 1
abbrev pub is_number : Geometry → ℕ → Bool
is_number g n = nat_lt 0 n && nat_lt ((n - 1) / 16384) g.memories && nat_lt ((n - 1) % 16384) g.inodes

-- a handle has its form, and a number of the cluster
abbrev pub is_handle : Geometry → List ℕ → Bool
is_handle g bytes = bytes_eq bytes (handle (number_in bytes) (generation_in bytes)) && is_number g (number_in bytes)

-- all handles of a call are
abbrev pub are_handles : Geometry → Call → Bool
are_handles g call = list_all (is_handle g) (handles_of call)

-- a call of the file system whose handles all are
abbrev pub needs_files : Geometry → Request → Bool
needs_files g (request.Told reply) = false
needs_files g request.Silent = false
needs_files g (request.Asked xid call cred) = are_handles g call
