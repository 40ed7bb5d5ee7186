use Rattle.std.proofs.Common.{◌≡◌, ◌*◌}
use Rattle.fs_bitmap.specs.Bits.{free_below}
use Rattle.fs_bitmap.proofs.count.count_free.Given as goal

abbrev pub invariant-loop-byte : goal.invariant-loop-byte
invariant-loop-byte l = l.free ≡ free_below l.map (8 * l.byte-index)
