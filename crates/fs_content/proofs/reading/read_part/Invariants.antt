use Rattle.std.proofs.Common.{◌≡◌, ◌-◌, ◌≤◌, vec_len}
use Rattle.fs_rules.specs.Contents.{part}
use Rattle.fs_content.proofs.reading.read_part.Given as goal

abbrev pub invariant-loop-bytes : goal.invariant-loop-bytes
invariant-loop-bytes l = record { read : l.bytes.items ≡ part l.blocks l.offset (vec_len l.bytes); within : vec_len l.bytes ≤ l.count }

abbrev pub decreases-loop-bytes : goal.decreases-loop-bytes
decreases-loop-bytes l = l.count - vec_len l.bytes
