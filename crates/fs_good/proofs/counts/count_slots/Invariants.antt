-- The slots so far were counted.
use Rattle.std.proofs.Common.{ℕ, ◌+◌, take}
use Rattle.std.specs.Prelude.{count_by}
use Rattle.fs_rules.specs.Good.{names_file}
use Rattle.fs_good.specs.Counts.{IsCapped, count_in}
use Rattle.fs_good.proofs.counts.count_slots.Given as goal

abbrev pub invariant-loop-slot : goal.invariant-loop-slot
invariant-loop-slot l = (n : ℕ) → IsCapped (count_in l.counts n) (count_in l.initial.counts n + count_by (names_file n) (take l.slot-index l.slots))
