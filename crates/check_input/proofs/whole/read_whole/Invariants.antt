use Rattle.std.proofs.Common.{◌≡◌, ◌-◌, length}
use Rattle.schedule_text.specs.Stream.{Takes}
use Rattle.check_input.proofs.whole.read_whole.Given as goal

-- these bytes were taken, and no call failed
abbrev pub invariant-loop-count : goal.invariant-loop-count
invariant-loop-count g l = record {
  taken : Takes (g.S.Source.left l.initial.source) (g.S.Source.left l.source) l.bytes.items;
  piece : length l.piece.items ≡ 4096;
  count : g.S.Source.faults l.source ≡ g.S.Source.faults l.initial.source;
}

-- each turn adds a byte at least
abbrev pub decreases-loop-count : goal.decreases-loop-count
decreases-loop-count g l = 9223372036854775808 - length l.bytes.items
