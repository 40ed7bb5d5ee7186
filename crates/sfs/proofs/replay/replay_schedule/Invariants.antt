use Rattle.std.proofs.Common.{◌≡◌, ◌-◌}
use Rattle.sfs.specs.Replay.{Replaying}
use Rattle.sfs.proofs.replay.replay_schedule.Given as goal

-- so many lines were read, and no count rose
abbrev pub invariant-loop-number : goal.invariant-loop-number
invariant-loop-number g l =
    Replaying (g.S.Source.left l.fn.input) (g.S.Source.left l.input) (g.K.Sink.held l.fn.output) (g.K.Sink.held l.output) (l.number - 1) l.replay
    × (g.S.Source.faults l.input ≡ g.S.Source.faults l.initial.input) × (g.K.Sink.faults l.output ≡ g.K.Sink.faults l.initial.output)
