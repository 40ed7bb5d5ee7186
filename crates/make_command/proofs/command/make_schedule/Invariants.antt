use Rattle.std.proofs.Common.{◌≡◌, length}
use Rattle.make_command.specs.Made.{made_text}
use Rattle.make_command.specs.Making.{Stands}
use Rattle.make_command.proofs.command.make_schedule.Given as goal

-- what was written, what is gathered and what is left are the whole text, and no call failed
abbrev pub invariant-loop-making : goal.invariant-loop-making
invariant-loop-making g l = record {
  stands : Stands (g.K.Sink.held l.fn.output) (g.K.Sink.held l.output) (made_text l.seed l.count) l.making;
  count : g.K.Sink.faults l.output ≡ g.K.Sink.faults l.fn.output;
}

-- each turn takes an event
abbrev pub decreases-loop-making : goal.decreases-loop-making
decreases-loop-making g l = length l.making.generator
