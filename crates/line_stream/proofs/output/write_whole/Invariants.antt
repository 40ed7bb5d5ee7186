use Rattle.std.proofs.Common.{◌≡◌, length}
use Rattle.line_stream.specs.Output.{WritesFront}
use Rattle.line_stream.proofs.output.write_whole.Given as goal

-- what is left was not written, all before it was, and no call failed
abbrev pub invariant-loop-rest : goal.invariant-loop-rest
invariant-loop-rest g l = record {
  front : WritesFront (g.K.Sink.held l.initial.output) (g.K.Sink.held l.output) l.bytes l.rest;
  count : g.K.Sink.faults l.output ≡ g.K.Sink.faults l.initial.output;
}

-- each call takes some of what is left
abbrev pub decreases-loop-rest : goal.decreases-loop-rest
decreases-loop-rest g l = length l.rest
