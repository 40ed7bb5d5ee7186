use Rattle.line_stream.proofs.ReadOn.{SoFar}
use Rattle.line_stream.proofs.line_reader.LineReader.next_line.Given as goal

abbrev pub invariant-loop : goal.invariant-loop
invariant-loop g l =
    SoFar (g.S.Source.left l.initial.source) (g.S.Source.left l.source) (g.S.Source.faults l.initial.source) (g.S.Source.faults l.source) l.initial.self l.self l.counter
