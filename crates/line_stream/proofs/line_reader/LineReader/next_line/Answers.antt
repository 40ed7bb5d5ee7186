use Rattle.std.proofs.Common.{Ok, Option, subst}
use Rattle.schedule_text.specs.Stream.{IsAtEnd}
use Rattle.line_stream.specs.declared.found.Found.{Found}
use Rattle.line_stream.specs.LineReader.{Turns}
use Rattle.line_stream.proofs.ReadOn.{one_turn}
use Rattle.line_stream.proofs.line_reader.LineReader.next_line.Goals as goal

pub loop-preserved : goal.loop-preserved
loop-preserved g c =
    let ok = c.in_ok-found.ensures {u = tt} in
    let t = ok.turns in
    one_turn (g.S.Source.left c.args.source.now) (g.S.Source.left c.loop.source) (g.S.Source.left c.read_on.new.source) (g.S.Source.faults c.args.source.now) (g.S.Source.faults c.loop.source)
    (g.S.Source.faults c.read_on.new.source) c.clear.new.self c.loop.self c.read_on.new.self c.loop.counter t.0 c.loop.invariant t.1
    (subst (λ (r : Option Found). Turns c.loop.self c.read_on.new.self t.0 (IsAtEnd (g.S.Source.left c.loop.source)) (Ok r)) c.in_default.is t.2) ok.counts
