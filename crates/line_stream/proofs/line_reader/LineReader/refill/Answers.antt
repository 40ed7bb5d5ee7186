use Rattle.std.proofs.Common.{◌≡◌, length, ap, arith}
use Rattle.std.proofs.lemmas.List.{with_items_is}
use Rattle.line_stream.specs.Reading.{Reading}
use Rattle.line_stream.proofs.StreamSteps.{refilled}
use Rattle.line_stream.proofs.line_reader.LineReader.refill.Goals as goal

pub returns-clause-refilled : goal.returns-clause-refilled
returns-clause-refilled g c =
    let sized : length c.read.new.into ≡ 4096 = omega (arith, c.read.auto.into, c.deref_mut.ensures.len, c.self.invariant.2) in
    let ok = c.in_ok-self-inside.ensures {u = tt} in
    let whole : length c.read.new.into ≡ c.self.inside.piece.len = omega (arith, sized, c.self.invariant.2) in
    refilled c.args.self.now (g.S.Source.left c.args.source.now) (g.S.Source.left c.read.new.self) c.in_ok-self-inside.field-0 c.self.inside.line.items c.read.new.into _
    (ap (λ (v : Reading). v.line) c.self.view_is)
    (omega (arith, ok.within, c.read.auto.into))
    (with_items_is c.self.inside.piece c.read.new.into whole)
    ok.given
    (λ none. ok.ended none (omega (arith, sized, c.read.auto.into)))
