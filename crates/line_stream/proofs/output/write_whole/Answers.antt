use Rattle.std.proofs.Common.{◌∙◌}
use Rattle.std.proofs.lemmas.List.{take_rest}
use Rattle.line_stream.proofs.StreamSteps.{writes_more}
use Rattle.line_stream.proofs.output.write_whole.Goals as goal

pub loop-rest-preserved : goal.loop-rest-preserved
loop-rest-preserved g c = record {
  front = writes_more _ _ _ c.args.bytes.now c.loop-rest.rest.now _ c.in_ok-taken.taken c.loop-rest.invariant.front (c.in_ok-taken.ensures {u = tt}).given (take_rest c.loop-rest.rest.now c.in_ok-taken.taken);
  count = (c.in_ok-taken.ensures {u = tt}).cause.kept ∙ c.loop-rest.invariant.count;
}
