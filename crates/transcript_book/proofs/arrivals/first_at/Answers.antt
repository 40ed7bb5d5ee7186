use Rattle.transcript_book.proofs.OpenLemmas.{first_found, first_none, first_passed}
use Rattle.transcript_book.proofs.arrivals.first_at.Goals as goal

pub returns-then-one-node : goal.returns-then-one-node
returns-then-one-node c = first_found c.args.node c.args.going.now c.loop-one.one-index _ c.loop-one-test.true c.loop-one.invariant c.if-one-node.true

pub loop-one-preserved : goal.loop-one-preserved
loop-one-preserved c = first_passed c.args.node c.args.going.now c.loop-one.one-index _ c.loop-one-test.true c.loop-one.invariant c.if-one-node.false

pub returns : goal.returns
returns c = first_none c.args.node c.args.going.now c.loop-one.one-index c.loop-one-test.false c.loop-one.invariant
