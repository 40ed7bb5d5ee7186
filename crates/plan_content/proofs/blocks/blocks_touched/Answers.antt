use Rattle.std.proofs.Common.{refl}
use Rattle.plan_content.proofs.BlockLemmas.{touched_none, touched_some}
use Rattle.plan_content.proofs.blocks.blocks_touched.Goals as goal

pub returns-then-count-eq0-clause-exact : goal.returns-then-count-eq0-clause-exact
returns-then-count-eq0-clause-exact c = touched_none c.args.offset c.args.count 0 c.if-count-eq0.true refl

pub returns-clause-exact : goal.returns-clause-exact
returns-clause-exact c = touched_some c.args.offset c.args.count _ c.if-count-eq0.false refl
