use Rattle.fs_good.proofs.GoodLemmas.{connected_by}
use Rattle.fs_good.proofs.good.are_connected.Goals as goal

pub returns-then-named : goal.returns-then-named
returns-then-named c = connected_by c.args.tree.now c.lead.result (c.in_ok-named.ensures.0 c.if-named.true) c.lead.ensures
