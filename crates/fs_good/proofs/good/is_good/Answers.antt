use Rattle.std.proofs.Common.{sym, ◌∙◌}
use Rattle.std.proofs.lemmas.Bool.{true≢false}
use Rattle.fs_good.proofs.GoodLemmas.{good_by, shaped_from_good, placed_from_good}
use Rattle.fs_good.proofs.LoopLemmas.{is_no}
use Rattle.fs_good.proofs.good.is_good.Goals as goal

pub are_connected-requires-clause-placed : goal.are_connected-requires-clause-placed
are_connected-requires-clause-placed c = (c.is_ordered.ensures.0 c.if-is_ordered.true).1.1

pub returns-then-is_ordered : goal.returns-then-is_ordered
returns-then-is_ordered c =
    let ordered = c.is_ordered.ensures.0 c.if-is_ordered.true in
    good_by c.args.tree.now c.are_connected.result ordered.0 ordered.1.0 ordered.1.1 c.are_connected.ensures

pub returns-else-is_ordered : goal.returns-else-is_ordered
returns-else-is_ordered c =
    is_no (λ good.
    true≢false (sym (c.is_ordered.ensures.1 (good.geometry, (shaped_from_good c.args.tree.now good, placed_from_good c.args.tree.now good))) ∙ c.if-is_ordered.false))
