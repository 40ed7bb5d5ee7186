use Rattle.nfs_node.proofs.ProgressLemmas.{comes_answered, comes_held, comes_refused, if_both, if_ok}
use Rattle.nfs_node.proofs.ending.ended.Goals as goal

pub returns-in-Fetch : goal.returns-in-Fetch
returns-in-Fetch c =
    if_ok c.hold.result c.hold.ensures (λ n is. comes_held c.args.running c.args.cache.now c.args.outcome.now c.in-Committed.is c.in-Fetch.is n is)

pub returns-in-Committed : goal.returns-in-Committed
returns-in-Committed c =
    if_both c.answer.result c.answer.ensures.answered c.answer.ensures.cache
    (λ n is after. comes_answered c.args.running c.args.cache.now c.answer.new.cache c.args.outcome.now c.in-Committed.is c.in-Final.is after n is)

pub returns : goal.returns
returns c =
    if_ok c.refuse.result c.refuse.ensures.refused
    (λ n is. comes_refused c.args.running c.args.cache.now c.refuse.new.cache c.args.outcome.now c.in-Refused.is c.refuse.ensures.cache n is)
