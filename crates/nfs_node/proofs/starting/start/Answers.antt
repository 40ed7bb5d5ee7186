use Rattle.nfs_node.proofs.EventLemmas.{on_of}
use Rattle.nfs_node.proofs.StepLemmas.{started_order}
use Rattle.nfs_node.proofs.starting.start.Goals as goal

pub returns-clause-order : goal.returns-clause-order
returns-clause-order g c =
    on_of c.begin.result c.begin.ensures
    (λ o b. started_order g.P.Planner.plans c.args.state.now c.args.work (record { held = c.gather.new.held; cache = c.gather.new.cache }) c.in_ok-plan.plan c.begin.new.state o
    c.in_ok-plan.ensures b c.requires.order c.requires.work)
