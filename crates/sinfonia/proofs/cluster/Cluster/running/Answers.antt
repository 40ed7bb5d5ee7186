use Rattle.std.proofs.Common.{sym, subst}
use Rattle.mini_tx.specs.declared.actor.Actor.{Actor}
use Rattle.mem_rules.specs.Fit.{IsOfCluster}
use Rattle.sinfonia.specs.Clusters.{RunsIn, geometry_in}
use Rattle.sinfonia.proofs.CallLemmas.{memory_runs, memory_there, others_run}
use Rattle.sinfonia.proofs.cluster.Cluster.running.Goals as goal

pub runs-requires : goal.runs-requires
runs-requires g c =
    memory_there g.L.Link.stands c.args.self.now c.requires.known.0 c.requires.known.1 c.in-Memory.m
    (subst (λ (who : Actor). IsOfCluster (geometry_in c.args.self.now) who) c.in-Memory.is c.requires.there)

pub returns-in-Memory : goal.returns-in-Memory
returns-in-Memory g c story stands =
    subst (λ (who : Actor). RunsIn story who c.runs.result) (sym c.in-Memory.is) (memory_runs g.L.Link.stands c.args.self.now story stands c.in-Memory.m c.runs.result c.runs.ensures)

pub returns-in-Node : goal.returns-in-Node
returns-in-Node g c story stands = others_run g.L.Link.stands c.args.self.now story stands c.args.who c.in-Node.is
