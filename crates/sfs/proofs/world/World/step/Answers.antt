use Rattle.std.proofs.Common.{Some, ap, ◌∙◌}
use Rattle.sfs.specs.Book.{may_come}
use Rattle.sfs.proofs.EventLemmas.{not_come, does_come}
use Rattle.sfs.proofs.world.World.step.Goals as goal

pub returns-in-Cluster-clause-step : goal.returns-in-Cluster-clause-step
returns-in-Cluster-clause-step c schedule book stands within next =
    not_come schedule book c.args.self.now c.args.event.now stands within next (ap (may_come c.args.self.now.tree.geometry book) c.in-Cluster.is)

pub returns-in-Deliver-clause-step : goal.returns-in-Deliver-clause-step
returns-in-Deliver-clause-step c schedule book stands within next =
    not_come schedule book c.args.self.now c.args.event.now stands within next (ap (may_come c.args.self.now.tree.geometry book) c.in-Deliver.is)

pub returns-in-Drain-clause-step : goal.returns-in-Drain-clause-step
returns-in-Drain-clause-step c schedule book stands within next =
    not_come schedule book c.args.self.now c.args.event.now stands within next (ap (may_come c.args.self.now.tree.geometry book) c.in-Drain.is)

pub returns-in-Lose-clause-step : goal.returns-in-Lose-clause-step
returns-in-Lose-clause-step c schedule book stands within next =
    not_come schedule book c.args.self.now c.args.event.now stands within next (ap (may_come c.args.self.now.tree.geometry book) c.in-Lose.is)

pub returns-in-GiveUp-clause-step : goal.returns-in-GiveUp-clause-step
returns-in-GiveUp-clause-step c schedule book stands within next =
    not_come schedule book c.args.self.now c.args.event.now stands within next (ap (may_come c.args.self.now.tree.geometry book) c.in-GiveUp.is)

pub returns-in-Resend-clause-step : goal.returns-in-Resend-clause-step
returns-in-Resend-clause-step c schedule book stands within next =
    not_come schedule book c.args.self.now c.args.event.now stands within next (ap (may_come c.args.self.now.tree.geometry book) c.in-Resend.is)

pub returns-in-Crash-clause-step : goal.returns-in-Crash-clause-step
returns-in-Crash-clause-step c schedule book stands within next =
    not_come schedule book c.args.self.now c.args.event.now stands within next (ap (may_come c.args.self.now.tree.geometry book) c.in-Crash.is)

pub returns-in-Start-clause-step : goal.returns-in-Start-clause-step
returns-in-Start-clause-step c schedule book stands within next =
    not_come schedule book c.args.self.now c.args.event.now stands within next (ap (may_come c.args.self.now.tree.geometry book) c.in-Start.is)

pub returns-in-Sweep-clause-step : goal.returns-in-Sweep-clause-step
returns-in-Sweep-clause-step c schedule book stands within next =
    not_come schedule book c.args.self.now c.args.event.now stands within next (ap (may_come c.args.self.now.tree.geometry book) c.in-Sweep.is)

pub returns-in-Checkpoint-clause-step : goal.returns-in-Checkpoint-clause-step
returns-in-Checkpoint-clause-step c schedule book stands within next =
    not_come schedule book c.args.self.now c.args.event.now stands within next (ap (may_come c.args.self.now.tree.geometry book) c.in-Checkpoint.is)

pub returns-in-Backup-clause-step : goal.returns-in-Backup-clause-step
returns-in-Backup-clause-step c schedule book stands within next =
    not_come schedule book c.args.self.now c.args.event.now stands within next (ap (may_come c.args.self.now.tree.geometry book) c.in-Backup.is)

pub returns-in-Show-clause-step : goal.returns-in-Show-clause-step
returns-in-Show-clause-step c schedule book stands within next =
    not_come schedule book c.args.self.now c.args.event.now stands within next (ap (may_come c.args.self.now.tree.geometry book) c.in-Show.is)

pub returns-in-End-clause-step : goal.returns-in-End-clause-step
returns-in-End-clause-step c schedule book stands within next =
    does_come schedule book c.args.self.now c.args.event.now stands within next (ap (may_come c.args.self.now.tree.geometry book) c.in-End.is) ∙ ap Some c.in-End.is
