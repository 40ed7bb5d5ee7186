use Rattle.std.proofs.Common.{arith}
use Rattle.std.proofs.lemmas.Grind.{common_steps}
use Rattle.disk_model.proofs.PlanLemmas.{sync_by}
use Rattle.disk_model.proofs.plan_disk.PlanDiskDisk.sync.Goals as goal

pub returns-clause-disk : goal.returns-clause-disk
returns-clause-disk c = sync_by c.args.self.now _ c.finish.result (grind (arith, common_steps)) record {
  ok = grind (arith, common_steps);
  err = grind (arith, common_steps);
}
