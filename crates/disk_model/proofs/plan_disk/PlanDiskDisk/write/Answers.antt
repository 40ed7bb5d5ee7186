use Rattle.std.proofs.Common.{arith}
use Rattle.std.proofs.lemmas.Grind.{common_steps}
use Rattle.disk_model.proofs.PlanLemmas.{write_by}
use Rattle.disk_model.proofs.plan_disk.PlanDiskDisk.write.Goals as goal

pub returns-then-next_fails-clause-disk : goal.returns-then-next_fails-clause-disk
returns-then-next_fails-clause-disk c = write_by c.args.self.now _ c.args.at c.args.from.now c.fail.result (grind (arith, common_steps)) record {
  ok = grind (arith, common_steps);
  err = grind (arith, common_steps);
}

pub returns-clause-disk : goal.returns-clause-disk
returns-clause-disk c = write_by c.args.self.now _ c.args.at c.args.from.now c.finish.result (grind (arith, common_steps)) record {
  ok = grind (arith, common_steps);
  err = grind (arith, common_steps);
}
