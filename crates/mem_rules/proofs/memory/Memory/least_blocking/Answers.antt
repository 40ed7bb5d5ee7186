use Rattle.lock_table.specs.Table.{locks_in}
use Rattle.mem_rules.specs.Records.{records_in}
use Rattle.mem_rules.proofs.HolderLemmas.{least_is}
use Rattle.mem_rules.proofs.memory.Memory.least_blocking.Goals as goal

pub returns : goal.returns
returns c = least_is c.args.ranges.now (records_in c.args.self.now.kept) (locks_in c.args.self.now.locks) c.least.result c.args.self.now.indexed c.least.ensures
