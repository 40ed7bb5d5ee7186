use Rattle.std.proofs.Common.{◌∙◌}
use Rattle.lock_table.specs.Table.{locks_in}
use Rattle.mem_rules.specs.Records.{records_in}
use Rattle.mem_rules.proofs.HolderLemmas.{is_blocked}
use Rattle.mem_rules.proofs.memory.Memory.are_locked.Goals as goal

pub returns : goal.returns
returns c =
    c.is_some.ensures ∙ is_blocked c.args.ranges.now (records_in c.args.self.now.kept) (locks_in c.args.self.now.locks) c.least.result c.args.self.now.indexed c.least.ensures
