use Rattle.std.proofs.Common.{rules, nat_lt}
use Rattle.std.proofs.lemmas.List.Sorted.{IsPartitionPoint-from_clause}
use Rattle.lock_table.specs.declared.lock.Lock.{Lock}
use Rattle.lock_table.proofs.LineLemmas.{begins_part}
use Rattle.lock_table.proofs.window.begun_by.Goals as goal

pub returns-clause-place : goal.returns-clause-place
returns-clause-place c =
    IsPartitionPoint-from_clause (λ (l : Lock). nat_lt l.span.at c.args.place) _ _ c.partition_point.ensures.partitioned (begins_part c.args.locks.now c.args.place c.requires)
    (λ a r q k. search rules)
