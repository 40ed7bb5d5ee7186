use Rattle.std.proofs.Common.{rules, leb}
use Rattle.std.proofs.lemmas.List.Sorted.{IsPartitionPoint-from_clause}
use Rattle.lock_table.specs.declared.lock.Lock.{Lock}
use Rattle.lock_table.proofs.LineLemmas.{ends_part}
use Rattle.lock_table.proofs.window.ended_by.Goals as goal

pub returns-clause-place : goal.returns-clause-place
returns-clause-place c =
    IsPartitionPoint-from_clause (λ (l : Lock). leb l.span.end c.args.place) _ _ c.partition_point.ensures.partitioned (ends_part c.args.locks.now c.args.place c.requires)
    (λ a r q k. search rules)
