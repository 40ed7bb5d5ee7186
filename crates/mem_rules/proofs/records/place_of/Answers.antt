use Rattle.std.proofs.Common.{arith, rules}
use Rattle.std.specs.Prelude.{box_value}
use Rattle.std.proofs.lemmas.List.{length-map}
use Rattle.std.proofs.lemmas.List.Sorted.{IsPartitionPoint-from_clause}
use Rattle.mem_rules.proofs.RecordLemmas.{Before, boxes_parted, place_unboxed}
use Rattle.mem_rules.proofs.records.place_of.Goals as goal

pub returns-clause-place : goal.returns-clause-place
returns-clause-place c =
    place_unboxed c.args.id c.args.kept.now c.partition_point.result c.partition_point.ensures.bound
    (IsPartitionPoint-from_clause (Before c.args.id) _ _ c.partition_point.ensures.partitioned (boxes_parted c.args.kept.now c.args.id c.requires)
    (λ a r q k. search rules))

pub returns-clause-bound : goal.returns-clause-bound
returns-clause-bound c = omega (arith, c.partition_point.ensures.bound, length-map c.args.kept.now box_value)
