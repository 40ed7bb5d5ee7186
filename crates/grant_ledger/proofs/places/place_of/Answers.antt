use Rattle.std.proofs.Common.{rules}
use Rattle.std.proofs.lemmas.List.Sorted.{IsPartitionPoint-from_clause}
use Rattle.mini_tx.specs.Order.{precedes}
use Rattle.grant_ledger.specs.declared.doubt.Doubt.{Doubt}
use Rattle.grant_ledger.proofs.PlaceLemmas.{parted}
use Rattle.grant_ledger.proofs.places.place_of.Goals as goal

pub returns-clause-place : goal.returns-clause-place
returns-clause-place c =
    IsPartitionPoint-from_clause (λ (d : Doubt). precedes d.id c.args.id) _ _ c.partition_point.ensures.partitioned (parted c.args.doubts.now c.args.id c.requires)
    (λ a r q k. search rules)
