use Rattle.std.proofs.Common.{subst}
use Rattle.node_cache.specs.declared.want.Want.{Want}
use Rattle.plan_rules.specs.Works.{IsTold}
use Rattle.plan_parts.proofs.PlaceLemmas.{few_groups}
use Rattle.plan_parts.proofs.fetching.items_of.Goals as goal

pub group_items-requires-clause-few : goal.group_items-requires-clause-few
group_items-requires-clause-few c =
    few_groups c.args.held.now c.requires.work c.in-Slots.number c.in-Slots.group
    (subst (λ (w : Want). IsTold c.args.held.now w) c.in-Slots.is c.requires.told).0
