use Rattle.std.proofs.Common.{true, false, ◌<◌, refl, sym, subst, arith}
use Rattle.plan_forms.specs.declared.plan.Plan.TheVariants as plan
use Rattle.node_rules.specs.Order.{IsStockInOrder}
use Rattle.node_rules.specs.Plans.{IsServed}
use Rattle.node_rules.specs.Stock.{Stock, parts}
use Rattle.node_parts.specs.Moves.{Moves}
use Rattle.nfs_node.specs.Gathers.{IsGathered}
use Rattle.nfs_node.proofs.GatherLemmas.{gathered_final, gathered_more, gathered_need, moved_order}
use Rattle.nfs_node.proofs.ProgressLemmas.{if_ok}
use Rattle.nfs_node.proofs.StockLemmas.{parts_less}
use Rattle.nfs_node.proofs.starting.+gather.Goals as goal

pub gather-requires : goal.gather-requires
gather-requires g t c κs within =
    let s : Stock = record { held = c.args.held.now; cache = c.args.cache.now } in
    let u : Stock = record { held = c.take.new.held; cache = c.take.new.cache } in
    let moves : Moves s c.in-Need.want true u = subst (λ b. Moves s c.in-Need.want b u) c.if-branch.true c.in_ok-take-in-Need.ensures.moves in
    let less = parts_less s u c.in-Need.want moves in
    let fits = moved_order s.held.geometry s c.requires.order u c.in-Need.want moves c.in_ok-take-in-Need.ensures.gone in
    let bound = c.decreases in
    let falls : parts u.cache < t = omega (arith, less, bound) in
    (falls, (within, (subst (λ h. IsServed h c.args.arrival.now.call) (sym fits.1) c.requires.served, subst (λ h. IsStockInOrder h u) (sym fits.1) fits.0)))

pub returns-then-branch : goal.returns-then-branch
returns-then-branch g t c =
    let s : Stock = record { held = c.args.held.now; cache = c.args.cache.now } in
    let u : Stock = record { held = c.take.new.held; cache = c.take.new.cache } in
    let moves : Moves s c.in-Need.want true u = subst (λ b. Moves s c.in-Need.want b u) c.if-branch.true c.in_ok-take-in-Need.ensures.moves in
    let p = c.in_ok-want.ensures in
    if_ok {P = IsGathered g.P.Planner.plans c.args.arrival.now u (record { held = c.gather.new.held; cache = c.gather.new.cache })} c.gather.result c.gather.ensures
    (λ q rest. gathered_more g.P.Planner.plans c.args.arrival.now s c.in_ok-want.field-0 c.requires.order p.wanted p.told p.sound p.planned c.in-Need.want u
    (record { held = c.gather.new.held; cache = c.gather.new.cache }) q c.in-Need.is moves c.in_ok-take-in-Need.ensures.gone rest)

pub returns-else-branch : goal.returns-else-branch
returns-else-branch g t c =
    let s : Stock = record { held = c.args.held.now; cache = c.args.cache.now } in
    let u : Stock = record { held = c.take.new.held; cache = c.take.new.cache } in
    let moves : Moves s c.in-Need.want false u = subst (λ b. Moves s c.in-Need.want b u) c.if-branch.false c.in_ok-take-in-Need.ensures.moves in
    let p = c.in_ok-want.ensures in
    gathered_need g.P.Planner.plans c.args.arrival.now s c.in_ok-want.field-0 c.requires.order p.wanted p.told p.sound p.planned c.in-Need.want u c.in-Need.is moves

pub returns-in-Final : goal.returns-in-Final
returns-in-Final g t c =
    let s : Stock = record { held = c.args.held.now; cache = c.args.cache.now } in
    let p = c.in_ok-want.ensures in
    gathered_final g.P.Planner.plans c.args.arrival.now s c.in_ok-want.field-0 c.requires.order p.wanted p.told p.sound p.planned
    (plan.Final c.in-Final.mini c.in-Final.answer c.in-Final.made c.in-Final.changed) c.in-Final.is refl tt
