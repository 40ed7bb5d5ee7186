use Rattle.std.proofs.Common.{◌≡◌, ◌+◌, sym, ap, subst, ◌∙◌, arith}
use Rattle.std.specs.Prelude.{◌≤◌, ◌<◌}
use Rattle.event_text.specs.declared.event.Event.TheVariants as event
use Rattle.fs_rules.specs.declared.geometry.Geometry.{Geometry}
use Rattle.fs_rules.specs.declared.plain_tree.PlainTree.{PlainTree}
use Rattle.nfs_service.specs.declared.request.Request.{Request}
use Rattle.sfs.specs.declared.world.World.{World}
use Rattle.nfs_service.specs.Reply.{heard, effect}
use Rattle.arrival_outcome.specs.Outcome.{ComesTo}
use Rattle.sfs.specs.World.{GoesOn}
use Rattle.sfs.proofs.EventLemmas.{not_come, no_node, no_number, Counted, counted_one, counted_none, goes_on}
use Rattle.sfs.proofs.world.World.arrive.Goals as goal
use Rattle.sfs.proofs.world.World.arrive.Goals.{then-node-geometry-via-then-node-geometry, then-node-geometry-via-else-node-geometry+then-self, then-is_some, else-is_some}

pub returns-then-node-geometry-clause-step : goal.returns-then-node-geometry-clause-step
returns-then-node-geometry-clause-step c schedule book stands within next =
    let g = c.args.self.now.tree.geometry in
    let e = event.Arrive c.args.node c.args.moment.sec c.args.moment.usec c.args.bytes.now in
    not_come schedule book c.args.self.now e stands within next (elim c.then-node-geometry.branch [
      | then-node-geometry-via-then-node-geometry w ↦
          no_node g book c.args.node c.args.moment.sec c.args.moment.usec c.args.bytes.now (subst (λ (k : Geometry). k.nodes ≤ c.args.node) c.geometry.ensures.value w.if-node-geometry.true)
      | then-node-geometry-via-else-node-geometry+then-self w ↦
          no_number g book c.args.node c.args.moment.sec c.args.moment.usec c.args.bytes.now (omega (arith, w.if-self.true, stands.arrivals))
    ])

pub returns-clause-step : goal.returns-clause-step
returns-clause-step c schedule book stands within next =
    let is : c.in_ok-request.request ≡ heard c.args.bytes.now = (c.in_ok-request.ensures {u = tt}).exact ∙ ap heard c.as_slice.ensures.value in
    let came = c.in_ok-outcome.ensures {u = tt} in
    let counted : Counted c.args.self.now c.of.new.tree c.in_ok-outcome.outcome.change c.if-is_some.self = elim c.if-is_some.branch [
      | then-is_some v ↦ record {
        tree_is = ap (λ (x : World). x.tree) v.self-is;
        arrivals = ap (λ (x : World). x.arrivals) v.self-is;
        points = ap (λ (x : World). x.points) v.self-is ∙ counted_one c.args.self.now.points c.in_ok-outcome.outcome.change (sym (v.if-is_some.ensures {u = tt}));
      }
      | else-is_some v ↦ record {
        tree_is = ap (λ (x : World). x.tree) v.self-is;
        arrivals = ap (λ (x : World). x.arrivals) v.self-is;
        points = ap (λ (x : World). x.points) v.self-is ∙ counted_none c.args.self.now.points c.in_ok-outcome.outcome.change (sym (v.if-is_some.ensures {u = tt}));
      }
    ] in
    subst (GoesOn schedule book c.if-is_some.self) (sym (c.in_ok-lines_of.ensures {u = tt}))
    (goes_on schedule book c.args.self.now c.if-is_some.self c.args.node c.args.moment c.args.bytes.now c.in_ok-outcome.outcome stands within next (record {
      there = subst (λ (k : Geometry). c.args.node < k.nodes) c.geometry.ensures.value c.if-node-geometry.false;
      few = omega arith;
      comes = subst (λ (t : PlainTree). ComesTo c.args.self.now.tree t c.in_ok-outcome.outcome (effect c.args.self.now.tree (heard c.args.bytes.now) (c.args.self.now.arrivals + 1) c.args.moment)) (sym counted.tree_is)
          (subst (λ (r : Request). ComesTo c.args.self.now.tree c.of.new.tree c.in_ok-outcome.outcome (effect c.args.self.now.tree r (c.args.self.now.arrivals + 1) c.args.moment)) is came.comes);
      cluster = ap (λ (t : PlainTree). t.geometry) counted.tree_is ∙ came.cluster;
      arrivals = counted.arrivals;
      points = counted.points;
    }))
