use Rattle.std.proofs.lemmas.Result.{on_ok_weaker}
use Rattle.plan_room.specs.Picked.{free_blocks}
use Rattle.plan_room.proofs.FreeLemmas.{lowest_first, none_free}
use Rattle.plan_room.proofs.RoomLemmas.{nothing_picked, one_picked}
use Rattle.plan_room.proofs.picking.+push_marked.Goals as goal

pub returns-in_ok-push-in-Some : goal.returns-in_ok-push-in-Some
returns-in_ok-push-in-Some t c =
    let old = c.args.map.now in
    let blocks = c.args.blocks in
    let first = lowest_first old c.set.new.map blocks c.in-Some.block c.in-Some.ensures.found c.set.ensures.changed c.set.ensures.others in
    on_ok_weaker c.push_marked.result
    (one_picked c.args.places.now c.push.new.self c.push_marked.new.places c.args.memory c.args.need c.in-Some.block (free_blocks old blocks) (free_blocks c.set.new.map blocks)
    c.if-need-eq0.false first c.in_ok-push-in-Some.ensures.ok) c.push_marked.ensures

pub returns-in-None : goal.returns-in-None
returns-in-None t c =
    nothing_picked c.args.places.now c.args.memory c.args.need (free_blocks c.args.map.now c.args.blocks) (none_free c.args.map.now c.args.blocks c.in-None.ensures.none)
