use Rattle.std.proofs.Common.{refl, arith}
use Rattle.std.proofs.lemmas.Result.{err_from_is_err_and}
use Rattle.disk_model.proofs.HealthLemmas.{hands_first, hands_both}
use Rattle.node_disk.proofs.FormatLemmas.{taking, taken_away, laying, setting, done_, on_ok}
use Rattle.node_disk.proofs.format.write_node.Goals as goal

pub returns-in_err-write_through-clause-any_moment : goal.returns-in_err-write_through-clause-any_moment
returns-in_err-write_through-clause-any_moment g c ready =
    taking (g.D.Disk.history c.args.disk.now) c.args.front.now c.args.image.now c.requires.front c.requires.image ready.safe (g.D.Disk.history c.write_through.new.disk)
    (c.write_through.ensures.any_moment ready.speaks)

pub returns-in_err-lay-clause-any_moment : goal.returns-in_err-lay-clause-any_moment
returns-in_err-lay-clause-any_moment g c ready =
    let before = g.D.Disk.history c.args.disk.now in
    let unmarked = taken_away before c.args.front.now c.args.image.now c.requires.front c.requires.image ready.safe (g.D.Disk.history c.write_through.new.disk).now (c.in_ok-write_through.ensures.ok ready.speaks) in
    laying before c.args.front.now c.args.image.now c.requires.front c.requires.image ready.safe (g.D.Disk.history c.write_through.new.disk) (g.D.Disk.history c.lay.new.disk)
    (taking before c.args.front.now c.args.image.now c.requires.front c.requires.image ready.safe (g.D.Disk.history c.write_through.new.disk) (c.write_through.ensures.any_moment ready.speaks))
    (c.lay.ensures.any_moment (c.in_ok-write_through.ensures.hands.speaks ready.speaks) unmarked)

pub returns-clause-any_moment : goal.returns-clause-any_moment
returns-clause-any_moment g c ready =
    let before = g.D.Disk.history c.args.disk.now in
    let told1 = c.in_ok-write_through.ensures.hands.speaks ready.speaks in
    let unmarked = taken_away before c.args.front.now c.args.image.now c.requires.front c.requires.image ready.safe (g.D.Disk.history c.write_through.new.disk).now (c.in_ok-write_through.ensures.ok ready.speaks) in
    setting before c.args.front.now c.args.image.now c.requires.front c.requires.image ready.safe (g.D.Disk.history c.write_through.new.disk).now.content (g.D.Disk.history c.lay.new.disk).now
    (c.in_ok-lay.ensures.ok told1 unmarked) (g.D.Disk.history c.lay.new.disk) (g.D.Disk.history c.write_through-2.new.disk) refl
    (laying before c.args.front.now c.args.image.now c.requires.front c.requires.image ready.safe (g.D.Disk.history c.write_through.new.disk) (g.D.Disk.history c.lay.new.disk)
    (taking before c.args.front.now c.args.image.now c.requires.front c.requires.image ready.safe (g.D.Disk.history c.write_through.new.disk) (c.write_through.ensures.any_moment ready.speaks))
    (c.lay.ensures.any_moment told1 unmarked))
    (c.write_through-2.ensures.any_moment (c.in_ok-lay.ensures.hands.speaks told1))

pub returns-clause-ok : goal.returns-clause-ok
returns-clause-ok g c =
    on_ok c.write_through-2.result _ _
    (λ last ready.
    let before = g.D.Disk.history c.args.disk.now in
    let told1 = c.in_ok-write_through.ensures.hands.speaks ready.speaks in
    let unmarked = taken_away before c.args.front.now c.args.image.now c.requires.front c.requires.image ready.safe (g.D.Disk.history c.write_through.new.disk).now (c.in_ok-write_through.ensures.ok ready.speaks) in
    done_ before c.args.front.now c.args.image.now c.requires.front c.requires.image ready.safe (g.D.Disk.history c.write_through.new.disk).now.content (g.D.Disk.history c.lay.new.disk).now
    (c.in_ok-lay.ensures.ok told1 unmarked) (g.D.Disk.history c.write_through-2.new.disk).now (last (c.in_ok-lay.ensures.hands.speaks told1)))
    c.write_through-2.ensures.ok

pub returns-in_err-lay-clause-hands : goal.returns-in_err-lay-clause-hands
returns-in_err-lay-clause-hands g c =
    let p = err_from_is_err_and c.from_residual-in_err-lay.result c.from_residual-in_err-lay.ensures.1 in
    rw (p.1, p.2) (hands_first g.D.Disk.tells g.D.Disk.health 6 8 c.args.disk.now c.lay.new.disk _ _ (omega arith)
    (hands_both g.D.Disk.tells g.D.Disk.health 2 4 c.args.disk.now c.write_through.new.disk c.lay.new.disk _ _
    c.in_ok-write_through.ensures.hands c.in_err-lay.ensures.hands))

pub returns-clause-hands : goal.returns-clause-hands
returns-clause-hands g c =
    hands_both g.D.Disk.tells g.D.Disk.health 6 2 c.args.disk.now c.lay.new.disk c.write_through-2.new.disk _ c.write_through-2.result
    (hands_both g.D.Disk.tells g.D.Disk.health 2 4 c.args.disk.now c.write_through.new.disk c.lay.new.disk _ _
    c.in_ok-write_through.ensures.hands c.in_ok-lay.ensures.hands)
    c.write_through-2.ensures.hands
