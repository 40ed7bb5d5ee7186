use Rattle.std.proofs.Common.{arith}
use Rattle.std.proofs.lemmas.Result.{err_from_is_err_and}
use Rattle.disk_model.proofs.HealthLemmas.{hands_first, hands_both}
use Rattle.std.specs.Prelude.{◌≢◌}
use Rattle.disk_model.specs.Crash.{Content}
use Rattle.disk_model.proofs.MomentLemmas.{join_moments}
use Rattle.node_disk.proofs.lay.lay.Goals as goal

pub returns-in_err-write_beside-2-clause-any_moment : goal.returns-in_err-write_beside-2-clause-any_moment
returns-in_err-write_beside-2-clause-any_moment g c told unmarked =
    let first = c.in_ok-write_beside.ensures in
    join_moments (λ (image : Content). image 128 ≢ 1) (g.D.Disk.history c.args.disk.now) (g.D.Disk.history c.write_beside.new.disk) (g.D.Disk.history c.write_beside-2.new.disk)
    (c.write_beside.ensures.any_moment told unmarked)
    (c.write_beside-2.ensures.any_moment (c.in_ok-write_beside.ensures.hands.speaks told) (first.unmarked told unmarked))

pub returns-in_err-write_beside-3-clause-any_moment : goal.returns-in_err-write_beside-3-clause-any_moment
returns-in_err-write_beside-3-clause-any_moment g c told unmarked =
    let told1 = c.in_ok-write_beside.ensures.hands.speaks told in
    let told2 = c.in_ok-write_beside-2.ensures.hands.speaks told1 in
    let one = c.in_ok-write_beside.ensures.unmarked told unmarked in
    let two = c.in_ok-write_beside-2.ensures.unmarked told1 one in
    join_moments (λ (image : Content). image 128 ≢ 1) (g.D.Disk.history c.args.disk.now) (g.D.Disk.history c.write_beside-2.new.disk) (g.D.Disk.history c.write_beside-3.new.disk)
    (join_moments (λ (image : Content). image 128 ≢ 1) (g.D.Disk.history c.args.disk.now) (g.D.Disk.history c.write_beside.new.disk) (g.D.Disk.history c.write_beside-2.new.disk)
    (c.write_beside.ensures.any_moment told unmarked) (c.write_beside-2.ensures.any_moment told1 one))
    (c.write_beside-3.ensures.any_moment told2 two)

pub returns-clause-any_moment : goal.returns-clause-any_moment
returns-clause-any_moment g c told unmarked =
    let told1 = c.in_ok-write_beside.ensures.hands.speaks told in
    let told2 = c.in_ok-write_beside-2.ensures.hands.speaks told1 in
    let told3 = c.in_ok-write_beside-3.ensures.hands.speaks told2 in
    let one = c.in_ok-write_beside.ensures.unmarked told unmarked in
    let two = c.in_ok-write_beside-2.ensures.unmarked told1 one in
    let three = c.in_ok-write_beside-3.ensures.unmarked told2 two in
    join_moments (λ (image : Content). image 128 ≢ 1) (g.D.Disk.history c.args.disk.now) (g.D.Disk.history c.write_beside-3.new.disk) (g.D.Disk.history c.sync_beside.new.disk)
    (join_moments (λ (image : Content). image 128 ≢ 1) (g.D.Disk.history c.args.disk.now) (g.D.Disk.history c.write_beside-2.new.disk) (g.D.Disk.history c.write_beside-3.new.disk)
    (join_moments (λ (image : Content). image 128 ≢ 1) (g.D.Disk.history c.args.disk.now) (g.D.Disk.history c.write_beside.new.disk) (g.D.Disk.history c.write_beside-2.new.disk)
    (c.write_beside.ensures.any_moment told unmarked) (c.write_beside-2.ensures.any_moment told1 one))
    (c.write_beside-3.ensures.any_moment told2 two))
    (c.sync_beside.ensures.any_moment told3 three)

pub returns-in_err-write_beside-2-clause-hands : goal.returns-in_err-write_beside-2-clause-hands
returns-in_err-write_beside-2-clause-hands g c =
    let p = err_from_is_err_and c.from_residual-in_err-write_beside-2.result c.from_residual-in_err-write_beside-2.ensures.1 in
    rw (p.1, p.2) (hands_first g.D.Disk.tells g.D.Disk.health 2 4 c.args.disk.now c.write_beside-2.new.disk _ _ (omega arith)
    (hands_both g.D.Disk.tells g.D.Disk.health 1 1 c.args.disk.now c.write_beside.new.disk c.write_beside-2.new.disk _ _
    c.in_ok-write_beside.ensures.hands c.in_err-write_beside-2.ensures.hands))

pub returns-in_err-write_beside-3-clause-hands : goal.returns-in_err-write_beside-3-clause-hands
returns-in_err-write_beside-3-clause-hands g c =
    let p = err_from_is_err_and c.from_residual-in_err-write_beside-3.result c.from_residual-in_err-write_beside-3.ensures.1 in
    rw (p.1, p.2) (hands_first g.D.Disk.tells g.D.Disk.health 3 4 c.args.disk.now c.write_beside-3.new.disk _ _ (omega arith)
    (hands_both g.D.Disk.tells g.D.Disk.health 2 1 c.args.disk.now c.write_beside-2.new.disk c.write_beside-3.new.disk _ _
    (hands_both g.D.Disk.tells g.D.Disk.health 1 1 c.args.disk.now c.write_beside.new.disk c.write_beside-2.new.disk _ _
    c.in_ok-write_beside.ensures.hands c.in_ok-write_beside-2.ensures.hands)
    c.in_err-write_beside-3.ensures.hands))

pub returns-clause-hands : goal.returns-clause-hands
returns-clause-hands g c =
    hands_both g.D.Disk.tells g.D.Disk.health 3 1 c.args.disk.now c.write_beside-3.new.disk c.sync_beside.new.disk _ c.sync_beside.result
    (hands_both g.D.Disk.tells g.D.Disk.health 2 1 c.args.disk.now c.write_beside-2.new.disk c.write_beside-3.new.disk _ _
    (hands_both g.D.Disk.tells g.D.Disk.health 1 1 c.args.disk.now c.write_beside.new.disk c.write_beside-2.new.disk _ _
    c.in_ok-write_beside.ensures.hands c.in_ok-write_beside-2.ensures.hands)
    c.in_ok-write_beside-3.ensures.hands)
    c.sync_beside.ensures.hands
