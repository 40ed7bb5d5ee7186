use Rattle.std.proofs.Common.{length}
use Rattle.std.proofs.lemmas.Result.{on_ok_weaker, on_err_weaker}
use Rattle.disk_model.proofs.HealthLemmas.{hands_both}
use Rattle.disk_model.proofs.MomentLemmas.{write_failed, write_and_sync}
use Rattle.gate_log.proofs.through.write_through.Goals as goal

pub returns-in_err-write-clause-any_moment : goal.returns-in_err-write-clause-any_moment
returns-in_err-write-clause-any_moment g c speaks =
    write_failed (g.D.Disk.history c.args.disk.now) (g.D.Disk.history c.write.new.self) c.args.at (length c.args.from.now) (c.in_err-write.ensures.err speaks)

pub returns-clause-hands : goal.returns-clause-hands
returns-clause-hands g c = hands_both g.D.Disk.tells g.D.Disk.health 1 1 c.args.disk.now c.write.new.self c.sync.new.self _ c.sync.result
    c.in_ok-write.ensures.hands c.sync.ensures.hands

pub returns-clause-any_moment : goal.returns-clause-any_moment
returns-clause-any_moment g c speaks =
    write_and_sync c.sync.result (g.D.Disk.history c.args.disk.now) (g.D.Disk.history c.write.new.self) (g.D.Disk.history c.sync.new.self) c.args.at c.args.from.now
    (c.in_ok-write.ensures.ok speaks) (on_ok_weaker c.sync.result (λ ok. ok (c.in_ok-write.ensures.hands.speaks speaks)) c.sync.ensures.ok)
    (on_err_weaker c.sync.result (λ err. err (c.in_ok-write.ensures.hands.speaks speaks)) c.sync.ensures.err)
