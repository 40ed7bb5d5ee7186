use Rattle.disk_model.proofs.HealthLemmas.{hands_both}
use Rattle.gate_log.proofs.LogLemmas.{opens_first, opens_both}
use Rattle.gate_log.proofs.log.open_behind.Goals as goal

pub returns-in_err-write_through-clause-any_moment : goal.returns-in_err-write_through-clause-any_moment
returns-in_err-write_through-clause-any_moment g c speaks =
    opens_first (g.D.Disk.history c.args.disk.now) (g.D.Disk.history c.write_through.new.disk) c.args.gate c.args.bytes.now (c.in_err-write_through.ensures.any_moment speaks)

pub returns-clause-hands : goal.returns-clause-hands
returns-clause-hands g c = hands_both g.D.Disk.tells g.D.Disk.health 2 2 c.args.disk.now c.write_through.new.disk c.write_through-2.new.disk _ c.write_through-2.result
    c.in_ok-write_through.ensures.hands c.write_through-2.ensures.hands

pub returns-clause-any_moment : goal.returns-clause-any_moment
returns-clause-any_moment g c speaks =
    opens_both (g.D.Disk.history c.args.disk.now) (g.D.Disk.history c.write_through.new.disk) (g.D.Disk.history c.write_through-2.new.disk) c.args.gate c.args.bytes.now
    (c.in_ok-write_through.ensures.ok speaks) (c.in_ok-write_through.ensures.any_moment speaks)
    (c.write_through-2.ensures.any_moment (c.in_ok-write_through.ensures.hands.speaks speaks))
