use Rattle.disk_model.specs.Health.{Speaks}
use Rattle.node_disk.proofs.LayLemmas.{write_moments}
use Rattle.node_disk.proofs.lay.write_beside.Goals as goal

pub returns-clause-any_moment : goal.returns-clause-any_moment
returns-clause-any_moment g c told unmarked =
    write_moments (Speaks g.D.Disk.tells g.D.Disk.health c.args.disk.now) c.write.result (g.D.Disk.history c.args.disk.now) (g.D.Disk.history c.write.new.self) c.args.at c.args.from.now
    told c.requires.beside unmarked c.write.ensures.ok c.write.ensures.err
