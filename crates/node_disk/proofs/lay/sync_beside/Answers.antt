use Rattle.disk_model.specs.Health.{Speaks}
use Rattle.node_disk.proofs.LayLemmas.{sync_moments}
use Rattle.node_disk.proofs.lay.sync_beside.Goals as goal

pub returns-clause-any_moment : goal.returns-clause-any_moment
returns-clause-any_moment g c told unmarked =
    sync_moments (Speaks g.D.Disk.tells g.D.Disk.health c.args.disk.now) c.sync.result (g.D.Disk.history c.args.disk.now) (g.D.Disk.history c.sync.new.self) told unmarked c.sync.ensures.ok c.sync.ensures.err
