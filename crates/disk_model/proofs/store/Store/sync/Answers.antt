use Rattle.disk_model.specs.Frames.{bytes_of}
use Rattle.disk_model.specs.Plan.{blank, history_of}
use Rattle.disk_model.proofs.StoreLemmas.{history_more, kept_sync}
use Rattle.disk_model.proofs.store.Store.sync.Goals as goal

pub returns-clause-stands : goal.returns-clause-stands
returns-clause-stands c kept =
    rw (c.clear.ensures.items, c.in_ok-push.ensures.items, history_more blank c.args.self.now.changes.items _)
    (kept_sync (bytes_of c.args.self.now.frames) c.args.self.now.pending.items (history_of c.args.self.now.changes.items) kept)
