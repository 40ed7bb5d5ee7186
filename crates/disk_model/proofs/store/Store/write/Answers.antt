use Rattle.disk_model.specs.Frames.{bytes_of}
use Rattle.disk_model.specs.Plan.{blank, history_of}
use Rattle.disk_model.proofs.StoreLemmas.{history_more, kept_write}
use Rattle.disk_model.proofs.store.Store.write.Goals as goal

pub returns-clause-stands : goal.returns-clause-stands
returns-clause-stands c kept =
    rw (c.in_ok-push.ensures.items, c.in_ok-push-2.ensures.items, history_more blank c.args.self.now.changes.items _)
    (rw c.in_ok-bytes.ensures (kept_write (bytes_of c.args.self.now.frames) c.args.self.now.pending.items (history_of c.args.self.now.changes.items) kept
    (bytes_of c.write.new.self) c.in_ok-old.old c.args.at c.args.from.now c.in_ok-old.ensures.at c.in_ok-old.ensures.len c.in_ok-old.ensures.bytes c.in_ok-write.ensures))
