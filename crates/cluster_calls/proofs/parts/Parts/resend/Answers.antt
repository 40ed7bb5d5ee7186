use Rattle.std.proofs.lemmas.Result.{on_ok_weaker}
use Rattle.cluster_calls.proofs.ActLemmas.{resend_acts}
use Rattle.cluster_calls.proofs.parts.Parts.resend.Goals as goal

pub returns-clause-does : goal.returns-clause-does
returns-clause-does g c =
    on_ok_weaker c.resend.result
    (λ posts story known. resend_acts g.D.Disk.tells g.D.Disk.history g.D.Disk.health c.args.self.now.geometry c.args.self.now.memories.slots.items c.args.self.now.seats.nodes.items c.args.self.now.seats.nodes.items
    (g.L.Link.stands c.args.self.now.link) (g.L.Link.stands c.resend.new.link) c.args.self.now.book c.args.n c.requires.there story posts known)
    c.resend.ensures
