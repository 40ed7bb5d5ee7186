use Rattle.std.proofs.Common.{refl, inr}
use Rattle.story_laws.specs.Acts.{Resends}
use Rattle.cluster_calls.specs.Counted.{counted_shown}
use Rattle.sinfonia.proofs.CallLemmas.{does, known_live, life_there, node_there, stands_after}
use Rattle.sinfonia.proofs.cluster.Cluster.resend.Goals as goal

pub resend-requires-clause-there : goal.resend-requires-clause-there
resend-requires-clause-there g c = let known = known_live g.L.Link.stands c.args.self.now c.if-self.false c.requires.known in node_there g.L.Link.stands c.args.self.now known.0 known.1 c.args.n c.requires.there

pub resend-requires-clause-life : goal.resend-requires-clause-life
resend-requires-clause-life g c =
    let known = known_live g.L.Link.stands c.args.self.now c.if-self.false c.requires.known in
    life_there g.L.Link.stands c.args.self.now known.0 known.1 (counted_shown g.L.Link.shown c.args.self.now.parts.link) (λ posted is. g.met.L.Link.sound c.args.self.now.parts.link.link posted is.0) (c.requires.life known.0 known.1)

pub returns-clause-does : goal.returns-clause-does
returns-clause-does g c = does g.D.Disk.tells g.D.Disk.history g.D.Disk.health g.L.Link.stands c.args.self.now _ (Resends c.args.n) refl c.resend.ensures.geometry c.in_ok-resend.ensures.does

pub returns-clause-stands : goal.returns-clause-stands
returns-clause-stands g c = stands_after g.D.Disk.tells g.D.Disk.history g.D.Disk.health g.L.Link.stands c.args.self.now _ (Resends c.args.n) c.if-self.false c.requires.known (does g.D.Disk.tells g.D.Disk.history g.D.Disk.health g.L.Link.stands c.args.self.now _ (Resends c.args.n) refl c.resend.ensures.geometry c.in_ok-resend.ensures.does)

pub returns-clause-known : goal.returns-clause-known
returns-clause-known g c = inr (stands_after g.D.Disk.tells g.D.Disk.history g.D.Disk.health g.L.Link.stands c.args.self.now _ (Resends c.args.n) c.if-self.false c.requires.known (does g.D.Disk.tells g.D.Disk.history g.D.Disk.health g.L.Link.stands c.args.self.now _ (Resends c.args.n) refl c.resend.ensures.geometry c.in_ok-resend.ensures.does))
