use Rattle.std.proofs.Common.{refl, inr}
use Rattle.story_laws.specs.Acts.{Delivers}
use Rattle.cluster_calls.specs.Counted.{counted_shown}
use Rattle.cluster_steps.specs.Live.{how_of}
use Rattle.sinfonia.proofs.CallLemmas.{does, known_live, life_there, stands_after}
use Rattle.sinfonia.proofs.cluster.Cluster.deliver.Goals as goal

pub deliver-requires-clause-there : goal.deliver-requires-clause-there
deliver-requires-clause-there g c = c.requires.there c.if-self.false

pub deliver-requires-clause-life : goal.deliver-requires-clause-life
deliver-requires-clause-life g c =
    let known = known_live g.L.Link.stands c.args.self.now c.if-self.false c.requires.known in
    life_there g.L.Link.stands c.args.self.now known.0 known.1 (counted_shown g.L.Link.shown c.args.self.now.parts.link) (λ posted is. g.met.L.Link.sound c.args.self.now.parts.link.link posted is.0) (c.requires.life known.0 known.1)

pub deliver-requires-clause-known : goal.deliver-requires-clause-known
deliver-requires-clause-known g c = let known = known_live g.L.Link.stands c.args.self.now c.if-self.false c.requires.known in (known.0, known.1.parts)

pub returns-clause-does : goal.returns-clause-does
returns-clause-does g c = does g.D.Disk.tells g.D.Disk.history g.D.Disk.health g.L.Link.stands c.args.self.now _ (Delivers c.args.k (how_of c.in_ok-went.went.delivered)) refl c.deliver.ensures.geometry c.in_ok-went.ensures.does

pub returns-clause-stands : goal.returns-clause-stands
returns-clause-stands g c = stands_after g.D.Disk.tells g.D.Disk.history g.D.Disk.health g.L.Link.stands c.args.self.now _ (Delivers c.args.k (how_of c.in_ok-went.went.delivered)) c.if-self.false c.requires.known (does g.D.Disk.tells g.D.Disk.history g.D.Disk.health g.L.Link.stands c.args.self.now _ (Delivers c.args.k (how_of c.in_ok-went.went.delivered)) refl c.deliver.ensures.geometry c.in_ok-went.ensures.does)

pub returns-clause-known : goal.returns-clause-known
returns-clause-known g c = inr (stands_after g.D.Disk.tells g.D.Disk.history g.D.Disk.health g.L.Link.stands c.args.self.now _ (Delivers c.args.k (how_of c.in_ok-went.went.delivered)) c.if-self.false c.requires.known (does g.D.Disk.tells g.D.Disk.history g.D.Disk.health g.L.Link.stands c.args.self.now _ (Delivers c.args.k (how_of c.in_ok-went.went.delivered)) refl c.deliver.ensures.geometry c.in_ok-went.ensures.does))
