use Rattle.std.proofs.Common.{refl, inr}
use Rattle.story_laws.specs.Acts.{Begins}
use Rattle.cluster_calls.specs.Counted.{counted_shown}
use Rattle.sinfonia.proofs.CallLemmas.{does, few_there, idle_there, known_live, life_there, node_there, stands_after}
use Rattle.sinfonia.proofs.cluster.Cluster.begin.Goals as goal

pub begin-requires-clause-there : goal.begin-requires-clause-there
begin-requires-clause-there g c = let known = known_live g.L.Link.stands c.args.self.now c.if-self.false c.requires.known in node_there g.L.Link.stands c.args.self.now known.0 known.1 c.args.n c.requires.there

pub begin-requires-clause-life : goal.begin-requires-clause-life
begin-requires-clause-life g c =
    let known = known_live g.L.Link.stands c.args.self.now c.if-self.false c.requires.known in
    life_there g.L.Link.stands c.args.self.now known.0 known.1 (counted_shown g.L.Link.shown c.args.self.now.parts.link) (λ posted is. g.met.L.Link.sound c.args.self.now.parts.link.link posted is.0) (c.requires.life known.0 known.1)

pub begin-requires-clause-idle : goal.begin-requires-clause-idle
begin-requires-clause-idle g c = let known = known_live g.L.Link.stands c.args.self.now c.if-self.false c.requires.known in idle_there g.L.Link.stands c.args.self.now known.0 known.1 c.args.n (c.requires.idle known.0 known.1)

pub begin-requires-clause-few : goal.begin-requires-clause-few
begin-requires-clause-few g c = let known = known_live g.L.Link.stands c.args.self.now c.if-self.false c.requires.known in few_there g.L.Link.stands c.args.self.now known.0 known.1 (c.requires.life known.0 known.1) c.args.n

pub begin-requires-clause-known : goal.begin-requires-clause-known
begin-requires-clause-known g c = let known = known_live g.L.Link.stands c.args.self.now c.if-self.false c.requires.known in (known.0, known.1.parts)

pub returns-clause-does : goal.returns-clause-does
returns-clause-does g c = does g.D.Disk.tells g.D.Disk.history g.D.Disk.health g.L.Link.stands c.args.self.now _ (Begins c.args.n c.args.mini) refl c.begin.ensures.geometry c.in_ok-begin.ensures.does

pub returns-clause-stands : goal.returns-clause-stands
returns-clause-stands g c = stands_after g.D.Disk.tells g.D.Disk.history g.D.Disk.health g.L.Link.stands c.args.self.now _ (Begins c.args.n c.args.mini) c.if-self.false c.requires.known (does g.D.Disk.tells g.D.Disk.history g.D.Disk.health g.L.Link.stands c.args.self.now _ (Begins c.args.n c.args.mini) refl c.begin.ensures.geometry c.in_ok-begin.ensures.does)

pub returns-clause-known : goal.returns-clause-known
returns-clause-known g c = inr (stands_after g.D.Disk.tells g.D.Disk.history g.D.Disk.health g.L.Link.stands c.args.self.now _ (Begins c.args.n c.args.mini) c.if-self.false c.requires.known (does g.D.Disk.tells g.D.Disk.history g.D.Disk.health g.L.Link.stands c.args.self.now _ (Begins c.args.n c.args.mini) refl c.begin.ensures.geometry c.in_ok-begin.ensures.does))
