use Rattle.std.proofs.Common.{sym, ◌∙◌}
use Rattle.cluster_calls.proofs.GiveLemmas.{delivers, message_there, votes}
use Rattle.cluster_calls.proofs.parts.Parts.deliver.Goals as goal

pub give-requires-clause-known : goal.give-requires-clause-known
give-requires-clause-known g c =
    let known = c.requires.known in (
      c.args.self.now.geometry,
      (
        known.0,
        (
          c.args.k,
          record {
            told = known.1.told;
            nodes = known.1.nodes;
            memories = known.1.memories;
            posted = message_there known.0 c.args.k c.in-Some.posted (g.L.Link.shown c.args.self.now.link)
                (g.met.L.Link.sound c.args.self.now.link known.0.posted known.1.live.posted) (sym c.in_ok-posted.ensures.given ∙ c.in-Some.is);
            at = known.1.live.memories;
          },
        ),
      ),
    )

pub returns-clause-does : goal.returns-clause-does
returns-clause-does g c =
    delivers g.D.Disk.tells g.D.Disk.history g.D.Disk.health c.args.self.now.geometry c.args.self.now.memories.slots.items _ c.args.self.now.seats.nodes.items _
    (g.L.Link.stands c.args.self.now.link) (g.L.Link.stands c.get.new.self) _ c.args.self.now.book _ c.in-Some.posted c.args.k _ c.give.result
    (λ story stands.
    message_there story c.args.k c.in-Some.posted (g.L.Link.shown c.args.self.now.link) (g.met.L.Link.sound c.args.self.now.link story.posted stands)
    (sym c.in_ok-posted.ensures.given ∙ c.in-Some.is))
    c.in_ok-posted.ensures.stands c.give.ensures

pub returns-clause-vote : goal.returns-clause-vote
returns-clause-vote g c =
    votes g.D.Disk.tells g.D.Disk.history g.D.Disk.health c.args.self.now.geometry c.args.self.now.memories.slots.items _ c.args.self.now.seats.nodes.items _
    (g.L.Link.stands c.args.self.now.link) (g.L.Link.stands c.get.new.self) _ c.args.self.now.book _ c.in-Some.posted c.args.k _ c.give.result
    (λ story stands.
    message_there story c.args.k c.in-Some.posted (g.L.Link.shown c.args.self.now.link) (g.met.L.Link.sound c.args.self.now.link story.posted stands)
    (sym c.in_ok-posted.ensures.given ∙ c.in-Some.is))
    c.in_ok-posted.ensures.stands c.give.ensures
