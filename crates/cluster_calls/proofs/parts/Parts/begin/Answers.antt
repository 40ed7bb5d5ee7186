use Rattle.std.proofs.lemmas.Result.{on_ok_weaker}
use Rattle.cluster_calls.proofs.ActLemmas.{begin_acts, unknown}
use Rattle.cluster_calls.proofs.parts.Parts.begin.Goals as goal

pub begin-requires-clause-unknown : goal.begin-requires-clause-unknown
begin-requires-clause-unknown g c machine there =
    unknown c.args.self.now.geometry c.args.self.now.memories.slots.items c.args.self.now.seats.nodes.items (g.L.Link.stands c.args.self.now.link) c.args.self.now.book c.args.n
    c.requires.known.0 c.requires.known.1 machine there

pub returns-clause-does : goal.returns-clause-does
returns-clause-does g c =
    on_ok_weaker c.begin.result
    (λ begins story known. begin_acts g.D.Disk.tells g.D.Disk.history g.D.Disk.health c.args.self.now.geometry c.args.self.now.memories.slots.items c.args.self.now.seats.nodes.items c.begin.new.seats.nodes.items
    (g.L.Link.stands c.args.self.now.link) (g.L.Link.stands c.begin.new.link) c.args.self.now.book c.args.n c.requires.there story c.begin.new.book c.args.mini c.ranges.n.fits
    c.requires.idle c.requires.few c.requires.mini begins known)
    c.begin.ensures
