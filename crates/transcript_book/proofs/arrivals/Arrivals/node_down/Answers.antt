use Rattle.transcript_book.proofs.OpenLemmas.{lost_kept}
use Rattle.transcript_book.proofs.arrivals.Arrivals.node_down.Goals as goal

pub invariant_of-self : goal.invariant_of-self
invariant_of-self c = lost_kept c.args.node c.self.inside.told.items c.lose_at.new.told.items c.self.inside.going.items c.without_node.new.going.items c.lose_at.ensures c.without_node.ensures c.self.invariant
