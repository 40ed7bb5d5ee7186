use Rattle.std.proofs.Common.{sym, arith}
use Rattle.cluster_memories.specs.Memories.{slots_in}
use Rattle.cluster_seats.specs.Seats.{nodes_in}
use Rattle.cluster_calls.proofs.GiveLemmas.{may_be_sent, memory_gives, node_gives, no_memory, no_node}
use Rattle.cluster_calls.proofs.giving.give.Goals as goal

pub to_memory-requires-clause-fit : goal.to_memory-requires-clause-fit
to_memory-requires-clause-fit g c =
    let known = c.requires.known in
    may_be_sent known.0 known.1.0 known.1.1.0 c.args.posted.now (slots_in c.args.memories.now) c.in-Memory.m known.1.1.1 (sym c.in-Memory.is)

pub returns-then-m-len : goal.returns-then-m-len
returns-then-m-len g c =
    memory_gives g.D.Disk.tells g.D.Disk.history g.D.Disk.health (slots_in c.args.memories.now) _ (nodes_in c.args.seats.now) (g.L.Link.stands c.args.link.now) _ c.args.book.now _
    c.args.posted.now c.in-Memory.m _ c.to_memory.result (sym c.in-Memory.is) c.to_memory.ensures

pub returns-else-m-len : goal.returns-else-m-len
returns-else-m-len g c =
    no_memory g.D.Disk.tells g.D.Disk.history g.D.Disk.health (slots_in c.args.memories.now) (nodes_in c.args.seats.now) (g.L.Link.stands c.args.link.now) c.args.book.now c.args.posted.now
    c.without_vote.result c.in-Memory.m c.without_vote.ensures (sym c.in-Memory.is) (omega (arith, c.if-m-len.false, c.len.ensures))

pub returns-then-n-len : goal.returns-then-n-len
returns-then-n-len g c =
    node_gives g.D.Disk.tells g.D.Disk.history g.D.Disk.health (slots_in c.args.memories.now) (nodes_in c.args.seats.now) _ (g.L.Link.stands c.args.link.now) _ c.args.book.now _
    c.args.posted.now c.in-Node.n _ c.hear.result (sym c.in-Node.is) c.hear.ensures.heard c.hear.ensures.vote

pub returns-else-n-len : goal.returns-else-n-len
returns-else-n-len g c =
    no_node g.D.Disk.tells g.D.Disk.history g.D.Disk.health (slots_in c.args.memories.now) (nodes_in c.args.seats.now) (g.L.Link.stands c.args.link.now) c.args.book.now c.args.posted.now
    c.without_vote-else-n-len.result c.in-Node.n c.without_vote-else-n-len.ensures (sym c.in-Node.is) (omega (arith, c.if-n-len.false, c.len-in-Node.ensures))
