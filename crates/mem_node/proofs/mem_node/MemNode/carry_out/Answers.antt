use Rattle.std.proofs.Common.{Option, Ok, sym, subst}
use Rattle.mini_tx.specs.declared.entry.Entry.{Entry}
use Rattle.mini_tx.specs.declared.message.Message.{Message}
use Rattle.mem_node.specs.Node.{Handles}
use Rattle.mem_node.proofs.NodeLemmas.{rested}
use Rattle.mem_node.proofs.mem_node.MemNode.carry_out.Goals as goal

pub returns-in-None-clause-handled : goal.returns-in-None-clause-handled
returns-in-None-clause-handled g c =
    let own = c.args.self.now in
    subst (λ (x : Option Entry). Handles {X = Option Message} g.D.Disk.tells g.D.Disk.history g.D.Disk.health own own x (Ok c.args.reaction.answer)) (sym c.in-None.is)
    (rested g.D.Disk.tells g.D.Disk.history g.D.Disk.health own c.args.reaction.answer c.requires.running)
