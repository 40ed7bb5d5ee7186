use Rattle.std.proofs.Common.{Option, Err, refl, sym, subst}
use Rattle.std.proofs.lemmas.Result.{err_from_is_err_and}
use Rattle.mini_tx.specs.declared.entry.Entry.{Entry}
use Rattle.mini_tx.specs.declared.message.Message.{Message}
use Rattle.mem_rules.specs.Reactions.{IsFitNext}
use Rattle.mem_rules.specs.Rules.{react}
use Rattle.mem_rules.proofs.ReactionLemmas.{reactions_fit}
use Rattle.mem_node.specs.declared.node_fault.NodeFault.{NodeFault}
use Rattle.mem_node.specs.Node.{Handles, node_of, setup_of, node_state_of}
use Rattle.mem_node.proofs.NodeLemmas.{still_shut, nothing}
use Rattle.mem_node.proofs.mem_node.MemNode.handle.Goals as goal

pub returns-in-Some-clause-handled : goal.returns-in-Some-clause-handled
returns-in-Some-clause-handled g c =
    let own = c.args.self.now in
    subst (λ (f : NodeFault). Handles {X = Option Message} g.D.Disk.tells g.D.Disk.history g.D.Disk.health own own (react (node_of own) c.args.message.now).entry (Err f))
    (sym c.fault.ensures)
    (still_shut g.D.Disk.tells g.D.Disk.history g.D.Disk.health own _ c.in-Some.shut c.in-Some.is)

pub returns-in_err-reaction-clause-handled : goal.returns-in_err-reaction-clause-handled
returns-in_err-reaction-clause-handled g c =
    let own = c.args.self.now in
    let p = err_from_is_err_and c.from_residual.result c.from_residual.ensures.1 in
    rw (p.1, p.2) (nothing g.D.Disk.tells g.D.Disk.history g.D.Disk.health own own (react (node_of own) c.args.message.now).entry
    record { setup = refl; state = refl; log = refl; shut = refl })

pub carry_out-requires-clause-fit : goal.carry_out-requires-clause-fit
carry_out-requires-clause-fit g c =
    let own = c.args.self.now in
    subst (λ (x : Option Entry). IsFitNext (setup_of own) (node_state_of own) x) (sym c.in_ok-reaction.ensures.0)
    (reactions_fit (setup_of own) (node_of own) c.args.message.now own.memory.valid own.memory.good c.requires.fit)
