use Rattle.std.proofs.Common.{sym, ap, subst, ◌∙◌}
use Rattle.mem_node.specs.Node.{node_disk_of}
use Rattle.cluster_parts.specs.Slots.{node_in}
use Rattle.cluster_format.proofs.formatting.add.Goals as goal

pub give-requires-clause-told : goal.give-requires-clause-told
give-requires-clause-told g c now =
    let told = (c.in_ok-slot.ensures.fresh.sound (c.in_ok-slot.ensures.takes.before now)).1.1.logged.ready.speaks.0 in
    subst g.D.Disk.tells (sym (c.into_disk.ensures ∙ ap (λ (slot : _). node_disk_of (node_in slot)) c.in-Err.ensures.back)) told
