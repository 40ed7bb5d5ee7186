use Rattle.std.proofs.Common.{◌≡◌, ◌∷◌, [], ℕ, length, true, ap, sym, subst, ◌∙◌, arith}
use Rattle.std.proofs.lemmas.List.{length-append}
use Rattle.mem_node.specs.Node.{node_disk_of}
use Rattle.cluster_parts.specs.Slots.{node_in}
use Rattle.cluster_format.specs.Formats.{shelves_of}
use Rattle.cluster_format.proofs.FormatLemmas.{gives_all, gives_more, got_behind}
use Rattle.cluster_format.proofs.whole.give_back.Goals as goal

pub give-requires-clause-taken : goal.give-requires-clause-taken
give-requires-clause-taken g c =
    let more : length c.loop-slot.memories.slots.items ≡ _ = ap (λ (xs : _). length xs) c.in-Some.ensures.last ∙ length-append c.pop.new.self.slots.items (c.in-Some.slot ∷ []) in
    c.loop-slot.invariant.held c.len.result (omega (arith, more, c.len.ensures))

pub give-requires-clause-told : goal.give-requires-clause-told
give-requires-clause-told g c told =
    subst g.D.Disk.tells (sym (c.into_disk.ensures))
    (c.loop-slot.invariant.own told (length c.pop.new.self.slots.items) c.in-Some.slot
    (got_behind c.loop-slot.memories.slots.items c.pop.new.self.slots.items c.in-Some.slot c.in-Some.ensures.last))

pub loop-slot-preserved : goal.loop-slot-preserved
loop-slot-preserved g c =
    gives_more (shelves_of g.H.Shelf.tells g.H.Shelf.disks g.H.Shelf.is_taken g.H.Shelf.faults) g.D.Disk.tells (length c.args.memories.slots.items) c.args.shelf.now c.loop-slot.shelf
    c.give.new.self c.loop-slot.memories.slots.items c.pop.new.self.slots.items c.in-Some.slot c.into_disk.result c.len.result c.in-Some.ensures.last c.len.ensures
    c.loop-slot.invariant
    (record {
      stays = c.give.ensures.tells;
      before = c.give.ensures.told_before;
      given = c.give.ensures.given;
      taken = c.give.ensures.taken;
      faults = c.give.ensures.faults;
    })

pub returns : goal.returns
returns g c =
    gives_all (shelves_of g.H.Shelf.tells g.H.Shelf.disks g.H.Shelf.is_taken g.H.Shelf.faults) g.D.Disk.tells (length c.args.memories.slots.items) c.args.shelf.now c.loop-slot.shelf
    c.loop-slot.memories.slots.items c.in_default.ensures.none c.loop-slot.invariant
