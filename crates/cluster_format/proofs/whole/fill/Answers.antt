use Rattle.std.proofs.Common.{◌≡◌, ◌∷◌, [], length, None, ap, sym, ◌∙◌, arith, if◌then◌else◌, ◌==◌, Bool}
use Rattle.std.proofs.lemmas.Bool.{ne_eqb}
use Rattle.std.proofs.lemmas.List.{length-append}
use Rattle.cluster_format.specs.Formats.{shelves_of}
use Rattle.cluster_format.proofs.FormatLemmas.{fresh_more, held_more}
use Rattle.cluster_format.proofs.whole.fill.Goals as goal

pub loop-m-preserved : goal.loop-m-preserved
loop-m-preserved g c =
    let old = c.loop-m.invariant in
    let one = c.in_ok-add.ensures.fresh in
    let takes = c.in_ok-add.ensures.takes in
    let more : length c.add.new.memories.slots.items ≡ _ = ap (λ (xs : _). length xs) one.1 ∙ length-append c.loop-m.memories.slots.items (one.0 ∷ []) in
    let many = old.many in
    record {
      held = held_more (shelves_of g.H.Shelf.tells g.H.Shelf.disks g.H.Shelf.is_taken g.H.Shelf.faults) g.D.Disk.tells c.args.shelf.now c.loop-m.shelf c.add.new.shelf
          c.loop-m.memories.slots.items c.add.new.memories.slots.items one.0 c.loop-m.m (sym many) one.1 old.held takes
          (λ t. (one.2.sound (old.held.stays t)).1.1.logged.ready.speaks.0);
      many = omega (arith, more, many);
      within = omega (arith, c.loop-m-test.true);
      fresh = fresh_more g.D.Disk.tells g.D.Disk.history g.D.Disk.health c.args.geometry (g.H.Shelf.tells c.args.shelf.now)
          c.loop-m.memories.slots.items c.add.new.memories.slots.items one.0 c.loop-m.m (sym many) one.1 old.fresh
          (record { setup = one.2.setup; up = one.2.up; running = one.2.running; state = one.2.state; sound = λ t. one.2.sound (old.held.stays t) });
      others = λ t j past.
          takes.rest (old.held.stays t) j
          ∙ ap (λ (b : Bool). if b then None else g.H.Shelf.disks c.loop-m.shelf j) (ne_eqb j c.loop-m.m (λ same. omega (arith, same, past)))
          ∙ old.others t j (omega (arith, past));
      faults = takes.faults ∙ old.faults;
    }
