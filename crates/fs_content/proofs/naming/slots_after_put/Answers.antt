use Rattle.std.proofs.Common.{sym, ap, ◌∙◌, arith}
use Rattle.fs_rules.specs.Slots.{slot_for}
use Rattle.fs_content.proofs.SlotLemmas.{length_put_there, length_put_added}
use Rattle.fs_content.proofs.naming.slots_after_put.Goals as goal

pub returns-in-Some : goal.returns-in-Some
returns-in-Some c e named small =
    c.len.ensures ∙ sym (length_put_there c.args.slots.now e c.in-Some.field-0 (ap (slot_for c.args.slots.now) named ∙ sym c.in-Some.ensures))

pub returns-in-None : goal.returns-in-None
returns-in-None c e named small =
    omega (arith, c.saturating_add.ensures, c.len-in-None.ensures, length_put_added c.args.slots.now e (ap (slot_for c.args.slots.now) named ∙ sym c.in-None.ensures))
