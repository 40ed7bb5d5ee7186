use Rattle.std.proofs.Common.{sym, ◌∙◌}
use Rattle.fs_content.proofs.SlotLemmas.{take_there, take_absent}
use Rattle.fs_content.proofs.naming.take_name.Goals as goal

pub returns-in-Some : goal.returns-in-Some
returns-in-Some c = c.replace.ensures.after ∙ sym (take_there c.args.slots.now c.args.name.now c.in-Some.at (sym c.in-Some.ensures))

pub returns-in_default : goal.returns-in_default
returns-in_default c = sym (take_absent c.args.slots.now c.args.name.now (sym c.in_default.ensures))
