use Rattle.std.proofs.Common.{sym, append_assoc, arith}
use Rattle.std.proofs.lemmas.List.{append-nil}
use Rattle.tree_command.specs.Writing.{text_of}
use Rattle.tree_command.proofs.WriteLemmas.{text_more}
use Rattle.tree_command.proofs.output.append_lines.Goals as goal

pub loop-line-init : goal.loop-line-init
unfolding text_of
loop-line-init c = sym (append-nil c.args.text.now.items)

pub loop-line-preserved : goal.loop-line-preserved
loop-line-preserved c =
    let more = text_more c.args.lines.now c.loop-line.line-index c.line-item.result (omega (arith, c.loop-line-test.true)) in
    grind (arith, more, c.line-item.is, c.loop-line.invariant, c.in_ok-push.ensures {u = tt}, append_assoc)
