use Rattle.std.proofs.Common.{◌+◌, ◌++◌, ◌/◌, sym, ap, ◌∙◌}
use Rattle.content_laws.specs.Answers.{reads_at}
use Rattle.plan_content.proofs.BlockLemmas.{parts_more, parts_none}
use Rattle.plan_content.proofs.blocks.part_reads.Goals as goal

pub loop-block-init : goal.loop-block-init
loop-block-init c = c.new-items.ensures ∙ sym (parts_none (c.args.offset / 4096) (reads_at c.args.held.now c.args.number c.args.offset c.args.count))

pub loop-block-preserved : goal.loop-block-preserved
loop-block-preserved c =
    let f = reads_at c.args.held.now c.args.number c.args.offset c.args.count in
    let first = c.args.offset / 4096 in
    (c.in_ok-push_bytes.ensures {u = tt}) ∙ ap (λ is. is ++ f (first + c.loop-block.block)) c.loop-block.invariant ∙ sym (parts_more first f c.loop-block.block)
