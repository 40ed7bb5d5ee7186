use Rattle.std.proofs.Common.{◌+◌, [], ◌∷◌, ◌++◌, ◌/◌, sym, ap, ◌∙◌}
use Rattle.content_laws.specs.Answers.{piece_at}
use Rattle.plan_content.proofs.BlockLemmas.{each_more, each_none}
use Rattle.plan_content.proofs.blocks.part_pieces.Goals as goal

pub loop-block-init : goal.loop-block-init
loop-block-init c = c.new-pieces.ensures ∙ sym (each_none (c.args.offset / 4096) (piece_at c.args.held.now c.args.number c.args.offset c.args.count))

pub loop-block-preserved : goal.loop-block-preserved
loop-block-preserved c =
    let f = piece_at c.args.held.now c.args.number c.args.offset c.args.count in
    let first = c.args.offset / 4096 in
    (c.in_ok-push.ensures {u = tt}).ok ∙ ap (λ p. c.loop-block.pieces ++ p ∷ []) c.piece_at.ensures ∙ ap (λ ps. ps ++ f (first + c.loop-block.block) ∷ []) c.loop-block.invariant
    ∙ sym (each_more first f c.loop-block.block)
