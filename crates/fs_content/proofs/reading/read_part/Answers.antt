use Rattle.std.proofs.Common.{arith, sym, ap, ◌∙◌}
use Rattle.fs_rules.specs.Contents.{part}
use Rattle.fs_content.proofs.PartLemmas.{part_none, part_more}
use Rattle.fs_content.proofs.reading.read_part.Goals as goal

pub loop-bytes-init : goal.loop-bytes-init
loop-bytes-init c = record {
  read = c.in_ok-bytes.ensures.items ∙ sym (part_none c.args.blocks.now c.args.offset) ∙ ap (part c.args.blocks.now c.args.offset) (sym c.in_ok-bytes.ensures.len);
  within = omega (arith, c.in_ok-bytes.ensures.len);
}

pub loop-bytes-preserved : goal.loop-bytes-preserved
loop-bytes-preserved c = record {
  read =
      part_more c.args.blocks.now c.args.offset c.len-read.result c.min-length.result _ _ _ c.stored_block-block.result.now
      (c.loop-bytes.invariant.read ∙ ap (part c.args.blocks.now c.args.offset) (sym c.len-read.ensures)) c.stored_block-block.ensures
      c.in_ok-append_piece.ensures.items (omega arith) (omega (arith, c.in_ok-append_piece.ensures.len));
  within = omega (arith, c.in_ok-append_piece.ensures.len);
}
