use Rattle.std.proofs.Common.{arith}
use Rattle.fs_content.proofs.PieceLemmas.{piece_appended}
use Rattle.fs_content.proofs.pieces.append_piece.Goals as goal

pub returns-clause-items : goal.returns-clause-items
returns-clause-items c =
    piece_appended c.args.block.now c.args.from c.args.count c.min.result c.min-end.result c.min-end.ensures c.min.ensures c.args.bytes.now.items
    c.extend_from_slice.new.self.items c.resize.new.self.items _ _ _ (omega arith) (omega arith) c.in_ok-extend_from_slice.ensures.items
    c.in_ok-extend_from_slice.ensures.len c.in_ok-resize.ensures.items
