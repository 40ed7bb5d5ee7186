use Rattle.std.proofs.Common.{◌+◌, ◌++◌, drop, sym, ap, ◌∙◌, arith}
use Rattle.std.proofs.lemmas.List.{drop_all}
use Rattle.plan_forms.specs.Forms.{joined_from}
use Rattle.plan_forms.proofs.JoinLemmas.{piece_joined, all_joined}
use Rattle.plan_forms.proofs.joining.joined.Goals as goal

pub loop-piece-preserved : goal.loop-piece-preserved
loop-piece-preserved c =
    let reads = c.args.reads.now in
    let pieces = c.args.pieces.now in
    let step = piece_joined reads (joined_from reads 0 pieces) c.loop-piece.bytes.items c.loop-piece.taken pieces c.loop-piece.piece-index c.loop-piece.invariant.joined
    _ c.push_piece.new.bytes.items c.loop-piece-test.true (c.in_ok-push_piece.ensures {u = tt}) in
    record {
      joined = step ∙ ap (λ n. c.push_piece.new.bytes.items ++ joined_from reads (c.loop-piece.taken + n) (drop (c.loop-piece.piece-index + 1) pieces)) (sym c.reads_of-taken.ensures.exact);
      few = omega (arith, c.reads_of-taken.ensures.few);
    }

pub returns : goal.returns
returns c =
    let reads = c.args.reads.now in
    let pieces = c.args.pieces.now in
    c.from.ensures
    ∙ all_joined reads (joined_from reads 0 pieces) c.loop-piece.bytes.items c.loop-piece.taken pieces c.loop-piece.piece-index c.loop-piece.invariant.joined
    (drop_all c.loop-piece.piece-index pieces c.loop-piece-test.false)
