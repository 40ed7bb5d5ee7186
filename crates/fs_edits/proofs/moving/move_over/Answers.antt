use Rattle.std.proofs.Common.{sym, ◌∙◌}
use Rattle.fs_edits.proofs.MakingLemmas.{where_err, where_ok}
use Rattle.fs_edits.proofs.MovingLemmas.{can_move_still, kept_back, freed_is}
use Rattle.fs_edits.proofs.moving.move_over.Goals as goal

pub move_name-requires : goal.move_name-requires
move_name-requires c =
    let m = c.requires.moves.0 in
    let can = c.requires.moves.1 in
    let r = c.requires.moves.2 in
    (m, can_move_still c.args.tree.now c.keep.new.tree c.args.plan m c.args.from_name.now c.args.to_name.now _ ((c.in_ok-keep.ensures {u = tt}).ok r.0 r.1) can)

pub returns-then-is_err-clause-err : goal.returns-then-is_err-clause-err
returns-then-is_err-clause-err c =
    let r = c.requires.moves.2 in
    kept_back c.args.tree.now c.keep.new.tree c.move_name.new.tree c.args.replaced r.0 c.remove.new.self c.requires.good r.1 ((c.in_ok-keep.ensures {u = tt}).ok r.0 r.1)
    (where_err c.move_name.result (sym c.is_err.ensures.value ∙ c.if-is_err.true) c.move_name.ensures.err) c.remove.ensures.removed

pub returns-clause-ok : goal.returns-clause-ok
returns-clause-ok c m can r =
    let kept = (c.in_ok-keep.ensures {u = tt}).ok r.0 r.1 in
    let still = can_move_still c.args.tree.now c.keep.new.tree c.args.plan m c.args.from_name.now c.args.to_name.now _ kept can in
    freed_is c.args.now c.args.tree.now c.keep.new.tree c.move_name.new.tree m c.args.replaced r.0 c.remove-2.new.self r.6 kept
    (where_ok c.move_name.result (sym c.is_err.ensures.value ∙ c.if-is_err.false) (c.move_name.ensures.ok m still)) c.remove-2.ensures.removed
