use Rattle.std.proofs.Common.{refl, subst}
use Rattle.std.proofs.lemmas.Result.{err_from_is_err_and}
use Rattle.nfs_proto.specs.declared.answer.Answer.TheVariants.{Plain}
use Rattle.nfs_proto.specs.declared.call.Call.TheVariants.{Rename}
use Rattle.fs_decisions.specs.Renaming.{Decides}
use Rattle.fs_tree.proofs.MeetsLemmas.{meets_told}
use Rattle.fs_tree.proofs.MovedLemmas.{meets_moved}
use Rattle.fs_tree.proofs.rename.rename.Goals as goal

pub returns-in_err-decision-clause-meets : goal.returns-in_err-decision-clause-meets
returns-in_err-decision-clause-meets c start =
    let p = err_from_is_err_and c.from_residual.result c.from_residual.ensures.1 in
    rw (p.1, p.2) ((c.in_err-decision.ensures {u = tt}).err c.args.now start)

pub returns-in-Same-clause-meets : goal.returns-in-Same-clause-meets
returns-in-Same-clause-meets c start =
    let same = subst (Decides c.args.tree.now c.args.from.now c.args.from_name.now c.args.to.now c.args.to_name.now c.args.cred.now) c.in-Same.is ((c.in_ok-decision.ensures {u = tt}).ok) in
    meets_told c.args.tree.now _ Plain c.told.result (same c.args.now start) c.told.ensures.answer c.told.ensures.change

pub carry_over-requires-clause-moves : goal.carry_over-requires-clause-moves
carry_over-requires-clause-moves c =
    let moves = subst (Decides c.args.tree.now c.args.from.now c.args.from_name.now c.args.to.now c.args.to_name.now c.args.cred.now) c.in-Moves.is ((c.in_ok-decision.ensures {u = tt}).ok) in
    let may = moves c.args.now 0 in
    (may.move, may.can, may.replacing)

pub returns-in_ok-carry_over-in-Moves-clause-meets : goal.returns-in_ok-carry_over-in-Moves-clause-meets
returns-in_ok-carry_over-in-Moves-clause-meets c start =
    let moves = subst (Decides c.args.tree.now c.args.from.now c.args.from_name.now c.args.to.now c.args.to_name.now c.args.cred.now) c.in-Moves.is ((c.in_ok-decision.ensures {u = tt}).ok) in
    let may = moves c.args.now start in
    meets_moved c.args.tree.now c.carry_over.new.tree (Rename c.args.from.now c.args.from_name.now c.args.to.now c.args.to_name.now) c.args.now may.move c.in-Moves.plan
    c.args.from_name.now c.args.to_name.now _ _ may.can may.replacing may.other may.answers (λ u. refl)
    ((c.in_ok-carry_over-in-Moves.ensures {u = tt}).ok may.move may.can may.replacing) c.done.ensures.answer c.done.ensures.change
