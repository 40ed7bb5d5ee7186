use Rattle.std.proofs.Common.{inl, inr, sym, ◌∙◌}
use Rattle.std.proofs.lemmas.Result.{err_from_is_err_and}
use Rattle.fs_decisions.proofs.RemoveLemmas.{removal_argument, removal_refused, removal_spent, may_remove}
use Rattle.fs_decisions.proofs.remove.removed.Goals as goal
use Rattle.fs_decisions.proofs.remove.removed.Goals.{then-is_last-via-then-is_last, then-is_last-via-else-is_last+then-is_spent}

pub returns-in_err-dir-clause-err : goal.returns-in_err-dir-clause-err
returns-in_err-dir-clause-err c =
    let p = err_from_is_err_and c.from_residual.result c.from_residual.ensures.1 in
    rw (p.1, p.2) (λ now start. removal_argument c.args.tree.now c.args.removal c.args.handle.now c.args.name.now c.args.cred.now now start c.in_err-dir.field-0.0.0 ((c.in_err-dir.ensures {u = tt}).fails))

pub returns-in_err-file-clause-err : goal.returns-in_err-file-clause-err
returns-in_err-file-clause-err c =
    let p = err_from_is_err_and c.from_residual-in_err-file.result c.from_residual-in_err-file.ensures.1 in
    rw (p.1, p.2) (λ now start. removal_refused c.args.tree.now c.args.removal c.args.handle.now c.args.name.now c.args.cred.now now start c.in_ok-dir.dir.now
    ((c.in_ok-dir.ensures {u = tt}).there) ((c.in_ok-dir.ensures {u = tt}).passes) c.in_err-file.field-0.0.0 ((c.in_err-file.ensures {u = tt}).fails))

pub returns-then-is_last-clause-err : goal.returns-then-is_last-clause-err
returns-then-is_last-clause-err c now start =
    removal_spent c.args.tree.now c.args.removal c.args.handle.now c.args.name.now c.args.cred.now now start c.in_ok-dir.dir.now
    ((c.in_ok-dir.ensures {u = tt}).there) ((c.in_ok-dir.ensures {u = tt}).passes) c.requires c.in_ok-file.file
    ((c.in_ok-file.ensures {u = tt}).named) ((c.in_ok-file.ensures {u = tt}).passes)
    (elim c.then-is_last.branch [
      | then-is_last-via-then-is_last w ↦ inl (sym c.is_last.ensures.value ∙ w.if-is_last.true)
      | then-is_last-via-else-is_last+then-is_spent w ↦ inr (λ f there. sym (w.is_spent.ensures.value f there) ∙ w.if-is_spent.true)
    ])

pub returns-clause-ok : goal.returns-clause-ok
returns-clause-ok c now start =
    may_remove c.args.tree.now c.args.removal c.args.handle.now c.args.name.now c.args.cred.now now start c.in_ok-dir.dir.now
    ((c.in_ok-dir.ensures {u = tt}).there) ((c.in_ok-dir.ensures {u = tt}).passes) c.requires c.in_ok-file.file
    ((c.in_ok-file.ensures {u = tt}).named) ((c.in_ok-file.ensures {u = tt}).passes)
    (sym c.is_last.ensures.value ∙ c.if-is_last.false) (c.is_last.ensures.rises c.if-is_last.false)
    (λ f there. sym (c.is_spent.ensures.value f there) ∙ c.if-is_spent.false) (c.is_spent.ensures.rises c.if-is_spent.false)
