use Rattle.std.proofs.Common.{◌≡◌, None, sym, ap, ◌∙◌}
use Rattle.std.proofs.lemmas.Result.{err_from_is_err_and}
use Rattle.fs_rules.specs.declared.file.File.{File}
use Rattle.fs_rules.specs.Attributes.{set_attr_checks}
use Rattle.fs_rules.specs.Statuses.{first_failure}
use Rattle.fs_checks.proofs.FactsLemmas.{set_attr_looks, passed_of, failed_of, failed}
use Rattle.fs_decisions.specs.Steps.{refused}
use Rattle.fs_decisions.specs.Limits.{change_limits}
use Rattle.fs_decisions.proofs.SetAttrLemmas.{set_attr_absent, set_attr_refused, set_attr_limited}
use Rattle.fs_decisions.proofs.set_attr.may_set_attr.Goals as goal

pub returns-in_err-file-clause-err : goal.returns-in_err-file-clause-err
returns-in_err-file-clause-err c =
    let p = err_from_is_err_and c.from_residual.result c.from_residual.ensures.1 in
    let k = c.in_err-file.ensures {u = tt} in
    rw (p.1, p.2) (λ now start. set_attr_absent c.args.tree.now c.args.handle.now c.args.set.now c.args.cred.now now start k.none ∙ ap (refused c.args.tree.now) (sym k.stale))

pub returns-in_err-check_set_attr-clause-err : goal.returns-in_err-check_set_attr-clause-err
returns-in_err-check_set_attr-clause-err c =
    let f = c.in_ok-file.file.now in
    let s = c.in_err-check_set_attr.field-0.0 in
    let p = err_from_is_err_and c.from_residual-in_err-check_set_attr.result c.from_residual-in_err-check_set_attr.ensures.1 in
    rw (p.1, p.2) (λ now start. set_attr_refused c.args.tree.now c.args.handle.now c.args.set.now c.args.cred.now now start f ((c.in_ok-file.ensures {u = tt}).there) s.0
    (failed_of (λ (f : File). set_attr_checks f c.args.set.now c.args.cred.now) (set_attr_looks c.args.set.now c.args.cred.now) f c.of_file.result c.check_set_attr.result c.of_file.ensures
    c.check_set_attr.ensures s (c.in_err-check_set_attr.was {u = tt})))

pub returns-in_err-check_limits-clause-err : goal.returns-in_err-check_limits-clause-err
returns-in_err-check_limits-clause-err c =
    let t = c.args.tree.now in
    let f = c.in_ok-file.file.now in
    let s = c.in_err-check_limits.field-0.0 in
    let p = err_from_is_err_and c.from_residual-in_err-check_limits.result c.from_residual-in_err-check_limits.ensures.1 in
    let checked : first_failure (set_attr_checks f c.args.set.now c.args.cred.now) ≡ None =
    passed_of (λ (f : File). set_attr_checks f c.args.set.now c.args.cred.now) (set_attr_looks c.args.set.now c.args.cred.now) f c.of_file.result c.check_set_attr.result c.of_file.ensures
    c.check_set_attr.ensures c.in_ok-check_set_attr.field-0 (c.in_ok-check_set_attr.was {u = tt}) in
    rw (p.1, p.2) (λ now start. set_attr_limited t c.args.handle.now c.args.set.now c.args.cred.now now start f ((c.in_ok-file.ensures {u = tt}).there) checked c.requires
    (sym c.sets_something.ensures ∙ c.if-sets_something.true) s.0
    (failed (change_limits t f.change 0) c.check_limits.result s c.check_limits.ensures.exact (c.in_err-check_limits.was {u = tt})))

pub returns-clause-checked : goal.returns-clause-checked
returns-clause-checked c =
    passed_of (λ (f : File). set_attr_checks f c.args.set.now c.args.cred.now) (set_attr_looks c.args.set.now c.args.cred.now) c.in_ok-file.file.now c.of_file.result c.check_set_attr.result c.of_file.ensures
    c.check_set_attr.ensures c.in_ok-check_set_attr.field-0 (c.in_ok-check_set_attr.was {u = tt})
