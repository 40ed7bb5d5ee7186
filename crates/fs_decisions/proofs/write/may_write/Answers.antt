use Rattle.std.proofs.Common.{sym, ap, ◌∙◌}
use Rattle.std.proofs.lemmas.Result.{err_from_is_err_and}
use Rattle.fs_rules.specs.declared.file.File.{File}
use Rattle.fs_rules.specs.Writing.{write_checks}
use Rattle.fs_checks.proofs.FactsLemmas.{write_looks, passed_of, failed_of}
use Rattle.fs_decisions.specs.Steps.{refused}
use Rattle.fs_decisions.proofs.WriteLemmas.{write_absent, write_refused}
use Rattle.fs_decisions.proofs.write.may_write.Goals as goal

pub returns-in_err-file-clause-err : goal.returns-in_err-file-clause-err
returns-in_err-file-clause-err c =
    let p = err_from_is_err_and c.from_residual.result c.from_residual.ensures.1 in
    let k = c.in_err-file.ensures {u = tt} in
    rw (p.1, p.2) (λ now begin total start. write_absent c.args.tree.now c.args.handle.now begin c.args.offset total c.args.bytes.now c.args.cred.now now start k.none ∙ ap (refused c.args.tree.now) (sym k.stale))

pub returns-in_err-check_write-clause-err : goal.returns-in_err-check_write-clause-err
returns-in_err-check_write-clause-err c =
    let f = c.in_ok-file.file.now in
    let s = c.in_err-check_write.field-0.0 in
    let p = err_from_is_err_and c.from_residual-in_err-check_write.result c.from_residual-in_err-check_write.ensures.1 in
    rw (p.1, p.2) (λ now begin total start. write_refused c.args.tree.now c.args.handle.now begin c.args.offset total c.args.bytes.now c.args.cred.now now start f ((c.in_ok-file.ensures {u = tt}).there) s.0
    (failed_of (λ (f : File). write_checks f c.args.cred.now c.args.offset c.args.bytes.now) (write_looks c.args.cred.now c.args.offset c.args.bytes.now) f c.of_file.result c.check_write.result c.of_file.ensures
    c.check_write.ensures s (c.in_err-check_write.was {u = tt})))

pub returns-clause-checked : goal.returns-clause-checked
returns-clause-checked c =
    passed_of (λ (f : File). write_checks f c.args.cred.now c.args.offset c.args.bytes.now) (write_looks c.args.cred.now c.args.offset c.args.bytes.now) c.in_ok-file.file.now c.of_file.result c.check_write.result c.of_file.ensures
    c.check_write.ensures c.in_ok-check_write.field-0 (c.in_ok-check_write.was {u = tt})
