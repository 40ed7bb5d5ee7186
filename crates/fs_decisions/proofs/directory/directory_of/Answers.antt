use Rattle.std.proofs.Common.{Some, sym, ap, ◌∙◌}
use Rattle.std.proofs.lemmas.Result.{err_from_is_err_and}
use Rattle.fs_rules.specs.declared.file.File.{File}
use Rattle.fs_rules.specs.Arguments.{Named}
use Rattle.fs_checks.specs.Rows.{directory_row}
use Rattle.fs_checks.proofs.FactsLemmas.{named_looks, passed_of, failed_of}
use Rattle.fs_decisions.specs.Steps.{named}
use Rattle.fs_decisions.proofs.DirectoryLemmas.{named_absent, named_there}
use Rattle.fs_decisions.proofs.directory.directory_of.Goals as goal

pub returns-in_err-dir-clause-fails : goal.returns-in_err-dir-clause-fails
returns-in_err-dir-clause-fails c =
    let p = err_from_is_err_and c.from_residual.result c.from_residual.ensures.1 in
    let k = c.in_err-dir.ensures {u = tt} in
    rw (p.1, p.2) (named_absent c.args.tree.now c.args.cred.now (named c.args.handle.now.0 c.args.name.now c.args.unfit.0) k.none ∙ ap Some (sym k.stale))

pub returns-in_err-check_named-clause-fails : goal.returns-in_err-check_named-clause-fails
returns-in_err-check_named-clause-fails c =
    let n : Named = named c.args.handle.now.0 c.args.name.now c.args.unfit.0 in
    let d = c.in_ok-dir.dir.now in
    let p = err_from_is_err_and c.from_residual-in_err-check_named.result c.from_residual-in_err-check_named.ensures.1 in
    rw (p.1, p.2)
    (named_there c.args.tree.now c.args.cred.now n d ((c.in_ok-dir.ensures {u = tt}).there)
    ∙ failed_of (λ (f : File). directory_row f c.args.cred.now n) (named_looks c.args.cred.now n) d c.of_file.result c.check_named.result c.of_file.ensures c.check_named.ensures
    c.in_err-check_named.field-0.0 (c.in_err-check_named.was {u = tt}))

pub returns-clause-passes : goal.returns-clause-passes
returns-clause-passes c =
    let n : Named = named c.args.handle.now.0 c.args.name.now c.args.unfit.0 in
    let d = c.in_ok-dir.dir.now in
    named_there c.args.tree.now c.args.cred.now n d ((c.in_ok-dir.ensures {u = tt}).there)
    ∙ passed_of (λ (f : File). directory_row f c.args.cred.now n) (named_looks c.args.cred.now n) d c.of_file.result c.check_named.result c.of_file.ensures c.check_named.ensures
    c.in_ok-check_named.field-0 (c.in_ok-check_named.was {u = tt})
