use Rattle.std.proofs.Common.{ℕ, [], ◌∷◌, Option, sym, ap, ◌∙◌}
use Rattle.std.specs.Prelude.{is_none}
use Rattle.std.proofs.lemmas.Result.{err_from_is_err_and}
use Rattle.fs_rules.specs.declared.file.File.{File}
use Rattle.fs_rules.specs.Arguments.{Named, looked_up}
use Rattle.fs_rules.specs.Reading.{lookup_checks}
use Rattle.fs_rules.specs.Statuses.{first_failure, fails_where, noent}
use Rattle.fs_checks.specs.Rows.{directory_row}
use Rattle.fs_checks.proofs.FactsLemmas.{named_looks, passed_of, failed_of}
use Rattle.fs_decisions.proofs.RowLemmas.{behind_none, before_some}
use Rattle.fs_tree.proofs.lookup.looked_up.Goals as goal

pub returns-in_err-check_named-clause-fails : goal.returns-in_err-check_named-clause-fails
returns-in_err-check_named-clause-fails c =
    let n : Named = looked_up [] c.args.name.now in
    let d = c.args.dir.now in
    let s = c.in_err-check_named.field-0.0 in
    let p = err_from_is_err_and c.from_residual.result c.from_residual.ensures.1 in
    rw (p.1, p.2) (before_some (directory_row d c.args.cred.now n) (lookup_checks c.args.number d c.args.name.now) s.0
    (failed_of (λ (f : File). directory_row f c.args.cred.now n) (named_looks c.args.cred.now n) d c.of_file.result c.check_named.result c.of_file.ensures c.check_named.ensures s (c.in_err-check_named.was {u = tt})))

pub returns-in-Some-clause-passes : goal.returns-in-Some-clause-passes
unfolding first_failure
returns-in-Some-clause-passes c =
    let n : Named = looked_up [] c.args.name.now in
    let d = c.args.dir.now in
    behind_none (directory_row d c.args.cred.now n) (lookup_checks c.args.number d c.args.name.now)
    (passed_of (λ (f : File). directory_row f c.args.cred.now n) (named_looks c.args.cred.now n) d c.of_file.result c.check_named.result c.of_file.ensures c.check_named.ensures c.in_ok-check_named.field-0
    (c.in_ok-check_named.was {u = tt}))
    ∙ ap (λ (o : Option ℕ). first_failure (fails_where noent (is_none o) ∷ [])) (sym c.target.ensures ∙ c.in-Some.is)

pub returns-in-None-clause-fails : goal.returns-in-None-clause-fails
unfolding first_failure
returns-in-None-clause-fails c =
    let n : Named = looked_up [] c.args.name.now in
    let d = c.args.dir.now in
    behind_none (directory_row d c.args.cred.now n) (lookup_checks c.args.number d c.args.name.now)
    (passed_of (λ (f : File). directory_row f c.args.cred.now n) (named_looks c.args.cred.now n) d c.of_file.result c.check_named.result c.of_file.ensures c.check_named.ensures c.in_ok-check_named.field-0
    (c.in_ok-check_named.was {u = tt}))
    ∙ ap (λ (o : Option ℕ). first_failure (fails_where noent (is_none o) ∷ [])) (sym c.target.ensures ∙ c.in-None.is)
