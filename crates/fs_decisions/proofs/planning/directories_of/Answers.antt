use Rattle.std.proofs.Common.{◌≡◌, List, Some, sym, ap, ◌∙◌}
use Rattle.std.proofs.lemmas.Result.{err_from_is_err_and}
use Rattle.fs_rules.specs.Statuses.{Check, first_failure}
use Rattle.fs_checks.specs.declared.facts.Facts.{Facts}
use Rattle.fs_checks.specs.Facts.{bare, facts_of}
use Rattle.fs_checks.specs.Rows.{pair_row}
use Rattle.fs_checks.specs.Verdict.{verdict}
use Rattle.fs_checks.proofs.FactsLemmas.{pair_looks, passed, failed}
use Rattle.fs_decisions.proofs.PairLemmas.{pair_no_from, pair_no_to, pair_there}
use Rattle.fs_decisions.proofs.planning.directories_of.Goals as goal

pub returns-in_err-from_dir-clause-fails : goal.returns-in_err-from_dir-clause-fails
returns-in_err-from_dir-clause-fails c =
    let p = err_from_is_err_and c.from_residual.result c.from_residual.ensures.1 in
    let k = c.in_err-from_dir.ensures {u = tt} in
    rw (p.1, p.2) (pair_no_from c.args.tree.now c.args.from.now c.args.from_name.now c.args.to.now c.args.to_name.now c.args.cred.now k.none ∙ ap Some (sym k.stale))

pub returns-in_err-to_dir-clause-fails : goal.returns-in_err-to_dir-clause-fails
returns-in_err-to_dir-clause-fails c =
    let p = err_from_is_err_and c.from_residual-in_err-to_dir.result c.from_residual-in_err-to_dir.ensures.1 in
    let k = c.in_err-to_dir.ensures {u = tt} in
    rw (p.1, p.2) (pair_no_to c.args.tree.now c.args.from.now c.args.from_name.now c.args.to.now c.args.to_name.now c.args.cred.now c.in_ok-from_dir.from_dir.now ((c.in_ok-from_dir.ensures {u = tt}).there) k.none
    ∙ ap Some (sym k.stale))

pub returns-in_err-check_pair-clause-fails : goal.returns-in_err-check_pair-clause-fails
returns-in_err-check_pair-clause-fails c =
    let from_name = c.args.from_name.now in
    let to_name = c.args.to_name.now in
    let cred = c.args.cred.now in
    let a = c.in_ok-from_dir.from_dir.now in
    let b = c.in_ok-to_dir.to_dir.now in
    let p = err_from_is_err_and c.from_residual-in_err-check_pair.result c.from_residual-in_err-check_pair.ensures.1 in
    let decides : c.check_pair.result ≡ verdict (first_failure (pair_row a from_name b to_name cred)) =
    c.check_pair.ensures
    ∙ ap (λ (x : Facts). verdict (first_failure (pair_row (bare x) from_name (bare c.of_file-to_facts.result) to_name cred))) c.of_file-from_facts.ensures
    ∙ ap (λ (y : Facts). verdict (first_failure (pair_row (bare (facts_of a)) from_name (bare y) to_name cred))) c.of_file-to_facts.ensures
    ∙ ap (λ (l : List Check). verdict (first_failure l)) (pair_looks cred a b from_name to_name) in
    rw (p.1, p.2) (pair_there c.args.tree.now c.args.from.now from_name c.args.to.now to_name cred a b ((c.in_ok-from_dir.ensures {u = tt}).there) ((c.in_ok-to_dir.ensures {u = tt}).there)
    ∙ failed (first_failure (pair_row a from_name b to_name cred)) c.check_pair.result c.in_err-check_pair.field-0.0 decides (c.in_err-check_pair.was {u = tt}))

pub returns-clause-passes : goal.returns-clause-passes
returns-clause-passes c =
    let from_name = c.args.from_name.now in
    let to_name = c.args.to_name.now in
    let cred = c.args.cred.now in
    let a = c.in_ok-from_dir.from_dir.now in
    let b = c.in_ok-to_dir.to_dir.now in
    let decides : c.check_pair.result ≡ verdict (first_failure (pair_row a from_name b to_name cred)) =
    c.check_pair.ensures
    ∙ ap (λ (x : Facts). verdict (first_failure (pair_row (bare x) from_name (bare c.of_file-to_facts.result) to_name cred))) c.of_file-from_facts.ensures
    ∙ ap (λ (y : Facts). verdict (first_failure (pair_row (bare (facts_of a)) from_name (bare y) to_name cred))) c.of_file-to_facts.ensures
    ∙ ap (λ (l : List Check). verdict (first_failure l)) (pair_looks cred a b from_name to_name) in
    passed (first_failure (pair_row a from_name b to_name cred)) c.check_pair.result c.in_ok-check_pair.field-0 decides (c.in_ok-check_pair.was {u = tt})
