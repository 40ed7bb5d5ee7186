use Rattle.std.proofs.Common.{Bool, List, ap, ◌∙◌}
use Rattle.fs_rules.specs.Statuses.{Check, first_failure}
use Rattle.fs_checks.specs.declared.facts.Facts.{Facts}
use Rattle.fs_checks.specs.Facts.{bare, facts_of}
use Rattle.fs_checks.specs.Naming.{over_row}
use Rattle.fs_checks.specs.Verdict.{verdict}
use Rattle.fs_checks.proofs.FactsLemmas.{over_looks}
use Rattle.fs_decisions.proofs.planning.check_over.Goals as goal

pub returns : goal.returns
returns c =
    c.check_over.ensures
    ∙ ap (λ (x : Facts). verdict (first_failure (over_row c.args.is_dir (bare x) c.has_names.result))) c.of_file.ensures
    ∙ ap (λ (b : Bool). verdict (first_failure (over_row c.args.is_dir (bare (facts_of c.args.replaced.now)) b))) c.has_names.ensures
    ∙ ap (λ (l : List Check). verdict (first_failure l)) (over_looks c.args.is_dir _ c.args.replaced.now)
