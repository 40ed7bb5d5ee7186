use Rattle.std.proofs.Common.{Bool, List, ap, ◌∙◌}
use Rattle.fs_rules.specs.Statuses.{Check, first_failure}
use Rattle.fs_rules.specs.Names.{link_checks}
use Rattle.fs_checks.specs.declared.facts.Facts.{Facts}
use Rattle.fs_checks.specs.Facts.{bare, facts_of}
use Rattle.fs_checks.specs.Naming.{link_row}
use Rattle.fs_checks.specs.Verdict.{verdict}
use Rattle.fs_checks.proofs.FactsLemmas.{link_looks}
use Rattle.fs_decisions.proofs.link.check_name_free.Goals as goal

pub returns : goal.returns
unfolding link_checks
returns c =
    c.check_link.ensures
    ∙ ap (λ (x : Facts). verdict (first_failure (link_row (bare x) c.is_taken.result))) c.of_file.ensures
    ∙ ap (λ (b : Bool). verdict (first_failure (link_row (bare (facts_of c.args.file.now)) b))) c.is_taken.ensures
    ∙ ap (λ (l : List Check). verdict (first_failure l)) (link_looks _ c.args.file.now)
