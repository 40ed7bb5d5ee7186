use Rattle.std.proofs.Common.{◌∙◌}
use Rattle.plan_rules.specs.Compared.{is_same, subject_of}
use Rattle.plan_looks.proofs.CompareLemmas.{any_map}
use Rattle.plan_looks.proofs.comparing.is_among.Goals as goal

pub returns : goal.returns
returns c = c.has_same.ensures ∙ any_map (is_same (subject_of c.args.look)) subject_of c.args.looks.now
