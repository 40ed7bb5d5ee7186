use Rattle.std.proofs.Common.{take, min, sym, ap, ◌∙◌}
use Rattle.std.specs.Prelude.{box_value}
use Rattle.std.proofs.lemmas.List.{take-map, length-map}
use Rattle.mem_rules.specs.Records.{unboxed}
use Rattle.mem_rules.proofs.AnswerLemmas.{least_taken}
use Rattle.mem_rules.proofs.records.first.Goals as goal

pub returns : goal.returns
returns c =
    let kept = unboxed c.args.kept.now in
    sym (take-map box_value c.min.result c.args.kept.now)
    ∙ ap (λ n. take n kept) (c.min.ensures ∙ ap (λ n. min n c.args.limit) (sym (length-map c.args.kept.now box_value)))
    ∙ least_taken kept c.args.limit
