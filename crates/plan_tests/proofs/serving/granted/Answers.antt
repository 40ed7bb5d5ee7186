use Rattle.std.proofs.Common.{ap, sym, ◌∙◌}
use Rattle.std.specs.List.{list_all}
use Rattle.plan_tests.specs.Within.{is_within}
use Rattle.plan_tests.proofs.StepLemmas.{all_within, reads_sized}
use Rattle.plan_tests.proofs.serving.granted.Goals as goal

pub perform-requires : goal.perform-requires
perform-requires c =
    all_within c.args.flat.now c.args.mini.now
    (ap (λ items. list_all (is_within c.args.flat.now) items) (sym (c.as_slice.ensures.value ∙ c.items.ensures)) ∙ sym c.are_within.ensures
    ∙ c.if-not-are_within.false)

pub returns : goal.returns
returns c rs is =
    reads_sized c.args.flat.now c.args.mini.now
    (all_within c.args.flat.now c.args.mini.now
    (ap (λ items. list_all (is_within c.args.flat.now) items) (sym (c.as_slice.ensures.value ∙ c.items.ensures)) ∙ sym c.are_within.ensures
    ∙ c.if-not-are_within.false))
    rs ((c.perform.ensures.performed rs is).1)
