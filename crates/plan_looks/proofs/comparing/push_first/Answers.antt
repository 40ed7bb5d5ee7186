use Rattle.std.proofs.Common.{List, map, sym, ap, ◌∙◌}
use Rattle.std.specs.List.{list_any}
use Rattle.plan_rules.specs.declared.look.Look.{Look}
use Rattle.plan_rules.specs.Compared.{is_same, subject_of}
use Rattle.plan_looks.proofs.CompareLemmas.{adds_none, adds_first, on_ok}
use Rattle.plan_looks.proofs.comparing.push_first.Goals as goal

pub returns-then-is_among : goal.returns-then-is_among
returns-then-is_among c =
    adds_none c.args.held.now c.args.looks.now c.args.firsts.now c.args.look c.args.items.now
    (sym (ap (λ (ls : List Look). list_any (is_same (subject_of c.args.look)) (map subject_of ls)) c.as_slice.ensures.value) ∙ sym c.is_among.ensures ∙ c.if-is_among.true)

pub returns : goal.returns
returns c =
    on_ok c.push.result c.push.ensures.ok
    (adds_first c.args.held.now c.args.looks.now c.args.firsts.now c.args.look c.args.items.now c.push_compares.new.items c.push.new.self
    (sym (ap (λ (ls : List Look). list_any (is_same (subject_of c.args.look)) (map subject_of ls)) c.as_slice.ensures.value) ∙ sym c.is_among.ensures ∙ c.if-is_among.false)
    (c.in_ok-push_compares.ensures {u = tt}))
