use Rattle.std.proofs.Common.{◌+◌, ◌-◌, false, Bool, [], ◌∷◌, ◌++◌, List, ap, ◌∙◌}
use Rattle.std.proofs.lemmas.Result.{err_from_is_err_and}
use Rattle.fs_dir.specs.declared.slot.Slot.{Slot}
use Rattle.plan_rules.specs.declared.look.Look.TheVariants as look
use Rattle.plan_rules.specs.Names.{group_steps}
use Rattle.plan_rules.specs.Steps.{Step, Looks as look_at}
use Rattle.plan_looks.proofs.GoesLemmas.{go_nowhere, goes_behind, goes_same, same_steps, stops_at}
use Rattle.plan_looks.proofs.NameLemmas.{no_groups, groups_front}
use Rattle.plan_looks.proofs.names.+look_at_groups.Goals as goal

abbrev none_ends : List Slot → Bool
none_ends slots = false

pub returns-then-left-eq0 : goal.returns-then-left-eq0
returns-then-left-eq0 t c =
    let held = c.args.held.now in
    goes_same held (group_steps held c.args.number none_ends c.args.group c.args.left) [] c.args.looks.now c.args.looks.now
    (ap (λ l. group_steps held c.args.number none_ends c.args.group l) c.if-left-eq0.true ∙ no_groups held c.args.number none_ends c.args.group) (go_nowhere held c.args.looks.now)

pub returns-in_err-look_group : goal.returns-in_err-look_group
returns-in_err-look_group t c =
    let held = c.args.held.now in
    let p = err_from_is_err_and c.from_residual.result c.from_residual.ensures.1 in
    let one : List Step = look_at (look.Group c.args.number c.args.group) ∷ [] in
    let rest = group_steps held c.args.number none_ends (c.args.group + 1) (c.args.left - 1) in
    same_steps held (group_steps held c.args.number none_ends c.args.group c.args.left) (one ++ rest) c.args.looks.now c.look_group.new.looks c.from_residual.result
    (groups_front held c.args.number none_ends c.args.group c.args.left c.if-left-eq0.false)
    (stops_at held one rest c.args.looks.now c.look_group.new.looks c.in_err-look_group.field-0.0 p.0 c.from_residual.result p.1 p.2 ((c.in_err-look_group.ensures {u = tt}).goes))

pub returns : goal.returns
returns t c =
    let held = c.args.held.now in
    let one : List Step = look_at (look.Group c.args.number c.args.group) ∷ [] in
    let rest = group_steps held c.args.number none_ends (c.args.group + 1) (c.args.left - 1) in
    same_steps held (group_steps held c.args.number none_ends c.args.group c.args.left) (one ++ rest) c.args.looks.now c.look_at_groups.new.looks c.look_at_groups.result
    (groups_front held c.args.number none_ends c.args.group c.args.left c.if-left-eq0.false)
    (goes_behind held one rest c.args.looks.now c.look_group.new.looks c.look_at_groups.new.looks c.look_at_groups.result ((c.in_ok-look_group.ensures {u = tt}).goes) c.look_at_groups.ensures)
