use Rattle.std.proofs.Common.{◌≡◌, ℕ, ◌+◌, ◌-◌, true, false, cond, [], ◌∷◌, ◌++◌, List, Option, Some, None, sym, ap, subst, ◌∙◌}
use Rattle.std.specs.Prelude.{IfOk}
use Rattle.std.specs.List.{list_any}
use Rattle.std.proofs.lemmas.Result.{err_from_is_err_and}
use Rattle.fs_dir.specs.Slots.{has_name}
use Rattle.plan_rules.specs.declared.look.Look.TheVariants as look
use Rattle.plan_rules.specs.Names.{group_steps}
use Rattle.plan_rules.specs.Steps.{Step, Looks as look_at}
use Rattle.plan_rules.specs.Told.{group_of}
use Rattle.plan_looks.specs.Names.{groups_from, named_in}
use Rattle.plan_looks.proofs.GoesLemmas.{go_nowhere, goes_behind, goes_same, same_steps, stops_at}
use Rattle.plan_looks.proofs.NameLemmas.{no_groups, groups_front, rest_none, rest_some, ends_with, found_first, found_behind, found_nowhere}
use Rattle.plan_looks.proofs.names.+look_in_groups.Goals as goal

pub returns-then-left-eq0-clause-goes : goal.returns-then-left-eq0-clause-goes
returns-then-left-eq0-clause-goes t c =
    let held = c.args.held.now in
    let ends = list_any (has_name c.args.name.now) in
    goes_same held (group_steps held c.args.number ends c.args.group c.args.left) [] c.args.looks.now c.args.looks.now
    (ap (λ l. group_steps held c.args.number ends c.args.group l) c.if-left-eq0.true ∙ no_groups held c.args.number ends c.args.group) (go_nowhere held c.args.looks.now)

pub returns-then-left-eq0-clause-gives : goal.returns-then-left-eq0-clause-gives
returns-then-left-eq0-clause-gives t c =
    let held = c.args.held.now in
    found_nowhere held c.args.number c.args.name.now c.args.group
    ∙ ap (λ l. named_in c.args.name.now (groups_from held c.args.number c.args.group l)) (sym c.if-left-eq0.true)

pub returns-in_err-slots-clause-goes : goal.returns-in_err-slots-clause-goes
returns-in_err-slots-clause-goes t c =
    let held = c.args.held.now in
    let n = c.args.number in
    let g = c.args.group in
    let ends = list_any (has_name c.args.name.now) in
    let p = err_from_is_err_and c.from_residual.result c.from_residual.ensures.1 in
    let one : List Step = look_at (look.Group n g) ∷ [] in
    let rest : List Step = cond (ends (group_of held n g)) [] (group_steps held n ends (g + 1) (c.args.left - 1)) in
    same_steps held (group_steps held n ends g c.args.left) (one ++ rest) c.args.looks.now c.look_group.new.looks c.from_residual.result
    (groups_front held n ends g c.args.left c.if-left-eq0.false)
    (stops_at held one rest c.args.looks.now c.look_group.new.looks c.in_err-slots.field-0.0 p.0 c.from_residual.result p.1 p.2 ((c.in_err-slots.ensures {u = tt}).goes))

pub returns-in-Some-clause-goes : goal.returns-in-Some-clause-goes
returns-in-Some-clause-goes t c =
    let held = c.args.held.now in
    let n = c.args.number in
    let g = c.args.group in
    let ends = list_any (has_name c.args.name.now) in
    let one : List Step = look_at (look.Group n g) ∷ [] in
    let rest = group_steps held n ends (g + 1) (c.args.left - 1) in
    let looked = c.named_in.ensures ∙ ap (named_in c.args.name.now) ((c.in_ok-slots.ensures {u = tt}).gives) in
    let ended : ends (group_of held n g) ≡ true = ends_with held n c.args.name.now (group_of held n g) (Some c.in-Some.file) (sym looked ∙ c.in-Some.is) in
    goes_same held (group_steps held n ends g c.args.left) one c.args.looks.now c.look_group.new.looks
    (groups_front held n ends g c.args.left c.if-left-eq0.false ∙ ap (λ ss. one ++ ss) (rest_none held n ends g rest ended)) ((c.in_ok-slots.ensures {u = tt}).goes)

pub returns-in-Some-clause-gives : goal.returns-in-Some-clause-gives
returns-in-Some-clause-gives t c =
    let held = c.args.held.now in
    let looked = c.named_in.ensures ∙ ap (named_in c.args.name.now) ((c.in_ok-slots.ensures {u = tt}).gives) in
    found_first held c.args.number c.args.name.now c.args.group c.args.left c.if-left-eq0.false c.in-Some.file (sym looked ∙ c.in-Some.is)

pub returns-in-None-clause-goes : goal.returns-in-None-clause-goes
returns-in-None-clause-goes t c =
    let held = c.args.held.now in
    let n = c.args.number in
    let g = c.args.group in
    let ends = list_any (has_name c.args.name.now) in
    let one : List Step = look_at (look.Group n g) ∷ [] in
    let rest = group_steps held n ends (g + 1) (c.args.left - 1) in
    let looked = c.named_in.ensures ∙ ap (named_in c.args.name.now) ((c.in_ok-slots.ensures {u = tt}).gives) in
    let goes_on : ends (group_of held n g) ≡ false = ends_with held n c.args.name.now (group_of held n g) None (sym looked ∙ c.in-None.is) in
    same_steps held (group_steps held n ends g c.args.left) (one ++ rest) c.args.looks.now c.look_in_groups.new.looks c.look_in_groups.result
    (groups_front held n ends g c.args.left c.if-left-eq0.false ∙ ap (λ ss. one ++ ss) (rest_some held n ends g rest goes_on))
    (goes_behind held one rest c.args.looks.now c.look_group.new.looks c.look_in_groups.new.looks c.look_in_groups.result ((c.in_ok-slots.ensures {u = tt}).goes) c.look_in_groups.ensures.goes)

pub returns-in-None-clause-gives : goal.returns-in-None-clause-gives
returns-in-None-clause-gives t c =
    let looked = c.named_in.ensures ∙ ap (named_in c.args.name.now) ((c.in_ok-slots.ensures {u = tt}).gives) in
    subst (λ (o : Option ℕ). IfOk c.look_in_groups.result (λ m. m ≡ o))
    (found_behind c.args.held.now c.args.number c.args.name.now c.args.group c.args.left c.if-left-eq0.false (sym looked ∙ c.in-None.is)) c.look_in_groups.ensures.gives
