use Rattle.std.proofs.Common.{◌≡◌, ℕ, Option, sym, ap, subst, ◌∙◌}
use Rattle.std.specs.Prelude.{IfOk}
use Rattle.std.specs.List.{list_any}
use Rattle.std.proofs.lemmas.Result.{err_from_is_err_and}
use Rattle.fs_dir.specs.Slots.{has_name}
use Rattle.plan_rules.specs.Names.{group_steps}
use Rattle.plan_rules.specs.Told.{at_record, dir_groups}
use Rattle.plan_looks.specs.Goes.{Goes}
use Rattle.plan_looks.specs.Names.{first_steps, groups_from, named_in}
use Rattle.plan_looks.proofs.GoesLemmas.{goes_behind, stops_at}
use Rattle.plan_looks.proofs.LookLemmas.{record_says}
use Rattle.plan_looks.proofs.NameLemmas.{found_in_all}
use Rattle.plan_looks.proofs.names.look_name.Goals as goal

pub returns-in_err-look_first-clause-goes : goal.returns-in_err-look_first-clause-goes
returns-in_err-look_first-clause-goes c =
    let held = c.args.held.now in
    let n = c.args.number in
    let p = err_from_is_err_and c.from_residual.result c.from_residual.ensures.1 in
    stops_at held (first_steps held n) (group_steps held n (list_any (has_name c.args.name.now)) 0 (at_record held n 0 dir_groups)) c.args.looks.now c.look_first.new.looks
    c.in_err-look_first.field-0.0 p.0 c.from_residual.result p.1 p.2 (c.in_err-look_first.ensures {u = tt})

pub returns-clause-goes : goal.returns-clause-goes
returns-clause-goes c =
    let held = c.args.held.now in
    let n = c.args.number in
    let ends = list_any (has_name c.args.name.now) in
    let same : c.groups.result ≡ at_record held n 0 dir_groups = c.groups.ensures.exact ∙ sym (record_says held n 0 dir_groups c.args.attrs.now c.requires) in
    goes_behind held (first_steps held n) (group_steps held n ends 0 (at_record held n 0 dir_groups)) c.args.looks.now c.look_first.new.looks c.look_in_groups.new.looks
    c.look_in_groups.result (c.in_ok-look_first.ensures {u = tt})
    (subst (λ k. Goes held (group_steps held n ends 0 k) c.look_first.new.looks c.look_in_groups.new.looks c.look_in_groups.result) same c.look_in_groups.ensures.goes)

pub returns-clause-gives : goal.returns-clause-gives
returns-clause-gives c =
    let held = c.args.held.now in
    let n = c.args.number in
    let name = c.args.name.now in
    subst (λ (o : Option ℕ). IfOk c.look_in_groups.result (λ m. m ≡ o))
    (ap (λ k. named_in name (groups_from held n 0 k)) c.groups.ensures.exact ∙ found_in_all held n name c.args.attrs.now c.requires) c.look_in_groups.ensures.gives
