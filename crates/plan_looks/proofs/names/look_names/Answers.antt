use Rattle.std.proofs.Common.{◌≡◌, false, Bool, List, sym, subst, ◌∙◌}
use Rattle.std.proofs.lemmas.Result.{err_from_is_err_and}
use Rattle.fs_dir.specs.declared.slot.Slot.{Slot}
use Rattle.plan_rules.specs.Names.{group_steps}
use Rattle.plan_rules.specs.Told.{at_record, dir_groups}
use Rattle.plan_looks.specs.Goes.{Goes}
use Rattle.plan_looks.specs.Names.{first_steps}
use Rattle.plan_looks.proofs.GoesLemmas.{goes_behind, stops_at}
use Rattle.plan_looks.proofs.LookLemmas.{record_says}
use Rattle.plan_looks.proofs.names.look_names.Goals as goal

abbrev none_ends : List Slot → Bool
none_ends slots = false

pub returns-in_err-look_first : goal.returns-in_err-look_first
returns-in_err-look_first c =
    let held = c.args.held.now in
    let n = c.args.number in
    let p = err_from_is_err_and c.from_residual.result c.from_residual.ensures.1 in
    stops_at held (first_steps held n) (group_steps held n none_ends 0 (at_record held n 0 dir_groups)) c.args.looks.now c.look_first.new.looks
    c.in_err-look_first.field-0.0 p.0 c.from_residual.result p.1 p.2 (c.in_err-look_first.ensures {u = tt})

pub returns : goal.returns
returns c =
    let held = c.args.held.now in
    let n = c.args.number in
    let same : c.groups.result ≡ at_record held n 0 dir_groups = c.groups.ensures.exact ∙ sym (record_says held n 0 dir_groups c.args.attrs.now c.requires) in
    goes_behind held (first_steps held n) (group_steps held n none_ends 0 (at_record held n 0 dir_groups)) c.args.looks.now c.look_first.new.looks c.look_at_groups.new.looks
    c.look_at_groups.result (c.in_ok-look_first.ensures {u = tt})
    (subst (λ k. Goes held (group_steps held n none_ends 0 k) c.look_first.new.looks c.look_at_groups.new.looks c.look_at_groups.result) same c.look_at_groups.ensures)
