use Rattle.std.proofs.lemmas.Result.{err_from_is_err_and}
use Rattle.fs_checks.specs.Facts.{bare}
use Rattle.fs_checks.specs.Rows.{read_dir_row}
use Rattle.plan_rules.specs.Names.{list_steps}
use Rattle.plan_content.proofs.GoLemmas.{failed_then, passed_then}
use Rattle.plan_content.proofs.dir.look_listed.Goals as goal

pub returns-in_err-check_list : goal.returns-in_err-check_list
returns-in_err-check_list c =
    let held = c.args.held.now in
    let p = err_from_is_err_and c.from_residual.result c.from_residual.ensures.1 in
    failed_then held (read_dir_row (bare c.args.live.facts) c.args.cred.now) c.check_list.result c.check_list.ensures (list_steps held c.args.live.number) c.args.looks.now
    c.in_err-check_list.field-0.0 p.0 c.from_residual.result (c.in_err-check_list.was {u = tt}) p.1 p.2

pub returns : goal.returns
returns c =
    let held = c.args.held.now in
    passed_then held (read_dir_row (bare c.args.live.facts) c.args.cred.now) c.check_list.result c.check_list.ensures (list_steps held c.args.live.number) c.args.looks.now
    c.look_names.new.looks c.look_names.result c.in_ok-check_list.field-0 (c.in_ok-check_list.was {u = tt}) c.look_names.ensures
