use Rattle.std.proofs.Common.{[], Result, Ok}
use Rattle.std.proofs.lemmas.Result.{err_from_is_err_and}
use Rattle.fs_checks.specs.Facts.{bare}
use Rattle.plan_rules.specs.Orders.{handle_steps}
use Rattle.plan_rules.specs.Told.{at_handle}
use Rattle.plan_looks.specs.declared.stop.Stop.{Stop}
use Rattle.plan_looks.proofs.GoesLemmas.{stops_at}
use Rattle.plan_content.specs.Steps.{link_steps}
use Rattle.plan_content.proofs.GoLemmas.{ends_at, live_then}
use Rattle.plan_content.proofs.link.read_link.Goals as goal

pub returns-in_err-live-clause-goes : goal.returns-in_err-live-clause-goes
returns-in_err-live-clause-goes c start =
    let held = c.args.held.now in
    let file = c.args.file.now.0 in
    let p = err_from_is_err_and c.from_residual.result c.from_residual.ensures.1 in
    stops_at held (handle_steps held file) (at_handle held file [] (link_steps held start)) c.args.looks.now c.look_file.new.looks c.in_err-live.field-0.0 p.0 c.from_residual.result p.1 p.2
    ((c.in_err-live.ensures {u = tt}).goes)

pub returns-in_err-look_path-clause-goes : goal.returns-in_err-look_path-clause-goes
returns-in_err-look_path-clause-goes c start =
    let held = c.args.held.now in
    let p = err_from_is_err_and c.from_residual-in_err-look_path.result c.from_residual-in_err-look_path.ensures.1 in
    let live = (c.in_ok-live.ensures {u = tt}).gives in
    let said = link_steps held start in
    live_then held c.args.file.now.0 c.in_ok-live.live said c.args.looks.now c.look_file.new.looks c.look_path.new.looks c.from_residual-in_err-look_path.result live
    ((c.in_ok-live.ensures {u = tt}).goes)
    (ends_at held (said c.in_ok-live.live.number (bare c.in_ok-live.live.facts)) c.look_file.new.looks c.look_path.new.looks c.in_err-look_path.field-0.0 p.0
    c.from_residual-in_err-look_path.result p.1 p.2 (c.in_err-look_path.ensures {u = tt} start))

pub returns-clause-goes : goal.returns-clause-goes
returns-clause-goes c start =
    let held = c.args.held.now in
    let live = (c.in_ok-live.ensures {u = tt}).gives in
    let done : Result (Unit {0}) Stop = Ok tt in
    live_then held c.args.file.now.0 c.in_ok-live.live (link_steps held start) c.args.looks.now c.look_file.new.looks c.look_path.new.looks done live
    ((c.in_ok-live.ensures {u = tt}).goes) (c.in_ok-look_path.ensures {u = tt} start)
