use Rattle.std.proofs.Common.{Result, Ok}
use Rattle.std.proofs.lemmas.Result.{err_from_is_err_and}
use Rattle.fs_checks.specs.Facts.{bare}
use Rattle.plan_looks.specs.declared.stop.Stop.{Stop}
use Rattle.plan_content.specs.Steps.{dir_steps}
use Rattle.plan_content.proofs.GoLemmas.{dir_stops, dir_then, ends_at}
use Rattle.plan_content.proofs.dir.read_dir.Goals as goal

pub returns-in_err-live-clause-goes : goal.returns-in_err-live-clause-goes
returns-in_err-live-clause-goes c =
    let p = err_from_is_err_and c.from_residual.result c.from_residual.ensures.1 in
    dir_stops c.args.held.now c.args.dir.now.0 c.args.cred.now c.args.looks.now c.look_file.new.looks c.in_err-live.field-0.0 p.0 c.from_residual.result p.1 p.2
    ((c.in_err-live.ensures {u = tt}).goes)

pub returns-in_err-look_listed-clause-goes : goal.returns-in_err-look_listed-clause-goes
returns-in_err-look_listed-clause-goes c =
    let held = c.args.held.now in
    let p = err_from_is_err_and c.from_residual-in_err-look_listed.result c.from_residual-in_err-look_listed.ensures.1 in
    dir_then held c.args.dir.now.0 c.args.cred.now c.in_ok-live.live c.args.looks.now c.look_file.new.looks c.look_listed.new.looks c.from_residual-in_err-look_listed.result
    ((c.in_ok-live.ensures {u = tt}).gives) ((c.in_ok-live.ensures {u = tt}).goes)
    (ends_at held (dir_steps held c.args.cred.now c.in_ok-live.live.number (bare c.in_ok-live.live.facts)) c.look_file.new.looks c.look_listed.new.looks
    c.in_err-look_listed.field-0.0 p.0 c.from_residual-in_err-look_listed.result p.1 p.2 (c.in_err-look_listed.ensures {u = tt}))

pub returns-clause-goes : goal.returns-clause-goes
returns-clause-goes c =
    let done : Result (Unit {0}) Stop = Ok tt in
    dir_then c.args.held.now c.args.dir.now.0 c.args.cred.now c.in_ok-live.live c.args.looks.now c.look_file.new.looks c.look_listed.new.looks done
    ((c.in_ok-live.ensures {u = tt}).gives) ((c.in_ok-live.ensures {u = tt}).goes) (c.in_ok-look_listed.ensures {u = tt})
