use Rattle.std.proofs.Common.{Result, Ok}
use Rattle.std.proofs.lemmas.Result.{err_from_is_err_and}
use Rattle.fs_rules.specs.Handle.{number_in}
use Rattle.plan_rules.specs.Orders.{lookup_steps}
use Rattle.plan_looks.specs.declared.stop.Stop.{Stop}
use Rattle.plan_looks.proofs.GoesLemmas.{goes_behind, stops_at}
use Rattle.plan_content.proofs.GoLemmas.{ends_at}
use Rattle.plan_read.specs.Lookup.{directory_steps}
use Rattle.plan_read.proofs.lookup.lookup.Goals as goal

pub returns-in_err-live-clause-goes : goal.returns-in_err-live-clause-goes
returns-in_err-live-clause-goes c =
    let held = c.args.held.now in
    let dir = c.args.dir.now.0 in
    let name = c.args.name.now in
    let p = err_from_is_err_and c.from_residual.result c.from_residual.ensures.1 in
    stops_at held (directory_steps held dir name c.args.cred.now) (lookup_steps held (number_in dir) name) c.args.looks.now c.look_directory.new.looks
    c.in_err-live.field-0.0 p.0 c.from_residual.result p.1 p.2 ((c.in_err-live.ensures {u = tt}).goes)

pub returns-in_err-answer-clause-goes : goal.returns-in_err-answer-clause-goes
returns-in_err-answer-clause-goes c =
    let held = c.args.held.now in
    let dir = c.args.dir.now.0 in
    let name = c.args.name.now in
    let mid = c.look_directory.new.looks in
    let new = c.look_up.new.looks in
    let p = err_from_is_err_and c.from_residual-in_err-answer.result c.from_residual-in_err-answer.ensures.1 in
    goes_behind held (directory_steps held dir name c.args.cred.now) (lookup_steps held (number_in dir) name) c.args.looks.now mid new c.from_residual-in_err-answer.result
    ((c.in_ok-live.ensures {u = tt}).goes)
    (ends_at held (lookup_steps held (number_in dir) name) mid new c.in_err-answer.field-0.0 p.0 c.from_residual-in_err-answer.result p.1 p.2 ((c.in_err-answer.ensures {u = tt}).goes))

pub returns-clause-goes : goal.returns-clause-goes
returns-clause-goes c =
    let held = c.args.held.now in
    let dir = c.args.dir.now.0 in
    let name = c.args.name.now in
    let done : Result (Unit {0}) Stop = Ok tt in
    goes_behind held (directory_steps held dir name c.args.cred.now) (lookup_steps held (number_in dir) name) c.args.looks.now c.look_directory.new.looks c.look_up.new.looks done
    ((c.in_ok-live.ensures {u = tt}).goes) ((c.in_ok-answer.ensures {u = tt}).goes)
