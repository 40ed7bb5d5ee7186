use Rattle.std.proofs.Common.{ℕ, cond, [], Option, subst}
use Rattle.std.proofs.lemmas.Result.{err_from_is_err_and}
use Rattle.fs_rules.specs.Arguments.{is_dots}
use Rattle.fs_rules.specs.Handle.{number_in}
use Rattle.plan_rules.specs.Names.{name_steps, target}
use Rattle.plan_looks.specs.Goes.{Goes}
use Rattle.plan_looks.proofs.GoesLemmas.{goes_behind, stops_at}
use Rattle.plan_read.specs.Lookup.{behind_search}
use Rattle.plan_read.proofs.lookup.look_up.Goals as goal

pub returns-in_err-found-clause-goes : goal.returns-in_err-found-clause-goes
returns-in_err-found-clause-goes c =
    let held = c.args.held.now in
    let n = number_in c.args.dir.now.0 in
    let name = c.args.name.now in
    let p = err_from_is_err_and c.from_residual.result c.from_residual.ensures.1 in
    stops_at held (cond (is_dots name) [] (name_steps held n name)) (behind_search (target held n name)) c.args.looks.now c.look_target.new.looks
    c.in_err-found.field-0.0 p.0 c.from_residual.result p.1 p.2 ((c.in_err-found.ensures {u = tt}).goes)

pub returns-clause-goes : goal.returns-clause-goes
returns-clause-goes c =
    let held = c.args.held.now in
    let n = number_in c.args.dir.now.0 in
    let name = c.args.name.now in
    goes_behind held (cond (is_dots name) [] (name_steps held n name)) (behind_search (target held n name)) c.args.looks.now c.look_target.new.looks c.look_found.new.looks
    c.look_found.result ((c.in_ok-found.ensures {u = tt}).goes)
    (subst (λ (x : Option ℕ). Goes held (behind_search x) c.look_target.new.looks c.look_found.new.looks c.look_found.result) ((c.in_ok-found.ensures {u = tt}).gives) c.look_found.ensures.goes)
