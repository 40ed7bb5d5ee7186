use Rattle.std.proofs.Common.{ℕ, [], List, ◌++◌, map, Result, Ok, subst}
use Rattle.std.specs.Prelude.{nat_lt}
use Rattle.std.proofs.lemmas.Result.{err_from_is_err_and}
use Rattle.rpc_msg.specs.declared.cred.Cred.{Cred}
use Rattle.fs_rules.specs.Reading.{read_checks}
use Rattle.fs_checks.specs.Facts.{bare}
use Rattle.node_cache.specs.declared.held.Held.{Held}
use Rattle.plan_rules.specs.Changes as changes
use Rattle.plan_rules.specs.Changes.{change_steps}
use Rattle.plan_rules.specs.Orders.{handle_steps}
use Rattle.plan_rules.specs.Steps.{Step, Checks}
use Rattle.plan_rules.specs.Told.{at_handle}
use Rattle.plan_looks.specs.declared.handles.LiveFile.{LiveFile}
use Rattle.plan_looks.specs.declared.stop.Stop.{Stop}
use Rattle.plan_looks.specs.Goes.{Ends, GoesOn}
use Rattle.plan_looks.proofs.GoesLemmas.{stops_at}
use Rattle.plan_content.specs.Steps.{part_steps}
use Rattle.plan_content.proofs.GoLemmas.{ends_at, live_then}
use Rattle.plan_content.proofs.part.read.Goals as goal

-- the steps where so many bytes are given
abbrev steps_with : Held → ℕ → Cred → LiveFile → ℕ → List Step
steps_with held start cred live given =
    map Checks (read_checks (bare live.facts) cred) ++ change_steps held start (changes.reads live.number (nat_lt 0 given))

pub returns-in_err-live-clause-goes : goal.returns-in_err-live-clause-goes
returns-in_err-live-clause-goes c start =
    let held = c.args.held.now in
    let file = c.args.file.now.0 in
    let p = err_from_is_err_and c.from_residual.result c.from_residual.ensures.1 in
    stops_at held (handle_steps held file) (at_handle held file [] (part_steps held start c.args.offset c.args.count c.args.cred.now)) c.args.looks.now c.look_file.new.looks c.in_err-live.field-0.0 p.0 c.from_residual.result p.1 p.2
    ((c.in_err-live.ensures {u = tt}).goes)

pub returns-in_err-look_part-clause-goes : goal.returns-in_err-look_part-clause-goes
returns-in_err-look_part-clause-goes c start =
    let held = c.args.held.now in
    let p = err_from_is_err_and c.from_residual-in_err-look_part.result c.from_residual-in_err-look_part.ensures.1 in
    let live = (c.in_ok-live.ensures {u = tt}).gives in
    let said = part_steps held start c.args.offset c.args.count c.args.cred.now in
    live_then held c.args.file.now.0 c.in_ok-live.live said c.args.looks.now c.look_file.new.looks c.look_part.new.looks c.from_residual-in_err-look_part.result live
    ((c.in_ok-live.ensures {u = tt}).goes)
    (ends_at held (said c.in_ok-live.live.number (bare c.in_ok-live.live.facts)) c.look_file.new.looks c.look_part.new.looks c.in_err-look_part.field-0.0 p.0
    c.from_residual-in_err-look_part.result p.1 p.2
    (subst (λ k. Ends held (steps_with held start c.args.cred.now c.in_ok-live.live k) c.look_file.new.looks c.look_part.new.looks c.in_err-look_part.field-0.0) c.given_of-given.ensures.exact
    (c.in_err-look_part.ensures {u = tt} start)))

pub returns-clause-goes : goal.returns-clause-goes
returns-clause-goes c start =
    let held = c.args.held.now in
    let live = (c.in_ok-live.ensures {u = tt}).gives in
    let done : Result (Unit {0}) Stop = Ok tt in
    live_then held c.args.file.now.0 c.in_ok-live.live (part_steps held start c.args.offset c.args.count c.args.cred.now) c.args.looks.now c.look_file.new.looks c.look_part.new.looks done live
    ((c.in_ok-live.ensures {u = tt}).goes)
    (subst (λ k. GoesOn c.args.held.now (steps_with c.args.held.now start c.args.cred.now c.in_ok-live.live k) c.look_file.new.looks c.look_part.new.looks) c.given_of-given.ensures.exact
    (c.in_ok-look_part.ensures {u = tt} start))
