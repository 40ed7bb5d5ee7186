use Rattle.std.specs.Prelude.{nat_lt}
use Rattle.std.proofs.lemmas.Result.{err_from_is_err_and}
use Rattle.fs_rules.specs.Reading.{read_checks}
use Rattle.fs_checks.specs.Facts.{bare}
use Rattle.plan_rules.specs.Changes as changes
use Rattle.plan_rules.specs.Changes.{change_steps}
use Rattle.content_laws.specs.Chains.{chains_where}
use Rattle.content_laws.proofs.StepLemmas.{change_alike}
use Rattle.plan_content.proofs.GoLemmas.{failed_then, goes_alike, passed_then}
use Rattle.plan_content.proofs.part.look_part.Goals as goal

pub returns-in_err-check_read : goal.returns-in_err-check_read
returns-in_err-check_read c start =
    let held = c.args.held.now in
    let p = err_from_is_err_and c.from_residual.result c.from_residual.ensures.1 in
    failed_then held (read_checks (bare c.args.live.facts) c.args.cred.now) c.check_read.result c.check_read.ensures
    (change_steps held start (changes.reads c.args.live.number (nat_lt 0 c.args.given))) c.args.looks.now
    c.in_err-check_read.field-0.0 p.0 c.from_residual.result (c.in_err-check_read.was {u = tt}) p.1 p.2

pub returns : goal.returns
returns c start =
    let held = c.args.held.now in
    let n = c.args.live.number in
    let some = nat_lt 0 c.args.given in
    passed_then held (read_checks (bare c.args.live.facts) c.args.cred.now) c.check_read.result c.check_read.ensures
    (change_steps held start (changes.reads n some)) c.args.looks.now c.look_chains_where.new.looks c.look_chains_where.result
    c.in_ok-check_read.field-0 (c.in_ok-check_read.was {u = tt})
    (goes_alike held (change_steps held start (changes.reads n some)) (chains_where held n some) c.args.looks.now c.look_chains_where.new.looks c.look_chains_where.result
    (change_alike held start n some) c.look_chains_where.ensures)
