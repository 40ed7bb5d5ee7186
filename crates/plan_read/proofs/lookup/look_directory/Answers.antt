use Rattle.std.proofs.Common.{◌≡◌, List, [], ◌∷◌, map, Some, None, Result, Ok, ◌∙◌}
use Rattle.std.proofs.lemmas.Result.{err_from_is_err_and}
use Rattle.fs_rules.specs.Arguments.{looked_up, name_check}
use Rattle.fs_rules.specs.Statuses.{Check, first_failure}
use Rattle.fs_checks.specs.Facts.{bare}
use Rattle.fs_checks.specs.Rows.{directory_row}
use Rattle.fs_checks.proofs.FactsLemmas.{failed, passed}
use Rattle.plan_rules.specs.Orders.{access_check, directory_check, handle_steps}
use Rattle.plan_rules.specs.Steps.{Checks}
use Rattle.plan_looks.specs.declared.stop.Stop.{Stop}
use Rattle.plan_looks.specs.Live.{IsLive}
use Rattle.plan_looks.proofs.GoesLemmas.{checks_fail, checks_on, goes_behind, refused_at, stops_at}
use Rattle.plan_read.proofs.LookupLemmas.{row_is}
use Rattle.plan_read.proofs.lookup.look_directory.Goals as goal

pub returns-in_err-live-clause-goes : goal.returns-in_err-live-clause-goes
returns-in_err-live-clause-goes c =
    let held = c.args.held.now in
    let dir = c.args.dir.now.0 in
    let name = c.args.name.now in
    let checks : List Check = directory_check held dir ∷ name_check (looked_up dir name) ∷ access_check held c.args.cred.now (looked_up dir name) ∷ [] in
    let p = err_from_is_err_and c.from_residual.result c.from_residual.ensures.1 in
    stops_at held (handle_steps held dir) (map Checks checks) c.args.looks.now c.look_file.new.looks c.in_err-live.field-0.0 p.0 c.from_residual.result p.1 p.2
    ((c.in_err-live.ensures {u = tt}).goes)

pub returns-in_err-check_named-clause-goes : goal.returns-in_err-check_named-clause-goes
returns-in_err-check_named-clause-goes c =
    let held = c.args.held.now in
    let dir = c.args.dir.now.0 in
    let name = c.args.name.now in
    let cred = c.args.cred.now in
    let mid = c.look_file.new.looks in
    let checks : List Check = directory_check held dir ∷ name_check (looked_up dir name) ∷ access_check held cred (looked_up dir name) ∷ [] in
    let p = err_from_is_err_and c.from_residual-in_err-check_named.result c.from_residual-in_err-check_named.ensures.1 in
    let s = c.in_err-check_named.field-0.0 in
    let live : IsLive held dir c.in_ok-live.live = (c.in_ok-live.ensures {u = tt}).gives in
    let fails : first_failure checks ≡ Some s.0 =
    row_is held dir name cred (bare c.in_ok-live.live.facts) live.file
    ∙ failed (first_failure (directory_row (bare c.in_ok-live.live.facts) cred (looked_up [] name))) c.check_named.result s c.check_named.ensures (c.in_err-check_named.was {u = tt}) in
    goes_behind held (handle_steps held dir) (map Checks checks) c.args.looks.now mid mid c.from_residual-in_err-check_named.result ((c.in_ok-live.ensures {u = tt}).goes)
    (refused_at held (map Checks checks) mid mid s p.0 c.from_residual-in_err-check_named.result p.1 p.2 (checks_fail held checks mid s.0 fails))

pub returns-clause-goes : goal.returns-clause-goes
returns-clause-goes c =
    let held = c.args.held.now in
    let dir = c.args.dir.now.0 in
    let name = c.args.name.now in
    let cred = c.args.cred.now in
    let mid = c.look_file.new.looks in
    let checks : List Check = directory_check held dir ∷ name_check (looked_up dir name) ∷ access_check held cred (looked_up dir name) ∷ [] in
    let live : IsLive held dir c.in_ok-live.live = (c.in_ok-live.ensures {u = tt}).gives in
    let passes : first_failure checks ≡ None =
    row_is held dir name cred (bare c.in_ok-live.live.facts) live.file
    ∙ passed (first_failure (directory_row (bare c.in_ok-live.live.facts) cred (looked_up [] name))) c.check_named.result c.in_ok-check_named.field-0 c.check_named.ensures (c.in_ok-check_named.was {u = tt}) in
    let done : Result (Unit {0}) Stop = Ok tt in
    goes_behind held (handle_steps held dir) (map Checks checks) c.args.looks.now mid mid done ((c.in_ok-live.ensures {u = tt}).goes) (checks_on held checks mid passes)
