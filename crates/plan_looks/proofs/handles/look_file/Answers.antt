use Rattle.std.proofs.Common.{◌≡◌, ℕ, [], ◌∷◌, List, Some, Result, Ok, map, sym, ap, subst, ◌∙◌}
use Rattle.std.specs.Prelude.{option_map}
use Rattle.std.proofs.lemmas.Result.{err_from_is_err_and}
use Rattle.fs_rules.specs.Handle.{number_in}
use Rattle.fs_checks.specs.Facts.{facts_by, bare}
use Rattle.node_cache.specs.Cached.{held_of}
use Rattle.plan_rules.specs.declared.look.Look.TheVariants as look
use Rattle.plan_rules.specs.Orders.{handle_check}
use Rattle.plan_rules.specs.Steps.{Step, Looks as look_at, Checks}
use Rattle.plan_looks.specs.declared.stop.Stop.{Stop}
use Rattle.plan_looks.specs.Goes.{Ends, GoesOn, IsRefused}
use Rattle.plan_looks.specs.Live.{IsLiveBy}
use Rattle.plan_looks.proofs.GoesLemmas.{checks_on, checks_fail, goes_behind, refused_at, stops_at}
use Rattle.plan_looks.proofs.LookLemmas.{file_is, live_passes, stale_fails}
use Rattle.plan_looks.proofs.handles.look_file.Goals as goal

pub returns-in_err-attrs-clause-goes : goal.returns-in_err-attrs-clause-goes
returns-in_err-attrs-clause-goes c =
    let held = c.args.held.now in
    let n = number_in c.args.handle.now.0 in
    let p = err_from_is_err_and c.from_residual.result c.from_residual.ensures.1 in
    let goes : Ends held (look_at (look.Record n) ∷ []) c.args.looks.now c.look_record.new.looks c.in_err-attrs.field-0.0 =
    subst (λ (k : ℕ). Ends held (look_at (look.Record k) ∷ []) c.args.looks.now c.look_record.new.looks c.in_err-attrs.field-0.0) c.number_at.ensures ((c.in_err-attrs.ensures {u = tt}).goes) in
    stops_at held (look_at (look.Record n) ∷ []) (map Checks (handle_check held c.args.handle.now.0 ∷ [])) c.args.looks.now c.look_record.new.looks
    c.in_err-attrs.field-0.0 p.0 c.from_residual.result p.1 p.2 goes

-- the look at the record, for the number in the handle
looked : (c : goal.In_ok-live_by) → GoesOn c.args.held.now (look_at (look.Record (number_in c.args.handle.now.0)) ∷ []) c.args.looks.now c.look_record.new.looks
looked c =
    subst (λ (k : ℕ). GoesOn c.args.held.now (look_at (look.Record k) ∷ []) c.args.looks.now c.look_record.new.looks) c.number_at.ensures ((c.in_ok-attrs.ensures {u = tt}).goes)

recorded : (c : goal.In_ok-live_by) → option_map (λ e. e.attrs) (held_of (number_in c.args.handle.now.0) c.args.held.now.entries) ≡ Some c.in_ok-attrs.field-0.now
recorded c =
    subst (λ (k : ℕ). option_map (λ e. e.attrs) (held_of k c.args.held.now.entries) ≡ Some c.in_ok-attrs.field-0.now) c.number_at.ensures ((c.in_ok-attrs.ensures {u = tt}).gives)

pub returns-in_err-live_by-clause-goes : goal.returns-in_err-live_by-clause-goes
returns-in_err-live_by-clause-goes c =
    let held = c.args.held.now in
    let name = c.args.handle.now.0 in
    let old = c.args.looks.now in
    let mid = c.look_record.new.looks in
    let front : List Step = look_at (look.Record (number_in name)) ∷ [] in
    let checks = handle_check held name ∷ [] in
    let p = err_from_is_err_and c.from_residual-in_err-live_by.result c.from_residual-in_err-live_by.ensures.1 in
    let s = c.in_err-live_by.field-0.0 in
    let told = c.in_err-live_by.ensures {u = tt} in
    let one : GoesOn held front old mid = subst (λ (k : ℕ). GoesOn held (look_at (look.Record k) ∷ []) old mid) c.number_at.ensures ((c.in_ok-attrs.ensures {u = tt}).goes) in
    let record_is : option_map (λ e. e.attrs) (held_of (number_in name) held.entries) ≡ Some c.in_ok-attrs.field-0.now =
    subst (λ (k : ℕ). option_map (λ e. e.attrs) (held_of k held.entries) ≡ Some c.in_ok-attrs.field-0.now) c.number_at.ensures ((c.in_ok-attrs.ensures {u = tt}).gives) in
    let fails : IsRefused held (map Checks checks) mid mid s.0 =
    checks_fail held checks mid s.0 (stale_fails held name c.in_ok-attrs.field-0.now record_is s.0 told.none told.stale) in
    goes_behind held front (map Checks checks) old mid mid c.from_residual-in_err-live_by.result one
    (refused_at held (map Checks checks) mid mid s p.0 c.from_residual-in_err-live_by.result p.1 p.2 fails)

pub returns-clause-goes : goal.returns-clause-goes
returns-clause-goes c =
    let held = c.args.held.now in
    let name = c.args.handle.now.0 in
    let checks = handle_check held name ∷ [] in
    let live = c.in_ok-live_by.ensures {u = tt} in
    let is : IsLiveBy name c.in_ok-attrs.field-0.now c.in_ok-live_by.field-0 = live.found in
    let passed : Result (Unit {0}) Stop = Ok tt in
    goes_behind held (look_at (look.Record (number_in name)) ∷ []) (map Checks checks) c.args.looks.now c.look_record.new.looks c.look_record.new.looks passed (looked c)
    (checks_on held checks c.look_record.new.looks (live_passes held name c.in_ok-attrs.field-0.now (recorded c) (bare c.in_ok-live_by.field-0.facts) is.file))

pub returns-clause-gives : goal.returns-clause-gives
returns-clause-gives c =
    let held = c.args.held.now in
    let name = c.args.handle.now.0 in
    let f = c.in_ok-live_by.field-0 in
    let live = c.in_ok-live_by.ensures {u = tt} in
    let is : IsLiveBy name c.in_ok-attrs.field-0.now f = live.found in
    record {
      number = is.number;
      record_is = subst (λ (k : ℕ). option_map (λ e. e.attrs) (held_of k held.entries) ≡ Some f.attrs) (sym is.number) (recorded c ∙ ap Some (sym is.attrs));
      facts = ap facts_by is.attrs ∙ is.facts;
      file = file_is held name c.in_ok-attrs.field-0.now (recorded c) ∙ is.file;
    }
