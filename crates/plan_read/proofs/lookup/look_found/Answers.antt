use Rattle.std.proofs.Common.{ℕ, List, [], ◌∷◌, ◌++◌, map, Option, None, Result, Ok, sym, ap, subst, ◌∙◌}
use Rattle.std.proofs.lemmas.Result.{err_from_is_err_and}
use Rattle.fs_rules.specs.Statuses.{noent}
use Rattle.plan_rules.specs.declared.look.Look.TheVariants.{Record}
use Rattle.plan_rules.specs.Steps.{Step, Looks as look_at, Checks}
use Rattle.plan_looks.specs.declared.stop.Stop.{Stop}
use Rattle.plan_looks.specs.Goes.{IsRefused}
use Rattle.plan_looks.proofs.GoesLemmas.{goes_behind, goes_same, same_steps}
use Rattle.plan_content.proofs.GoLemmas.{ends_at}
use Rattle.plan_read.specs.Lookup.{behind_search}
use Rattle.plan_read.proofs.LookupLemmas.{check_passes, none_behind, some_behind}
use Rattle.plan_read.proofs.lookup.look_found.Goals as goal

pub returns-in_err-attrs-in-Some-clause-goes : goal.returns-in_err-attrs-in-Some-clause-goes
returns-in_err-attrs-in-Some-clause-goes c =
    let held = c.args.held.now in
    let m = c.in-Some.number in
    let old = c.args.looks.now in
    let new = c.look_record.new.looks in
    let one : List Step = look_at (Record m) ∷ [] in
    let p = err_from_is_err_and c.from_residual.result c.from_residual.ensures.1 in
    same_steps held (behind_search c.args.found) (map Checks (None ∷ []) ++ one) old new c.from_residual.result
    (ap (λ (x : Option ℕ). behind_search x) c.in-Some.is ∙ some_behind held m)
    (goes_behind held (map Checks (None ∷ [])) one old old new c.from_residual.result (check_passes held old)
    (ends_at held one old new c.in_err-attrs-in-Some.field-0.0 p.0 c.from_residual.result p.1 p.2 ((c.in_err-attrs-in-Some.ensures {u = tt}).goes)))

pub returns-in_ok-attrs-in-Some-clause-goes : goal.returns-in_ok-attrs-in-Some-clause-goes
returns-in_ok-attrs-in-Some-clause-goes c =
    let held = c.args.held.now in
    let m = c.in-Some.number in
    let old = c.args.looks.now in
    let new = c.look_record.new.looks in
    let one : List Step = look_at (Record m) ∷ [] in
    let done : Result (Unit {0}) Stop = Ok tt in
    goes_same held (behind_search c.args.found) (map Checks (None ∷ []) ++ one) old new (ap (λ (x : Option ℕ). behind_search x) c.in-Some.is ∙ some_behind held m)
    (goes_behind held (map Checks (None ∷ [])) one old old new done (check_passes held old) ((c.in_ok-attrs-in-Some.ensures {u = tt}).goes))

pub returns-in-None-clause-goes : goal.returns-in-None-clause-goes
returns-in-None-clause-goes c =
    subst (λ (x : Option ℕ). IsRefused c.args.held.now (behind_search x) c.args.looks.now c.args.looks.now noent) (sym c.in-None.is)
    (none_behind c.args.held.now c.args.looks.now)
