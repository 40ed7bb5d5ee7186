use Rattle.plan_rules.specs.declared.look.Look.TheVariants as look
use Rattle.plan_rules.specs.Steps.{Looks as look_at}
use Rattle.std.proofs.Common.{[], ◌∷◌}
use Rattle.std.proofs.lemmas.Result.{err_from_is_err_and}
use Rattle.plan_looks.specs.Names.{first_steps}
use Rattle.plan_looks.proofs.GoesLemmas.{go_nowhere, goes_same, same_steps, stops_at}
use Rattle.plan_looks.proofs.NameLemmas.{no_first, one_first}
use Rattle.plan_looks.proofs.names.look_first.Goals as goal

pub returns-then-attrs-eq0 : goal.returns-then-attrs-eq0
returns-then-attrs-eq0 c =
    goes_same c.args.held.now (first_steps c.args.held.now c.args.number) [] c.args.looks.now c.args.looks.now
    (no_first c.args.held.now c.args.number c.args.attrs.now c.requires c.if-attrs-eq0.true) (go_nowhere c.args.held.now c.args.looks.now)

pub returns-in_err-look_chain : goal.returns-in_err-look_chain
returns-in_err-look_chain c =
    let held = c.args.held.now in
    let p = err_from_is_err_and c.from_residual.result c.from_residual.ensures.1 in
    let one = look_at (look.Chaining c.args.number 0) ∷ [] in
    same_steps held (first_steps held c.args.number) one c.args.looks.now c.look_chain.new.looks c.from_residual.result
    (one_first held c.args.number c.args.attrs.now c.requires c.if-attrs-eq0.false)
    (stops_at held one [] c.args.looks.now c.look_chain.new.looks c.in_err-look_chain.field-0.0 p.0 c.from_residual.result p.1 p.2 ((c.in_err-look_chain.ensures {u = tt}).goes))

pub returns : goal.returns
returns c =
    goes_same c.args.held.now (first_steps c.args.held.now c.args.number) (look_at (look.Chaining c.args.number 0) ∷ []) c.args.looks.now c.look_chain.new.looks
    (one_first c.args.held.now c.args.number c.args.attrs.now c.requires c.if-attrs-eq0.false) ((c.in_ok-look_chain.ensures {u = tt}).goes)
