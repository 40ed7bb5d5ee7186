use Rattle.std.proofs.Common.{◌<◌, [], sym, subst}
use Rattle.std.proofs.lemmas.Result.{err_from_is_err_and}
use Rattle.plan_rules.specs.Told.{chains_of}
use Rattle.plan_looks.proofs.GoesLemmas.{go_nowhere, goes_same}
use Rattle.plan_looks.proofs.LookLemmas.{record_says}
use Rattle.content_laws.proofs.StepLemmas.{chains_below}
use Rattle.plan_content.proofs.GoLemmas.{lacks_below, more_below, none_below}
use Rattle.plan_content.proofs.chains.look_chains.Goals as goal

pub loop-index-init : goal.loop-index-init
loop-index-init c =
    let held = c.args.held.now in
    let n = c.args.number in
    goes_same held (chains_below n 0) [] c.args.looks.now c.args.looks.now (none_below held n) (go_nowhere held c.args.looks.now)

pub returns-in_err-look_chain : goal.returns-in_err-look_chain
returns-in_err-look_chain c =
    let held = c.args.held.now in
    let n = c.args.number in
    let p = err_from_is_err_and c.from_residual.result c.from_residual.ensures.1 in
    let within : c.loop-index.index < chains_of held n =
    subst (λ k. c.loop-index.index < k) (sym (record_says held n 0 (λ a. a.chains) c.args.attrs.now c.requires)) c.loop-index-test.true in
    lacks_below held n c.loop-index.index (chains_of held n) c.args.looks.now c.loop-index.looks c.look_chain.new.looks c.in_err-look_chain.field-0.0 p.0 c.from_residual.result within
    c.loop-index.invariant p.1 p.2 ((c.in_err-look_chain.ensures {u = tt}).goes)

pub loop-index-preserved : goal.loop-index-preserved
loop-index-preserved c =
    more_below c.args.held.now c.args.number c.loop-index.index c.args.looks.now c.loop-index.looks c.look_chain.new.looks c.loop-index.invariant
    ((c.in_ok-look_chain.ensures {u = tt}).goes)
