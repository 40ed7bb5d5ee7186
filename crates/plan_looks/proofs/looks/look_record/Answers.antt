use Rattle.std.proofs.Common.{◌≡◌, true, false, ap, sym, ◌∙◌}
use Rattle.std.specs.Prelude.{is_some}
use Rattle.std.specs.Option.{option_copied}
use Rattle.node_cache.specs.declared.want.Want.TheVariants as want
use Rattle.plan_rules.specs.declared.look.Look.TheVariants as look
use Rattle.plan_rules.specs.Steps.{is_held}
use Rattle.plan_looks.proofs.GoesLemmas.{looks_on, looks_in_vain}
use Rattle.plan_looks.proofs.LookLemmas.{record_is_held}
use Rattle.plan_looks.proofs.looks.look_record.Goals as goal

pub returns-in_ok-push-in-Some-clause-goes : goal.returns-in_ok-push-in-Some-clause-goes
returns-in_ok-push-in-Some-clause-goes c =
    let held = c.args.held.now in
    let there : is_held held (want.Inode c.args.number) ≡ true =
    record_is_held held c.args.number ∙ ap is_some (sym c.record_of.ensures ∙ ap option_copied c.in-Some.is) in
    looks_on held (look.Record c.args.number) c.args.looks.now c.push.new.self there ((c.in_ok-push-in-Some.ensures {u = tt}).ok)

pub returns-in-None-clause-goes : goal.returns-in-None-clause-goes
returns-in-None-clause-goes c =
    let held = c.args.held.now in
    let lacks : is_held held (want.Inode c.args.number) ≡ false =
    record_is_held held c.args.number ∙ ap is_some (sym c.record_of.ensures ∙ ap option_copied c.in-None.is) in
    looks_in_vain held (look.Record c.args.number) lacks
