use Rattle.plan_rules.specs.Compared.{compares}
use Rattle.plan_looks.proofs.CompareLemmas.{look_added, looks_done}
use Rattle.plan_looks.proofs.comparing.compared.Goals as goal

pub loop-look-preserved : goal.loop-look-preserved
loop-look-preserved c =
    look_added c.args.held.now c.args.looks.now c.loop-look.firsts c.push_first.new.firsts c.loop-look.look-index _ (compares c.args.held.now c.args.looks.now)
    c.loop-look.items c.push_first.new.items c.loop-look-test.true (c.in_ok-push_first.ensures {u = tt}) c.loop-look.invariant

pub returns : goal.returns
returns c =
    looks_done c.args.held.now c.args.looks.now c.loop-look.firsts c.loop-look.look-index (compares c.args.held.now c.args.looks.now) c.loop-look.items
    c.loop-look-test.false c.loop-look.invariant
