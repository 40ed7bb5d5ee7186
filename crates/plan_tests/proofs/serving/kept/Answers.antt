use Rattle.plan_laws.proofs.KeptLemmas.{kept_is_in_order}
use Rattle.plan_tests.proofs.serving.kept.Goals as goal

pub returns-in-Ok : goal.returns-in-Ok
returns-in-Ok c =
    kept_is_in_order c.args.held.now c.keep.new.held c.args.want c.args.reads.now c.requires.work c.requires.told c.requires.reads c.in-Ok.ensures.ok
