use Rattle.plan_tests.proofs.wants.+gather.Given as goal

abbrev pub decreases-gather : goal.decreases-gather
decreases-gather l = l.steps
