use Rattle.plan_tests.proofs.serving.+run.Given as goal

abbrev pub decreases-run : goal.decreases-run
decreases-run l = l.steps
