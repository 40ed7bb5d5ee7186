use Rattle.plan_looks.proofs.names.+look_at_groups.Given as goal

abbrev pub decreases-look_at_groups : goal.decreases-look_at_groups
decreases-look_at_groups l = l.left
