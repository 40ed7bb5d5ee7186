use Rattle.plan_looks.proofs.names.+look_in_groups.Given as goal

abbrev pub decreases-look_in_groups : goal.decreases-look_in_groups
decreases-look_in_groups l = l.left
