use Rattle.plan_room.proofs.room.+look_maps.Given as goal

abbrev pub decreases-look_maps : goal.decreases-look_maps
decreases-look_maps l = l.left
