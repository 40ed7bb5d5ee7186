use Rattle.plan_room.proofs.PickLemmas as pick
use Rattle.plan_room.proofs.laws.picked_are_free.Goals as goal

pub returns : goal.returns
returns c = pick.picked_are_free
