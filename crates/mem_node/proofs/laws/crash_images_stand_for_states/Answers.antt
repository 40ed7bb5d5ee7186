use Rattle.mem_node.proofs.LawLemmas.{crash_states}
use Rattle.mem_node.proofs.laws.crash_images_stand_for_states.Goals as goal

pub returns : goal.returns
returns c = crash_states
