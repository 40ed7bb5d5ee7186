use Rattle.fs_image.proofs.RecordLemmas.{read_slots}
use Rattle.fs_image.proofs.laws.read_slots_are_slots.Goals as goal

pub returns : goal.returns
returns c = read_slots
