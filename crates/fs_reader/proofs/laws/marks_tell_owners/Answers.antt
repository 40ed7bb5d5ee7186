use Rattle.fs_reader.proofs.OwnerLemmas.{marks_tell}
use Rattle.fs_reader.proofs.laws.marks_tell_owners.Goals as goal

pub returns : goal.returns
returns c = marks_tell
