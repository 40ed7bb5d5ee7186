use Rattle.fs_reader.proofs.OwnerLemmas.{files_take}
use Rattle.fs_reader.proofs.laws.files_take_theirs.Goals as goal

pub returns : goal.returns
returns c = files_take
