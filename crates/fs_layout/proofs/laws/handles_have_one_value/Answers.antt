use Rattle.fs_layout.proofs.RecordLemmas.{handle_one}
use Rattle.fs_layout.proofs.laws.handles_have_one_value.Goals as goal

pub returns : goal.returns
returns c = handle_one
