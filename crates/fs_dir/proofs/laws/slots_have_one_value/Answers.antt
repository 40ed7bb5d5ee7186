use Rattle.fs_dir.proofs.BlockLemmas.{block_one}
use Rattle.fs_dir.proofs.laws.slots_have_one_value.Goals as goal

pub returns : goal.returns
returns c = block_one
