use Rattle.fs_layout.proofs.RecordLemmas.{superblock_one}
use Rattle.fs_layout.proofs.laws.superblocks_have_one_value.Goals as goal

pub returns : goal.returns
returns c = superblock_one
