use Rattle.fs_layout.proofs.RecordLemmas.{inode_one}
use Rattle.fs_layout.proofs.laws.inodes_have_one_value.Goals as goal

pub returns : goal.returns
returns c = inode_one
