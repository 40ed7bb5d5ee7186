use Rattle.fs_image.proofs.RecordLemmas.{read_chains}
use Rattle.fs_image.proofs.laws.read_chains_are_chains.Goals as goal

pub returns : goal.returns
returns c = read_chains
