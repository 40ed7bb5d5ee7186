use Rattle.fs_chain.proofs.ChainLemmas.{chain_one}
use Rattle.fs_chain.proofs.laws.chains_have_one_value.Goals as goal

pub returns : goal.returns
returns c = chain_one
