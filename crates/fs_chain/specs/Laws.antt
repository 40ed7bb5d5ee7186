-- What is spelled has one value.
use Rattle.std.specs.Prelude.{◌≡◌, ℕ, List}
use Rattle.fs_chain.specs.declared.chain_block.ChainBlock.{ChainBlock}
use Rattle.fs_chain.specs.Chains.{SpellsChain}

abbrev pub ChainsHaveOneValue : Type 0
ChainsHaveOneValue = (c d : ChainBlock) (bytes : List ℕ) → SpellsChain c bytes → SpellsChain d bytes → c ≡ d
