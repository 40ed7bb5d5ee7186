use Rattle.fs_image.proofs.CountLemmas.{free_blocks_are_free_bits}
use Rattle.fs_image.proofs.laws.free_blocks_are_free_bits.Goals as goal

pub returns : goal.returns
returns c = free_blocks_are_free_bits
