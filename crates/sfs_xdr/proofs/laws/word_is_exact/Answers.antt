use Rattle.sfs_xdr.specs.ItemLemmas.{word_exact}
use Rattle.sfs_xdr.proofs.laws.word_is_exact.Goals as goal

pub returns : goal.returns
returns c = word_exact
