use Rattle.sfs_xdr.specs.ItemLemmas.{boolean_exact}
use Rattle.sfs_xdr.proofs.laws.boolean_is_exact.Goals as goal

pub returns : goal.returns
returns c = boolean_exact
