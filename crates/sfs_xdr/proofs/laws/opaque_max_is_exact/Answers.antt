use Rattle.sfs_xdr.specs.ItemLemmas.{opaque_max_exact}
use Rattle.sfs_xdr.proofs.laws.opaque_max_is_exact.Goals as goal

pub returns : goal.returns
returns c = opaque_max_exact
