use Rattle.sfs_xdr.specs.ItemLemmas.{opaque_exact}
use Rattle.sfs_xdr.proofs.laws.opaque_is_exact.Goals as goal

pub returns : goal.returns
returns c = opaque_exact
