use Rattle.std.proofs.Common.{lit<}
use Rattle.sfs_xdr.specs.CodecLemmas.{text_exact}
use Rattle.mount_proto.proofs.laws.paths_are_exact.Goals as goal

pub returns : goal.returns
returns c = text_exact 1024 (lit< tt)
