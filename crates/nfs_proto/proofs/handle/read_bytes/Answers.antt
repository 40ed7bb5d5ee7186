use Rattle.std.proofs.Common.{sym}
use Rattle.sfs_xdr.specs.ItemLemmas.{opaque_found}
use Rattle.nfs_proto.proofs.handle.read_bytes.Goals as goal

pub copy_from_slice-requires : goal.copy_from_slice-requires
copy_from_slice-requires c = sym (opaque_found 32 c.args.reader.now c.in-Ok.bytes.now c.opaque.new.self c.in-Ok.ensures).sized
