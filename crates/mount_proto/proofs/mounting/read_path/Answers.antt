use Rattle.std.proofs.Common.{ap, sym, ◌∙◌}
use Rattle.sfs_xdr.specs.Reading.{opaque_max_of}
use Rattle.sfs_xdr.specs.CodecLemmas.{plainly_is}
use Rattle.mount_proto.proofs.mounting.read_path.Goals as goal

pub returns-in-Ok-clause-found : goal.returns-in-Ok-clause-found
returns-in-Ok-clause-found c = (
  c.opaque_max.new.self,
  plainly_is (opaque_max_of 1024 c.args.args.now) (c.in-Ok.path.now, c.opaque_max.new.self) (ap (opaque_max_of 1024) (sym c.new.ensures) ∙ c.in-Ok.ensures),
)
