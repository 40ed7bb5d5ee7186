use Rattle.nfs_service.proofs.MountingLemmas.{root_is_mounted}
use Rattle.nfs_service.proofs.laws.the_root_is_mounted.Goals as goal

pub returns : goal.returns
returns c = root_is_mounted
