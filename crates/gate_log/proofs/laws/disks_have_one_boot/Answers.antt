use Rattle.gate_log.proofs.LawLemmas.{boots_one}
use Rattle.gate_log.proofs.laws.disks_have_one_boot.Goals as goal

pub returns : goal.returns
returns c = boots_one
