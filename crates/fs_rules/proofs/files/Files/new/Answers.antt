use Rattle.fs_rules.proofs.FilesLemmas.{none_used}
use Rattle.fs_rules.proofs.files.Files.new.Goals as goal

pub invariant_of-result : goal.invariant_of-result
invariant_of-result c = none_used c.new.result c.new.ensures
