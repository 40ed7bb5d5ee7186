use Rattle.read_laws.proofs.SpaceLemmas.{stat_fs_answers}
use Rattle.read_laws.proofs.laws.stat_fs_answers.Goals as goal

pub returns : goal.returns
returns c = stat_fs_answers
