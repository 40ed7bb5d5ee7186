use Rattle.content_laws.proofs.NameLemmas.{read_dir_answers}
use Rattle.content_laws.proofs.laws.read_dir_answers.Goals as goal

pub returns : goal.returns
returns c = read_dir_answers
