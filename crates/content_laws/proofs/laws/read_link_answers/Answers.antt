use Rattle.content_laws.proofs.PartLemmas.{read_link_answers}
use Rattle.content_laws.proofs.laws.read_link_answers.Goals as goal

pub returns : goal.returns
returns c = read_link_answers
