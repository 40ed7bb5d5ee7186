use Rattle.read_laws.proofs.AttrLemmas.{get_attr_answers}
use Rattle.read_laws.proofs.laws.get_attr_answers.Goals as goal

pub returns : goal.returns
returns c = get_attr_answers
