use Rattle.reading_planner.proofs.AnswerLemmas as answer
use Rattle.reading_planner.proofs.laws.read_finals_are_sound.Goals as goal

pub returns : goal.returns
returns c = answer.read_finals_are_sound
