use Rattle.fs_laws.proofs.WordsLemmas.{fresh_in_words, words_stay_words}
use Rattle.fs_laws.proofs.laws.words_stay_words.Goals as goal

pub returns-clause-fresh : goal.returns-clause-fresh
returns-clause-fresh c = fresh_in_words

pub returns-clause-stays : goal.returns-clause-stays
returns-clause-stays c = words_stay_words
