use Rattle.sfs_xdr.specs.ItemLemmas.{writers_are_in}
use Rattle.sfs_xdr.proofs.laws.writers_are_in_the_grammar.Goals as goal

pub returns : goal.returns
returns c = writers_are_in
