use Rattle.fs_decisions.proofs.ChainLemmas.{IsMoved}
use Rattle.fs_decisions.proofs.chain.check_chain.Given as goal

abbrev pub invariant-loop : goal.invariant-loop
invariant-loop l = IsMoved l.tree l.dir l.source l.counter l.at l.is_above
