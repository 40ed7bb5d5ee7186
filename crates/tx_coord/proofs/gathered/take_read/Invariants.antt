use Rattle.tx_coord.proofs.ReadLemmas.{ComesFrom}
use Rattle.tx_coord.proofs.gathered.take_read.Given as goal

-- no vote before the index is of the memory node
abbrev pub invariant-loop-index : goal.invariant-loop-index
invariant-loop-index l = ComesFrom l.memory l.index l.fn.grants l.grants
