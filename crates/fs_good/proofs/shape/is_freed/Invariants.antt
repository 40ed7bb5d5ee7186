-- Where what is left is in order, all is, and the other way round.
use Rattle.std.specs.FinMap.{entries}
use Rattle.fs_rules.specs.Good.{IsGoodKept}
use Rattle.fs_good.proofs.LoopLemmas.{Left}
use Rattle.fs_good.proofs.shape.is_freed.Given as goal

abbrev pub invariant-loop-number : goal.invariant-loop-number
invariant-loop-number l = Left (λ e. IsGoodKept l.tree e.0 e.1) l.number-iterator (entries l.tree.freed)
