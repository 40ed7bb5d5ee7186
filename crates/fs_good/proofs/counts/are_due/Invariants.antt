-- Where the files that are left are counted as they are due, all are, and the other way round.
use Rattle.std.proofs.Common.{◌≡◌}
use Rattle.std.specs.FinMap.{entries}
use Rattle.fs_laws.proofs.WholeLemmas.{due_of}
use Rattle.fs_good.specs.Counts.{count_in}
use Rattle.fs_good.proofs.LoopLemmas.{Left}
use Rattle.fs_good.proofs.counts.are_due.Given as goal

abbrev pub invariant-loop-number : goal.invariant-loop-number
invariant-loop-number l = Left (λ e. count_in l.counts e.0 ≡ due_of e.0 e.1 e.1.content) l.number-iterator (entries l.tree.files)
