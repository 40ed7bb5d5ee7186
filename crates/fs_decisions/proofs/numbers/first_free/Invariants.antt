use Rattle.std.proofs.Common.{◌≡◌, ◌+◌, ◌%◌, None}
use Rattle.std.specs.Prelude.{find, flat_map}
use Rattle.fs_rules.specs.Lists.{below}
use Rattle.fs_rules.specs.Numbers.{is_free, numbers_of}
use Rattle.fs_decisions.proofs.numbers.first_free.Given as goal

abbrev pub invariant-loop-k : goal.invariant-loop-k
invariant-loop-k l = find (is_free l.tree) (flat_map (λ k. numbers_of l.tree.geometry ((l.start + k) % l.tree.geometry.memories)) (below l.k)) ≡ None
