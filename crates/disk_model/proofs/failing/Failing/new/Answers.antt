use Rattle.std.proofs.Common.{ℕ}
use Rattle.std.proofs.lemmas.List.Sorted.{IsNonDecreasingBy-from_sort}
use Rattle.disk_model.proofs.failing.Failing.new.Goals as goal

pub invariant_of-result : goal.invariant_of-result
invariant_of-result c = record { ordered = IsNonDecreasingBy-from_sort (λ (x : ℕ). x) c.sort_unstable.new.self.items c.sort_unstable.ensures.sorted }
