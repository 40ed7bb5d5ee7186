use Rattle.std.proofs.Common.{ℕ, List, map, ap, subst, sym}
use Rattle.std.specs.List.{Contains}
use Rattle.std.proofs.lemmas.List.Filters.{dedup_is}
use Rattle.std.proofs.lemmas.List.Kept.{Contains-dedup_nat, Contains-from_dedup}
use Rattle.std.proofs.lemmas.List.Sorted.{Contains-permutation, IsPermutation-sym}
use Rattle.std.proofs.lemmas.Map.Keys.{IsStrictlyIncreasing-dedup}
use Rattle.mini_tx.specs.Minitransactions.{memory_of}
use Rattle.mini_tx.proofs.participants.participants_of.Goals as goal

pub returns : goal.returns
returns c =
    let is = dedup_is _ _ _ c.dedup.ensures.filtered in
    let moved = c.sort_unstable.ensures.permutation in
    let taken = c.in_ok-numbers.ensures in
    record {
      ascending = rw is (IsStrictlyIncreasing-dedup _ c.sort_unstable.ensures.sorted);
      members = λ memory. (
        λ h. rw (← taken) (Contains-permutation _ _ memory (IsPermutation-sym _ _ moved) (Contains-from_dedup _ _ memory (rw is at h))),
        λ h. rw is (Contains-dedup_nat _ memory (Contains-permutation _ _ memory moved (rw (← taken) at h))),
      );
    }
