use Rattle.std.proofs.Common.{◌≡◌, ◌+◌, List, ◌++◌, length, drop}
use Rattle.std.specs.Prelude.{vec_len, vec_capacity}
use Rattle.lock_table.specs.declared.lock.Lock.{Lock}
use Rattle.lock_table.proofs.taken.remove_all.Given as goal

-- so many of the middle are gone
abbrev pub invariant-loop : goal.invariant-loop
invariant-loop l = record {
  left : (front middle rest : List Lock) → l.fn.locks.items ≡ front ++ (middle ++ rest) → l.from ≡ length front → l.count ≡ length middle
      → l.locks.items ≡ front ++ (drop l.counter middle ++ rest);
  fewer : vec_len l.locks + l.counter ≡ vec_len l.fn.locks;
  capacity : vec_capacity l.locks ≡ vec_capacity l.fn.locks;
}
