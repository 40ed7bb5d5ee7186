-- The index as contracts see it.
use Rattle.std.specs.Prelude.{ℕ, ◌+◌, ◌≤◌, List, vec_len, vec_capacity}
use Rattle.lock_table.specs.declared.lock.Lock.{Lock}
use Rattle.lock_table.specs.declared.locks.Locks.{Locks}

abbrev pub locks_in : Locks → List Lock
locks_in locks = locks.locks.items

-- there is room for so many more
abbrev pub HasRoom : Locks → ℕ → Type 0
HasRoom locks n = vec_len locks.locks + n ≤ vec_capacity locks.locks
