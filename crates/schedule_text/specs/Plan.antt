-- The source and the sink in memory, as contracts see them.
use Rattle.std.specs.Prelude.{ℕ, ◌+◌, ◌-◌, ◌^◌, List, min}

-- the count after this one, which stands still at the last value of a u64
abbrev pub next_count : ℕ → ℕ
next_count n = min (n + 1) (2 ^ 64 - 1)

-- a source in memory
pub record Supply : Type 0 where
  -- the bytes that are left
  pub left : List ℕ
  -- the numbers of the calls that fail; the first call has the number 1
  pub failing : List ℕ
  -- how many calls were made
  pub calls : ℕ
  -- the most bytes that a call gives
  pub most : ℕ
  -- how many calls failed
  pub faults : ℕ

-- a sink in memory
pub record Store : Type 0 where
  -- the bytes that were taken
  pub held : List ℕ
  -- the most bytes that it holds
  pub room : ℕ
  -- the numbers of the calls that fail; the first call has the number 1
  pub failing : List ℕ
  -- how many calls were made
  pub calls : ℕ
  -- the most bytes that a call takes
  pub most : ℕ
  -- how many calls failed
  pub faults : ℕ
