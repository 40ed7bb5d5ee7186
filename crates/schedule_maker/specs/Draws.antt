-- Numbers drawn one after another from a number of 64 bits (a linear congruential generator).
use Rattle.std.specs.Prelude.{ℕ, ◌+◌, ◌*◌, ◌/◌, ◌%◌, ◌^◌}

-- the number after this one
unfoldable pub next_number : ℕ → ℕ
next_number x = (x * 6364136223846793005 + 1442695040888963407) % 2 ^ 64

-- what a draw below k gives, after the number was replaced by the next one
unfoldable pub drawn : ℕ → ℕ → ℕ
drawn x k = (x / 2 ^ 33) % k
