-- Identifiers as numbers.
use Rattle.std.specs.Prelude.{◌≡◌, ℕ, ◌+◌, ◌*◌, ◌/◌, ◌^◌, ◌<◌, ◌⊎◌, ◌↔◌}

-- the identifier of a coordinator, the number of its boot, and the number of the minitransaction in this boot
abbrev pub identifier : ℕ → ℕ → ℕ → ℕ
identifier coord boot seq = (coord * 2 ^ 64 + boot) * 2 ^ 64 + seq

-- the coordinator of an identifier
abbrev pub coordinator_of : ℕ → ℕ
coordinator_of t = t / 2 ^ 128

-- identifiers are ordered by coordinator, then boot, then number, and tell their coordinator
abbrev pub IdentifiersAreOrdered : Type 0
IdentifiersAreOrdered = (c b q d a p : ℕ) → b < 2 ^ 64 → q < 2 ^ 64 → a < 2 ^ 64 → p < 2 ^ 64
    → (identifier c b q < identifier d a p) ↔ ((c < d) ⊎ ((c ≡ d) × ((b < a) ⊎ ((b ≡ a) × (q < p)))))

-- the coordinator of an identifier is the one that it was made of
abbrev pub IdentifiersTellTheirCoordinator : Type 0
IdentifiersTellTheirCoordinator = (c b q : ℕ) → b < 2 ^ 64 → q < 2 ^ 64 → coordinator_of (identifier c b q) ≡ c
