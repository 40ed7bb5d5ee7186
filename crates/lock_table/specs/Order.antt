-- The order of identifiers, as tests, and the least of them.
use Rattle.std.specs.Prelude.{◌≡◌, ◌==◌, ◌&&◌, ◌||◌, Bool, false, nat_lt, List, [], ◌∷◌, Option, Some, None, if◌then◌else◌}
use Rattle.mini_tx.specs.declared.tx_id.TxId.{TxId}
use Rattle.lock_table.specs.declared.lock.Lock.{Lock}

-- one identifier comes before another: by coordinator, then by boot number, then by the number within it
abbrev pub precedes : TxId → TxId → Bool
precedes a b = nat_lt a.coord b.coord || ((a.coord == b.coord) && (nat_lt a.boot b.boot || ((a.boot == b.boot) && nat_lt a.seq b.seq)))

abbrev pub is_same : TxId → TxId → Bool
is_same a b = (a.coord == b.coord) && ((a.boot == b.boot) && (a.seq == b.seq))

-- the first of both
abbrev pub least_of : Option TxId → TxId → Option TxId
least_of None id = Some id
least_of (Some least) id = if precedes id least then Some id else Some least

-- the least of an identifier and the holders of these locks
abbrev pub least_among : Option TxId → List Lock → Option TxId
least_among least [] = least
least_among least (l ∷ locks) = least_among (least_of least l.holder) locks

-- the least identifier with a property; none where none has it
abbrev pub IsLeastIn : (TxId → Type 0) → Option TxId → Type 0
IsLeastIn P None = (id : TxId) → P id → ⊥
IsLeastIn P (Some least) = P least × ((id : TxId) → P id → precedes id least ≡ false)
