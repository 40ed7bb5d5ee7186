-- That the index of locks has the ranges of the undecided records.
use Rattle.std.specs.Prelude.{◌≡◌, ℕ, Bool, ◌&&◌, List, []}
use Rattle.std.specs.List.{list_any}
use Rattle.std.specs.Prelude.{Option, Some, None}
use Rattle.mini_tx.specs.declared.range.Range.{Range}
use Rattle.mini_tx.specs.declared.tx_id.TxId.{TxId}
use Rattle.lock_table.specs.declared.lock.Lock.{Lock}
use Rattle.lock_table.specs.Locked.{is_locked}
use Rattle.lock_table.specs.Spans.{covers}
use Rattle.mem_rules.specs.declared.kept.Kept.{Kept}
use Rattle.mem_rules.specs.Identifiers.{is_same}
use Rattle.mem_rules.specs.Rules.{is_undecided}

-- whether an undecided record of an identifier has a place in its ranges
abbrev pub is_locked_by : List Kept → ℕ → TxId → Bool
is_locked_by kept place id = list_any (λ (k : Kept). is_undecided k && (is_same k.id id && list_any (covers place) k.ranges)) kept

-- at each place the index has the identifiers of these records
abbrev pub IsIndexed : List Kept → List Lock → Type 0
IsIndexed kept locks = (place : ℕ) (id : TxId) → is_locked locks place id ≡ is_locked_by kept place id

abbrev pub ranges_kept : Option Kept → List Range
ranges_kept None = []
ranges_kept (Some k) = k.ranges
