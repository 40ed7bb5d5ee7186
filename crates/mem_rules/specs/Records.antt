-- The records that are kept, and where one stands among ascending ones.
use Rattle.std.specs.Prelude.{◌≡◌, ◌<◌, ℕ, true, false, List, map, Box, box_value, vec_len, vec_capacity}
use Rattle.std.specs.declared.alloc.Global.{Global}
use Rattle.std.specs.List.Sorted.{IsPartitionPoint}
use Rattle.mini_tx.specs.declared.tx_id.TxId.{TxId}
use Rattle.mem_rules.specs.declared.kept.Kept.{Kept}
use Rattle.mem_rules.specs.declared.records.Records.{Records}
use Rattle.mem_rules.specs.Identifiers.{precedes}

-- the records below this place come before the identifier, and the others do not
abbrev pub IsPlaceOf : List Kept → TxId → ℕ → Type 0
IsPlaceOf kept id at = IsPartitionPoint (λ (k : Kept). precedes k.id id ≡ true) (λ (k : Kept). precedes k.id id ≡ false) kept at

-- records, each without the box that it lies in
abbrev pub unboxed : List (Box Kept Global) → List Kept
unboxed boxes = map box_value boxes

abbrev pub records_in : Records → List Kept
records_in r = unboxed r.0.items

-- one more may be put among them without taking memory
abbrev pub HasRecordRoom : Records → Type 0
HasRecordRoom r = vec_len r.0 < vec_capacity r.0
