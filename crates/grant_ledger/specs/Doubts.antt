-- The identifiers in doubt, in ascending order, and what is missing of each.
use Rattle.std.specs.Prelude.{◌≡◌, ◌<◌, ◌==◌, ℕ, Bool, true, false, not, List, [], ◌∷◌, filter, length, slice_get, Option, Some, None, if◌then◌else◌, ⊤}
use Rattle.std.specs.List.{AllByRecursion}
use Rattle.std.specs.List.Sorted.{IsPartitionPoint}
use Rattle.mini_tx.specs.declared.tx_id.TxId.{TxId}
use Rattle.mini_tx.specs.Order.{precedes, is_same}
use Rattle.grant_ledger.specs.declared.doubt.Doubt.{Doubt}

-- each identifier comes before those of the entries behind it
abbrev pub AreAscending : List Doubt → Type 0
AreAscending [] = ⊤
AreAscending (d ∷ doubts) = AllByRecursion (λ (other : Doubt). precedes d.id other.id ≡ true) doubts × AreAscending doubts

-- the participants that have not granted an identifier, where it is in doubt
abbrev pub waits_of : List Doubt → TxId → Option (List ℕ)
waits_of [] id = None
waits_of (d ∷ doubts) id = if is_same d.id id then Some d.waits.items else waits_of doubts id

-- these without one
abbrev pub without : ℕ → List ℕ → List ℕ
without memory waits = filter (λ (n : ℕ). not (n == memory)) waits

-- what is missing after a grant: with nothing missing it is no longer in doubt
abbrev pub after_grant : Option (List ℕ) → ℕ → Option (List ℕ)
after_grant None memory = None
after_grant (Some waits) memory = if length (without memory waits) == 0 then None else Some (without memory waits)

-- nothing is missing after it
abbrev pub is_last : Option (List ℕ) → ℕ → Bool
is_last None memory = false
is_last (Some waits) memory = length (without memory waits) == 0

-- the entries below this place come before the identifier, and the others do not
abbrev pub IsPlaceOf : List Doubt → TxId → ℕ → Type 0
IsPlaceOf doubts id at = IsPartitionPoint (λ (d : Doubt). precedes d.id id ≡ true) (λ (d : Doubt). precedes d.id id ≡ false) doubts at

-- the entry of an identifier stands there
pub record IsAt (doubts : List Doubt) (id : TxId) (at : ℕ) : Type 0 where
  pub doubt : Doubt
  pub there : slice_get doubts at ≡ Some doubt
  pub below : at < length doubts
  pub same : doubt.id ≡ id
  pub waits : waits_of doubts id ≡ Some doubt.waits.items
