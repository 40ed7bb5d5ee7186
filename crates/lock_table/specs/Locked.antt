-- Which identifier locks which places, and what the calls make of it.
use Rattle.std.specs.Prelude.{◌≡◌, ℕ, ◌+◌, ◌<◌, ◌≤◌, Bool, true, false, not, ◌&&◌, ◌||◌, nat_le, nat_lt, List, [], ◌∷◌, ◌++◌, length, ⊤}
use Rattle.std.specs.List.{AllByRecursion, AllByRecursion-prop, list_any}
use Rattle.std.specs.List.Sorted.{IsPartitionPoint}
use Rattle.std.proofs.Props.{props}
use Rattle.mini_tx.specs.declared.tx_id.TxId.{TxId}
use Rattle.mini_tx.specs.declared.range.Range.{Range}
use Rattle.lock_table.specs.declared.lock.Lock.{Lock}
use Rattle.lock_table.specs.declared.span.Span.{Span}
use Rattle.lock_table.specs.Order.{is_same}
use Rattle.lock_table.specs.Spans.{covers, has, hull}

-- ---- what the index says

-- whether an identifier locks a place
abbrev pub is_locked : List Lock → ℕ → TxId → Bool
is_locked locks place id = list_any (λ (l : Lock). is_same l.holder id && has place l.span) locks

-- one of these ranges has a place
abbrev pub IsIn : List Range → ℕ → Type 0
IsIn ranges place = list_any (covers place) ranges ≡ true

-- an identifier locks a place of these ranges
abbrev pub Blocks : List Lock → List Range → TxId → Type 0
Blocks locks ranges id = (place : ℕ) × IsIn ranges place × (is_locked locks place id ≡ true)

-- no other than this identifier does
abbrev pub IsFreeFor : List Lock → TxId → List Range → Type 0
IsFreeFor locks holder ranges = (place : ℕ) (id : TxId) → IsIn ranges place → is_locked locks place id ≡ true → id ≡ holder

abbrev pub IsSpanFreeFor : List Lock → TxId → Span → Type 0
IsSpanFreeFor locks holder s = (place : ℕ) (id : TxId) → has place s ≡ true → is_locked locks place id ≡ true → id ≡ holder

-- these ranges have all places that an identifier locks
abbrev pub IsWhole : List Lock → TxId → List Range → Type 0
IsWhole locks holder ranges = (place : ℕ) → is_locked locks place holder ≡ true → IsIn ranges place

-- the identifier locks these ranges beside all that was locked before
abbrev pub IsLockedBeside : List Lock → List Lock → TxId → List Range → Type 0
IsLockedBeside before now holder ranges =
    (place : ℕ) (id : TxId) → is_locked now place id ≡ (is_locked before place id || (is_same holder id && list_any (covers place) ranges))

abbrev pub IsSpanLocked : List Lock → List Lock → TxId → Span → Type 0
IsSpanLocked before now holder s =
    (place : ℕ) (id : TxId) → is_locked now place id ≡ (is_locked before place id || (is_same holder id && has place s))

-- all is locked that was locked before, but for what this identifier locked
abbrev pub IsFreed : List Lock → List Lock → TxId → Type 0
IsFreed before now holder = (place : ℕ) (id : TxId) → is_locked now place id ≡ (is_locked before place id && not (is_same holder id))

-- ---- how the locks lie

-- each has a place, and ends before the next begins
abbrev pub IsLine : List Lock → Type 0
IsLine [] = ⊤
IsLine (l ∷ locks) = (l.span.at < l.span.end) × AllByRecursion (λ (o : Lock). l.span.end ≤ o.span.at) locks × IsLine locks

-- it has one proof at most
pub IsLine-prop : (locks : List Lock) → IsProp (IsLine locks)
IsLine-prop [] = Prim.hlevel
IsLine-prop (l ∷ locks) = Prim.hlevel (props, AllByRecursion-prop, IsLine-prop locks)

-- so many end at a place or before it, and so many begin before it
abbrev pub IsEndedBy : List Lock → ℕ → ℕ → Type 0
IsEndedBy locks place n = IsPartitionPoint (λ (l : Lock). nat_le l.span.end place ≡ true) (λ (l : Lock). nat_le l.span.end place ≡ false) locks n

abbrev pub IsBegunBy : List Lock → ℕ → ℕ → Type 0
IsBegunBy locks place n = IsPartitionPoint (λ (l : Lock). nat_lt l.span.at place ≡ true) (λ (l : Lock). nat_lt l.span.at place ≡ false) locks n

abbrev pub IsEnded : Span → Lock → Type 0
IsEnded s l = l.span.end ≤ s.at

abbrev pub Meets : Span → Lock → Type 0
Meets s l = (s.at < l.span.end) × (l.span.at < s.end)

abbrev pub IsBehind : Span → Lock → Type 0
IsBehind s l = s.end ≤ l.span.at

-- the locks from a number on and below another are those that have places of a span
pub record IsWindow (locks : List Lock) (s : Span) (from to : ℕ) : Type 0 where
  pub front : List Lock
  pub middle : List Lock
  pub rest : List Lock
  pub is : locks ≡ front ++ (middle ++ rest)
  pub begins : from ≡ length front
  pub ends : to ≡ length front + length middle
  pub before : AllByRecursion (IsEnded s) front
  pub meet : AllByRecursion (Meets s) middle
  pub behind : AllByRecursion (IsBehind s) rest

-- so many were taken out from a number on
abbrev pub IsLeft : List Lock → List Lock → ℕ → ℕ → Type 0
IsLeft before now from count =
    (front middle rest : List Lock) → before ≡ front ++ (middle ++ rest) → from ≡ length front → count ≡ length middle → now ≡ front ++ rest

-- these were taken out
pub record IsTakenOut (before now : List Lock) (s : Span) (at : ℕ) (whole : Span) : Type 0 where
  pub to : ℕ
  pub window : IsWindow before s at to
  pub left : now ≡ window.front ++ window.rest
  pub spans : whole ≡ hull s window.middle
