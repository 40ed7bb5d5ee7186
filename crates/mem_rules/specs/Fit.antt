-- Which setups, messages and entries a memory node may meet.
use Rattle.std.specs.Prelude.{◌≡◌, ◌<◌, ◌≤◌, ◌+◌, ℕ, Bool, true, false, List, [], ◌∷◌, length, map, Option, Some, None, All, Contains}
use Rattle.std.specs.List.{list_any}
use Rattle.mini_tx.specs.declared.actor.Actor.{Actor}
use Rattle.mini_tx.specs.declared.actor.Actor.TheVariants.{Node, Memory, Manager}
use Rattle.mini_tx.specs.declared.entry.Entry.{Entry}
use Rattle.mini_tx.specs.declared.entry.Entry.TheVariants as entry
use Rattle.mini_tx.specs.declared.geometry.Geometry4.{Geometry4}
use Rattle.mini_tx.specs.declared.message.Message.{Message}
use Rattle.mini_tx.specs.declared.message.Message.TheVariants as message
use Rattle.mini_tx.specs.declared.placed_item.PlacedItem.{PlacedItem}
use Rattle.mini_tx.specs.declared.range.Range.{Range}
use Rattle.mini_tx.specs.declared.tx_id.TxId.{TxId}
use Rattle.mini_tx.specs.declared.write_at.WriteAt.{WriteAt}
use Rattle.mini_tx.specs.Laws.{IsTypedId, IsTypedCut, IsTypedVote}
use Rattle.mini_tx.specs.Minitransactions.{memory_of, place_of, bytes_of, refusal}
use Rattle.mini_tx.specs.EntryGrammar.{ascends_from}
use Rattle.fs_layout.specs.Places.{image_size}
pub use Rattle.lock_table.specs.Locked.{IsIn}
pub use Rattle.lock_table.specs.Spans.{covers}
use Rattle.mem_rules.specs.declared.kept.Kept.{Kept}
use Rattle.mem_rules.specs.declared.setup.Setup.{Setup}
use Rattle.mem_rules.specs.State.{State, kept_of}
use Rattle.mem_rules.specs.Rules.{is_undecided, blocks}

-- the numbers of a cluster are within their limits, and the memory node is one of it
pub record IsSetup (s : Setup) : Type 0 where
  pub nodes : (1 ≤ s.geometry.nodes) × (s.geometry.nodes ≤ 8)
  pub memories : (1 ≤ s.geometry.memories) × (s.geometry.memories ≤ 8)
  pub blocks : (1 ≤ s.geometry.blocks) × (s.geometry.blocks ≤ 16384)
  pub inodes : (1 ≤ s.geometry.inodes) × (s.geometry.inodes ≤ 16384)
  pub index : s.index < s.geometry.memories

-- the bytes of an image
abbrev pub size_of : Setup → ℕ
size_of s = image_size (record { blocks = s.geometry.blocks; inodes = s.geometry.inodes })

-- ---- entries

-- so many bytes from a place on are some, and end within the image
abbrev pub IsInside : ℕ → ℕ → ℕ → Type 0
IsInside size at n = (1 ≤ n) × (at + n ≤ size)

abbrev pub IsWriteInside : ℕ → WriteAt → Type 0
IsWriteInside size w = IsInside size w.at (length w.bytes)

abbrev pub IsRangeInside : ℕ → Range → Type 0
IsRangeInside size r = IsInside size r.at r.length

-- each byte of a write lies in one of the ranges
abbrev pub IsCovered : List Range → WriteAt → Type 0
IsCovered ranges w = (place : ℕ) → w.at ≤ place → place < w.at + length w.bytes → IsIn ranges place

-- the participants are of the cluster, with this memory node among them
abbrev pub AreThere : Setup → List ℕ → Type 0
AreThere s participants = All (λ m. m < s.geometry.memories) participants × Contains participants s.index

-- a record of several participants
pub record IsFitPrepared (s : Setup) (state : State) (id : TxId) (participants : List ℕ) (ranges : List Range) (writes : List WriteAt) : Type 0 where
  pub coordinator : id.coord < s.geometry.nodes
  pub there : AreThere s participants
  pub inside : All (IsRangeInside (size_of s)) ranges
  pub written : All (IsWriteInside (size_of s)) writes
  pub covered : All (IsCovered ranges) writes
  pub free : list_any (blocks ranges) state.kept ≡ false
  pub unseen : kept_of state.kept id ≡ None

-- there is such a record, and whether it is undecided is this
abbrev pub IsKeptAs : Bool → Option Kept → Type 0
IsKeptAs undecided None = ⊥
IsKeptAs undecided (Some k) = is_undecided k ≡ undecided

-- an entry that the log of this memory node may have behind those that made this state
abbrev pub IsFit : Setup → State → Entry → Type 0
IsFit s state (entry.Single id v writes) = (id.coord < s.geometry.nodes) × All (IsWriteInside (size_of s)) writes
IsFit s state (entry.Prepared id participants v ranges writes) = IsFitPrepared s state id participants ranges writes
IsFit s state (entry.Refused id v) = id.coord < s.geometry.nodes
IsFit s state (entry.Decided id commit) = (id.coord < s.geometry.nodes) × IsKeptAs true (kept_of state.kept id)
IsFit s state (entry.Forgotten id) = (id.coord < s.geometry.nodes) × IsKeptAs false (kept_of state.kept id)
IsFit s state (entry.Cut cut) = Unit {0}
IsFit s state (entry.Floor id v) = id.coord < s.geometry.nodes

-- the numbers that an entry names are within their types
abbrev pub AreNamesTyped : Entry → Type 0
AreNamesTyped (entry.Single id v writes) = IsTypedId id × IsTypedVote v
AreNamesTyped (entry.Prepared id participants v ranges writes) = IsTypedId id × IsTypedVote v
AreNamesTyped (entry.Refused id v) = IsTypedId id × IsTypedVote v
AreNamesTyped (entry.Decided id commit) = IsTypedId id
AreNamesTyped (entry.Forgotten id) = IsTypedId id
AreNamesTyped (entry.Cut cut) = IsTypedCut cut
AreNamesTyped (entry.Floor id v) = IsTypedId id × IsTypedVote v

-- ---- items

-- each item has bytes, and ends within the image
abbrev pub AreInside : ℕ → List PlacedItem → Type 0
AreInside size items = All (λ (p : PlacedItem). IsInside size (place_of p.item) (bytes_of p.item)) items

-- ---- messages

-- the actor is one of the cluster
abbrev pub IsOfCluster : Geometry4 → Actor → Type 0
IsOfCluster g (Node n) = n < g.nodes
IsOfCluster g (Memory m) = m < g.memories
IsOfCluster g Manager = Unit {0}

-- ascending, and below the number of memory nodes
abbrev pub AscendBelow : ℕ → List ℕ → Type 0
AscendBelow limit [] = Unit {0}
AscendBelow limit (n ∷ ns) = (n < limit) × ((ascends_from n ns ≡ true) × AscendBelow limit ns)

-- a prepare that a memory node may be sent: its coordinator and its participants are of the cluster, the participants
-- ascend with this memory node among them, and the items are its own, are valid together, and have ascending places
pub record IsFitPrepare (s : Setup) (id : TxId) (participants : List ℕ) (items : List PlacedItem) : Type 0 where
  pub coordinator : id.coord < s.geometry.nodes
  pub ascend : AscendBelow s.geometry.memories participants
  pub among : Contains participants s.index
  pub own : All (λ (p : PlacedItem). memory_of p.item ≡ s.index) items
  pub valid : refusal (map (λ (p : PlacedItem). p.item) items) s.geometry.memories (size_of s) ≡ None
  pub places : AscendBelow 512 (map (λ (p : PlacedItem). p.place) items)

-- a message that a memory node may be sent
abbrev pub IsFitMessage : Setup → Message → Type 0
IsFitMessage s (message.Prepare id participants items) = IsFitPrepare s id participants items
IsFitMessage s (message.Decide id commit) = id.coord < s.geometry.nodes
IsFitMessage s (message.Forget id) = id.coord < s.geometry.nodes
IsFitMessage s (message.Ask id) = id.coord < s.geometry.nodes
IsFitMessage s (message.Voted id v) = id.coord < s.geometry.nodes
IsFitMessage s (message.Done id) = id.coord < s.geometry.nodes
IsFitMessage s (message.Answer id ok) = id.coord < s.geometry.nodes
IsFitMessage s message.List = Unit {0}
IsFitMessage s (message.Kept ids cut) = Unit {0}
IsFitMessage s (message.Hold cut) = Unit {0}
IsFitMessage s (message.Held cut answer) = Unit {0}
IsFitMessage s (message.Release cut) = Unit {0}
IsFitMessage s (message.Drop cut) = Unit {0}
IsFitMessage s (message.ReadCut cut place) = Unit {0}
IsFitMessage s (message.Piece cut place bytes) = Unit {0}

-- a message that is none about cuts
abbrev pub IsOfTransactions : Message → Type 0
IsOfTransactions (message.Prepare id participants items) = Unit {0}
IsOfTransactions (message.Voted id v) = Unit {0}
IsOfTransactions (message.Decide id commit) = Unit {0}
IsOfTransactions (message.Done id) = Unit {0}
IsOfTransactions (message.Forget id) = Unit {0}
IsOfTransactions message.List = Unit {0}
IsOfTransactions (message.Kept ids cut) = Unit {0}
IsOfTransactions (message.Ask id) = Unit {0}
IsOfTransactions (message.Answer id ok) = Unit {0}
IsOfTransactions (message.Hold cut) = ⊥
IsOfTransactions (message.Held cut answer) = Unit {0}
IsOfTransactions (message.Release cut) = ⊥
IsOfTransactions (message.Drop cut) = ⊥
IsOfTransactions (message.ReadCut cut place) = ⊥
IsOfTransactions (message.Piece cut place bytes) = Unit {0}
