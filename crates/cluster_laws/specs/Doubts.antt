-- Which minitransactions of a story are in doubt, and how each step changes that.
use Rattle.std.specs.Prelude.{◌≡◌, ◌⊎◌, ℕ, Bool, true, false, not, List, [], ◌∷◌, ◌++◌, filter, Option, Some, None, slice_get, slice_index_or, if◌then◌else◌}
use Rattle.mini_tx.specs.declared.actor.Actor.TheVariants.{Memory}
use Rattle.mini_tx.specs.declared.entry.Entry.{Entry}
use Rattle.mini_tx.specs.declared.item.Item.{Item}
use Rattle.mini_tx.specs.declared.posted.Posted.{Posted}
use Rattle.mini_tx.specs.declared.tx_id.TxId.{TxId}
use Rattle.mini_tx.specs.Order.{is_same}
use Rattle.tx_coord.specs.State as coord
use Rattle.tx_coord.specs.Rules.{participants_of, next_id}
use Rattle.tx_rules.specs.Mini.{In}
use Rattle.grant_ledger.specs.Doubts.{after_grant, is_last}
use Rattle.story_rules.specs.MemoryNodes.{MemoryNode, reaction}
use Rattle.story_rules.specs.Story.{Begun, Seat, Story, Up}
use Rattle.story_rules.specs.Steps.{Handled, has_granted, has_write, grant_of, message_at, begun_by, delivered}
use Rattle.story_laws.specs.Acts.{IsTold}
use Rattle.story_laws.specs.Beginnings.{WasBegun}

-- the participants that have no Granted entry of an identifier
abbrev pub missing_in : List (List Entry) → TxId → List ℕ → List ℕ
missing_in logs id ms = filter (λ (m : ℕ). not (has_granted id (slice_index_or logs m []))) ms

-- who is missing of each identifier that is in doubt; nothing of the others
abbrev pub Waits : Type 0
Waits = TxId → Option (List ℕ)

-- a change is in doubt, and these participants are missing; or it is in the history, or was refused
abbrev pub IsInDoubt : Story → Begun → Option (List ℕ) → Type 0
IsInDoubt story b (Some waits) = waits ≡ missing_in story.logs b.id (participants_of b.items)
IsInDoubt story b None = In b.id story.committed ⊎ In b.id story.refused

-- the changes that were begun are in doubt so, and nothing else is
pub record AreInDoubt (story : Story) (waits : Waits) : Type 0 where
  pub changes : (b : Begun) → In b story.begun → has_write b.items ≡ true → IsInDoubt story b (waits b.id)
  pub readers : (b : Begun) → In b story.begun → has_write b.items ≡ false → waits b.id ≡ None
  pub known : (id : TxId) (ms : List ℕ) → waits id ≡ Some ms → WasBegun story.begun id

-- ---- what becomes of it

-- a participant has granted this, or nothing
abbrev pub waits_after : Waits → Option TxId → ℕ → Waits
waits_after waits None m other = waits other
waits_after waits (Some id) m other = if is_same id other then after_grant (waits id) m else waits other

-- and the place in the history that this takes
abbrev pub points_of : Waits → Option TxId → ℕ → List TxId
points_of waits None m = []
points_of waits (Some id) m = if is_last (waits id) m then id ∷ [] else []

-- these items were begun: where they change something, all participants are missing
abbrev pub waits_begun : Waits → TxId → List Item → Waits
waits_begun waits id items other =
    if has_write items then (if is_same id other then Some (participants_of items) else waits other) else waits other

-- these were refused
abbrev pub waits_without : Waits → List TxId → Waits
waits_without waits [] other = waits other
waits_without waits (id ∷ ids) other = if is_same id other then None else waits_without waits ids other

-- ---- laws

-- a vote is counted: it takes a place in the history where it is the last one
abbrev pub CountsKeepDoubts : Type 0
CountsKeepDoubts = (size : ℕ) (story : Story) (k m : ℕ) (p : Posted) (n : MemoryNode) (waits : Waits) → IsTold size story → message_at story k ≡ Some p → p.to ≡ Memory m
    → slice_get story.sites m ≡ Some (Up n) → AreInDoubt story waits
    → AreInDoubt (delivered story k Handled) (waits_after waits (grant_of (reaction n p.message).entry) m)
    × ((delivered story k Handled).committed ≡ story.committed ++ points_of waits (grant_of (reaction n p.message).entry) m)

-- a beginning is in doubt, where it changes something
abbrev pub BeginningsAreInDoubt : Type 0
BeginningsAreInDoubt = (size : ℕ) (story : Story) (n : ℕ) (seat : Seat) (c : coord.State) (items : List Item) (waits : Waits) → IsTold size story
    → slice_get story.nodes n ≡ Some seat → seat.actor ≡ Some c → AreInDoubt story waits
    → (waits (next_id c) ≡ None) × AreInDoubt (begun_by story n items) (waits_begun waits (next_id c) items)

-- what else a step does
pub record LeavesDoubts (before now : Story) (ids : List TxId) : Type 0 where
  pub begun : now.begun ≡ before.begun
  pub logs : now.logs ≡ before.logs
  pub committed : now.committed ≡ before.committed
  pub refused : now.refused ≡ before.refused ++ ids

-- what was refused is in doubt no longer
abbrev pub RefusedAreNotInDoubt : Type 0
RefusedAreNotInDoubt = (before now : Story) (ids : List TxId) (waits : Waits) → LeavesDoubts before now ids → AreInDoubt before waits → AreInDoubt now (waits_without waits ids)

-- two that say the same of each identifier
abbrev pub DoubtsAreAlike : Type 0
DoubtsAreAlike = (story : Story) (waits now : Waits) → AreInDoubt story waits → ((id : TxId) → now id ≡ waits id) → AreInDoubt story now
