-- That what is logged, posted, cast, running or refused was begun.
use Rattle.std.specs.Prelude.{◌≡◌, ℕ, Bool, List, Option, Some, None, slice_get, ⊤}
use Rattle.mini_tx.specs.declared.actor.Actor.{Actor}
use Rattle.mini_tx.specs.declared.actor.Actor.TheVariants.{Memory}
use Rattle.mini_tx.specs.declared.entry.Entry.{Entry}
use Rattle.mini_tx.specs.declared.entry.Entry.TheVariants as entry
use Rattle.mini_tx.specs.declared.item.Item.{Item}
use Rattle.mini_tx.specs.declared.message.Message.{Message}
use Rattle.mini_tx.specs.declared.message.Message.TheVariants as message
use Rattle.mini_tx.specs.declared.placed_item.PlacedItem.{PlacedItem}
use Rattle.mini_tx.specs.declared.posted.Posted.{Posted}
use Rattle.mini_tx.specs.declared.tx_id.TxId.{TxId}
use Rattle.tx_coord.specs.declared.finishing.Finishing.{Finishing}
use Rattle.tx_coord.specs.State as coord
use Rattle.tx_coord.specs.Rules.{participants_of, placed_for}
use Rattle.tx_rules.specs.Mini.{In}
use Rattle.mem_rules.specs.State.{State}
use Rattle.story_rules.specs.Story.{Begun, Seat, Cast, Entered, Sent, Story, opened_story}
use Rattle.story_rules.specs.Steps.{How, log_of, delivered, begun_by, given_up, cleared, resent, crashed, node_started, memory_started}

-- something was begun under this identifier since the opening
abbrev pub WasBegun : List Begun → TxId → Type 0
WasBegun begun id = (b : Begun) × In b begun × (b.id ≡ id)

-- whom an entry names
abbrev pub entry_of : Entry → Option TxId
entry_of (entry.Single id v writes) = Some id
entry_of (entry.Prepared id participants v ranges writes) = Some id
entry_of (entry.Refused id v) = Some id
entry_of (entry.Decided id commit) = Some id
entry_of (entry.Forgotten id) = Some id
entry_of (entry.Cut cut) = None
entry_of (entry.Floor id v) = Some id

-- where it is one, it was begun
abbrev pub WasBegunIf : List Begun → Option TxId → Type 0
WasBegunIf begun None = ⊤
WasBegunIf begun (Some id) = WasBegun begun id

-- a `prepare` to this actor: it is a participant of what was begun, and is told all participants and its own items
pub record IsPart (b : Begun) (to : Actor) (id : TxId) (participants : List ℕ) (items : List PlacedItem) : Type 0 where
  pub memory : ℕ
  pub receiver : to ≡ Memory memory
  pub takes_part : In memory (participants_of b.items)
  pub same : b.id ≡ id
  pub participants_are : participants ≡ participants_of b.items
  pub items_are : items ≡ placed_for b.items memory

-- a message to this actor is about what was begun; `kept` names what memory nodes keep, which may be older
abbrev pub IsAboutBegun : List Begun → Actor → Message → Type 0
IsAboutBegun begun to (message.Prepare id participants items) = (b : Begun) × In b begun × IsPart b to id participants items
IsAboutBegun begun to (message.Voted id v) = WasBegun begun id
IsAboutBegun begun to (message.Decide id commit) = WasBegun begun id
IsAboutBegun begun to (message.Done id) = WasBegun begun id
IsAboutBegun begun to (message.Forget id) = WasBegun begun id
IsAboutBegun begun to message.List = ⊤
IsAboutBegun begun to (message.Kept ids cut) = ⊤
IsAboutBegun begun to (message.Ask id) = WasBegun begun id
IsAboutBegun begun to (message.Answer id ok) = WasBegun begun id
IsAboutBegun begun to (message.Hold cut) = ⊤
IsAboutBegun begun to (message.Held cut answer) = ⊤
IsAboutBegun begun to (message.Release cut) = ⊤
IsAboutBegun begun to (message.Drop cut) = ⊤
IsAboutBegun begun to (message.ReadCut cut place) = ⊤
IsAboutBegun begun to (message.Piece cut place bytes) = ⊤

-- what runs was begun with these items
abbrev pub RunsBegun : List Begun → coord.Phase → Type 0
RunsBegun begun coord.Free = ⊤
RunsBegun begun (coord.Runs r) = (b : Begun) × In b begun × (b.id ≡ r.id) × (b.items ≡ r.mini)
RunsBegun begun (coord.Ended outcome) = ⊤

-- what a coordinator is at was begun, and so was what is finishing
pub record IsAtBegun (begun : List Begun) (c : coord.State) : Type 0 where
  pub phase : RunsBegun begun c.phase
  pub finishing : (f : Finishing) → In f c.finishing → WasBegun begun f.id

abbrev pub IsAtBegunIf : List Begun → Option coord.State → Type 0
IsAtBegunIf begun None = ⊤
IsAtBegunIf begun (Some c) = IsAtBegun begun c

-- a vote that was cast with an entry is on what was begun; that of a look stands in its message
abbrev pub IsCastOn : List Begun → Cast → Type 0
IsCastOn begun (Entered id m at) = WasBegun begun id
IsCastOn begun (Sent k at) = ⊤

-- all of it was begun since the opening
pub record AreBegun (story : Story) : Type 0 where
  pub logged : (m : ℕ) (e : Entry) → In e (log_of story m) → WasBegunIf story.begun (entry_of e)
  pub posted : (p : Posted) → In p story.posted → IsAboutBegun story.begun p.to p.message
  pub cast : (c : Cast) → In c story.casts → IsCastOn story.begun c
  pub running : (n : ℕ) (seat : Seat) → slice_get story.nodes n ≡ Some seat → IsAtBegunIf story.begun seat.actor
  pub refused : (id : TxId) → In id story.refused → WasBegun story.begun id

-- it holds at the opening, and each step keeps it
pub record NamedWasBegun : Type 0 where
  pub opened : (states : List State) (boots : List ℕ) → AreBegun (opened_story states boots)
  pub begun : (story : Story) (n : ℕ) (items : List Item) → AreBegun story → AreBegun (begun_by story n items)
  pub delivered : (story : Story) (k : ℕ) (how : How) → AreBegun story → AreBegun (delivered story k how)
  pub given_up : (story : Story) (n : ℕ) → AreBegun story → AreBegun (given_up story n)
  pub cleared : (story : Story) (n : ℕ) → AreBegun story → AreBegun (cleared story n)
  pub resent : (story : Story) (n : ℕ) → AreBegun story → AreBegun (resent story n)
  pub crashed : (story : Story) (who : Actor) → AreBegun story → AreBegun (crashed story who)
  pub node_started : (story : Story) (n boot : ℕ) → AreBegun story → AreBegun (node_started story n boot)
  pub memory_started : (story : Story) (m : ℕ) (found : Bool) → AreBegun story → AreBegun (memory_started story m found)
