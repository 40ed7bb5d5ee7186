-- What each step makes of a story.
use Rattle.std.specs.Prelude.{ℕ, zero, suc, ◌+◌, Bool, true, false, not, ◌&&◌, ◌||◌, List, [], ◌∷◌, ◌++◌, map, length, Option, Some, None, slice_get, slice_set, slice_index_or, if◌then◌else◌}
use Rattle.std.specs.List.{list_any}
use Rattle.mini_tx.specs.declared.actor.Actor.{Actor}
use Rattle.mini_tx.specs.declared.actor.Actor.TheVariants.{Node, Memory, Manager}
use Rattle.mini_tx.specs.declared.entry.Entry.{Entry}
use Rattle.mini_tx.specs.declared.entry.Entry.TheVariants as entry
use Rattle.mini_tx.specs.declared.item.Item.{Item}
use Rattle.mini_tx.specs.declared.message.Message.{Message}
use Rattle.mini_tx.specs.declared.message.Message.TheVariants as message
use Rattle.mini_tx.specs.declared.posted.Posted.{Posted}
use Rattle.mini_tx.specs.declared.tx_id.TxId.{TxId}
use Rattle.mini_tx.specs.EntryGrammar.{is_granted}
use Rattle.mini_tx.specs.Minitransactions.{is_write}
use Rattle.mini_tx.specs.Order.{is_same}
use Rattle.tx_coord.specs.declared.outcome.Outcome.TheVariants.{Committed, Refused}
use Rattle.tx_coord.specs.declared.outgoing.Outgoing.{Outgoing}
use Rattle.tx_coord.specs.State as coord
use Rattle.tx_coord.specs.Rules as rules
use Rattle.story_rules.specs.MemoryNodes.{MemoryNode, Reaction, reaction, with_state}
use Rattle.story_rules.specs.Story.{Story, Site, Up, Down, Begun, Seat, Entered, Sent}

-- ---- messages

abbrev pub message_at : Story → ℕ → Option Posted
message_at story zero = None
message_at story (suc k) = slice_get story.posted k

-- a coordinator's messages
abbrev pub sent_by : ℕ → Outgoing → Posted
sent_by n o = record { from = Node n; to = Memory o.memory; message = o.message }

-- a memory node's answer
abbrev pub answered : ℕ → Actor → Option Message → List Posted
answered m sender None = []
answered m sender (Some x) = record { from = Memory m; to = sender; message = x } ∷ []

-- ---- what is granted

-- whose Granted vote an entry casts
abbrev pub grant_in : Entry → Option TxId
grant_in (entry.Single id v writes) = if is_granted v then Some id else None
grant_in (entry.Prepared id participants v ranges writes) = if is_granted v then Some id else None
grant_in (entry.Refused id v) = None
grant_in (entry.Decided id commit) = None
grant_in (entry.Forgotten id) = None
grant_in (entry.Cut cut) = None
grant_in (entry.Floor id v) = None

abbrev pub is_of : TxId → Option TxId → Bool
is_of id None = false
is_of id (Some other) = is_same other id

abbrev pub has_granted : TxId → List Entry → Bool
has_granted id entries = list_any (λ (e : Entry). is_of id (grant_in e)) entries

abbrev pub log_of : Story → ℕ → List Entry
log_of story m = slice_index_or story.logs m []

abbrev pub all_granted : Story → TxId → List ℕ → Bool
all_granted story id [] = true
all_granted story id (m ∷ ms) = has_granted id (log_of story m) && all_granted story id ms

-- the items of an identifier; one that was not begun since the opening has none
abbrev pub items_of : List Begun → TxId → List Item
items_of [] id = []
items_of (b ∷ begun) id = if is_same b.id id then b.items else items_of begun id

abbrev pub has_write : List Item → Bool
has_write items = list_any is_write items

-- a vote on these has an entry
abbrev pub is_logged : List Item → Bool
is_logged items = rules.has_several (rules.participants_of items) || has_write items

-- ---- a memory node's step

abbrev pub with_entry : Story → ℕ → Option Entry → Story
with_entry story m None = story
with_entry story m (Some e) = record story { logs = slice_set story.logs m (log_of story m ++ e ∷ []) }

-- a Granted vote was logged: it is cast, and the last one of a change is its place in the history
abbrev pub granted : Story → ℕ → TxId → Story
granted story m id =
    record story {
      casts = story.casts ++ Entered id m (length story.committed) ∷ [];
      committed =
          if has_write (items_of story.begun id) && all_granted story id (rules.participants_of (items_of story.begun id)) then story.committed ++ id ∷ [] else story.committed;
    }

abbrev pub with_grant : Story → ℕ → Option TxId → Story
with_grant story m None = story
with_grant story m (Some id) = granted story m id

abbrev pub grant_of : Option Entry → Option TxId
grant_of None = None
grant_of (Some e) = grant_in e

-- a Granted vote that has no entry is cast by its message; one that is sent again is not cast again
abbrev pub is_look : List Begun → Message → Bool
is_look begun (message.Voted id v) = is_granted v && not (is_logged (items_of begun id))
is_look begun (message.Prepare id participants items) = false
is_look begun (message.Decide id commit) = false
is_look begun (message.Done id) = false
is_look begun (message.Forget id) = false
is_look begun message.List = false
is_look begun (message.Kept ids cut) = false
is_look begun (message.Ask id) = false
is_look begun (message.Answer id ok) = false
is_look begun (message.Hold cut) = false
is_look begun (message.Held cut answer) = false
is_look begun (message.Release cut) = false
is_look begun (message.Drop cut) = false
is_look begun (message.ReadCut cut place) = false
is_look begun (message.Piece cut place bytes) = false

abbrev pub with_answer : Story → ℕ → Actor → Option Message → Story
with_answer story m sender None = story
with_answer story m sender (Some x) =
    record story {
      posted = story.posted ++ answered m sender (Some x);
      casts = if is_look story.begun x then story.casts ++ Sent (length story.posted + 1) (length story.committed) ∷ [] else story.casts;
    }

-- the entry counts, and then the answer leaves
abbrev pub counted : Story → ℕ → Actor → Option Entry → Option Message → Story
counted story m sender e answer = with_answer (with_grant (with_entry story m e) m (grant_of e)) m sender answer

abbrev pub with_site : Story → ℕ → Site → Story
with_site story m site = record story { sites = slice_set story.sites m site }

-- how a delivery to a memory node went: it did not come; it was handled; it was handled, and the stop came before the
-- answer left; it went down in the call; its log was full
pub data How : Type 0 where
  Lost : How
  Handled : How
  Stopped : How
  WentDown : How
  WasFull : How

abbrev pub reacted : Story → ℕ → ℕ → Actor → MemoryNode → Reaction → How → Story
reacted story m k sender n r Lost = story
reacted story m k sender n r Handled = with_site (counted story m sender r.entry r.answer) m (Up r.now)
reacted story m k sender n r Stopped = with_site (counted story m sender r.entry None) m (Down r.now None)
reacted story m k sender n r WentDown = with_site story m (Down n (Some k))
reacted story m k sender n r WasFull = with_site story m (Down n None)

abbrev pub to_memory : Story → ℕ → ℕ → Posted → How → Option Site → Story
to_memory story m k p how None = story
to_memory story m k p how (Some (Up n)) = reacted story m k p.from n (reaction n p.message) how
to_memory story m k p how (Some (Down n handling)) = story

-- ---- a node's step

abbrev pub with_actor : Story → ℕ → ℕ → Option coord.State → Story
with_actor story n boot c = record story { nodes = slice_set story.nodes n (record { boot = boot; actor = c }) }

abbrev pub refused_by : coord.Phase → coord.Phase → List TxId
refused_by (coord.Runs r) (coord.Ended (Refused m v)) = r.id ∷ []
refused_by (coord.Runs r) (coord.Ended (Committed reads)) = []
refused_by (coord.Runs r) coord.Free = []
refused_by (coord.Runs r) (coord.Runs now) = []
refused_by coord.Free now = []
refused_by (coord.Ended outcome) now = []

-- the coordinator makes this step
abbrev pub stepped : Story → ℕ → ℕ → coord.State → rules.Step → Story
stepped story n boot c step =
    record (with_actor story n boot (Some step.now)) {
      posted = story.posted ++ map (sent_by n) step.posts;
      refused = story.refused ++ refused_by c.phase step.now.phase;
    }

-- what is heard of another than a memory node is ignored
abbrev pub heard_from : coord.State → Actor → Message → rules.Step
heard_from c (Memory m) x = rules.heard c m x
heard_from c (Node n) x = rules.quiet c
heard_from c Manager x = rules.quiet c

abbrev pub to_actor : Story → ℕ → Posted → ℕ → Option coord.State → Story
to_actor story n p boot None = story
to_actor story n p boot (Some c) = stepped story n boot c (heard_from c p.from p.message)

abbrev pub to_node : Story → ℕ → Posted → Option Seat → Story
to_node story n p None = story
to_node story n p (Some seat) = to_actor story n p seat.boot seat.actor

-- ---- the steps

-- message k is delivered, and this is how it went at a memory node
abbrev pub to_receiver : Story → ℕ → How → Posted → Actor → Story
to_receiver story k how p (Memory m) = to_memory story m k p how (slice_get story.sites m)
to_receiver story k how p (Node n) = to_node story n p (slice_get story.nodes n)
to_receiver story k how p Manager = story

abbrev pub given : Story → ℕ → How → Option Posted → Story
given story k how None = story
given story k how (Some p) = to_receiver story k how p p.to

abbrev pub delivered : Story → ℕ → How → Story
delivered story k how = given story k how (message_at story k)

-- what a node's coordinator makes of the story, where it runs
abbrev pub at_actor : Story → (ℕ → coord.State → Story) → ℕ → Option coord.State → Story
at_actor story does boot None = story
at_actor story does boot (Some c) = does boot c

abbrev pub at_seat : Story → (ℕ → coord.State → Story) → Option Seat → Story
at_seat story does None = story
at_seat story does (Some seat) = at_actor story does seat.boot seat.actor

abbrev pub at_node : Story → ℕ → (ℕ → coord.State → Story) → Story
at_node story n does = at_seat story does (slice_get story.nodes n)

-- a node begins a minitransaction
abbrev pub begun_by : Story → ℕ → List Item → Story
begun_by story n items = at_node story n (λ boot c.
    record (stepped story n boot c (rules.begun c items)) { begun = story.begun ++ record { id = rules.next_id c; items = items } ∷ [] })

-- it gives up what runs, takes its outcome, or posts again
abbrev pub given_up : Story → ℕ → Story
given_up story n = at_node story n (λ boot c. with_actor story n boot (Some (rules.given_up c)))

abbrev pub cleared : Story → ℕ → Story
cleared story n = at_node story n (λ boot c. with_actor story n boot (Some (rules.cleared c)))

abbrev pub resent : Story → ℕ → Story
resent story n = at_node story n (λ boot c. record story { posted = story.posted ++ map (sent_by n) (rules.resent c) })

-- an actor crashes: a node loses its coordinator, a memory node all that is not in its log
abbrev pub fallen : Story → ℕ → Option Site → Story
fallen story m None = story
fallen story m (Some (Up n)) = with_site story m (Down n None)
fallen story m (Some (Down n handling)) = story

abbrev pub left : Story → ℕ → Option Seat → Story
left story n None = story
left story n (Some seat) = with_actor story n seat.boot None

abbrev pub crashed : Story → Actor → Story
crashed story (Memory m) = fallen story m (slice_get story.sites m)
crashed story (Node n) = left story n (slice_get story.nodes n)
crashed story Manager = story

-- a node starts with this boot number
abbrev pub node_started : Story → ℕ → ℕ → Story
node_started story n boot = with_actor story n boot (Some (coord.started n boot))

-- a memory node starts, and its disk has the entry of the message that it was handling, or has it not: where it has,
-- the entry counts here and nowhere earlier
abbrev pub found_at : Story → ℕ → MemoryNode → Bool → Option Posted → Story
found_at story m n found None = with_site story m (Up (with_state n.state))
found_at story m n false (Some p) = with_site story m (Up (with_state n.state))
found_at story m n true (Some p) = with_site (counted story m p.from (reaction n p.message).entry None) m (Up (with_state (reaction n p.message).now.state))

abbrev pub from_site : Story → ℕ → Bool → Option Site → Story
from_site story m found None = story
from_site story m found (Some (Up n)) = story
from_site story m found (Some (Down n None)) = with_site story m (Up (with_state n.state))
from_site story m found (Some (Down n (Some k))) = found_at story m n found (message_at story k)

abbrev pub memory_started : Story → ℕ → Bool → Story
memory_started story m found = from_site story m found (slice_get story.sites m)
