-- What the parts of a cluster stand for together.
use Rattle.std.specs.Prelude.{◌≡◌, ◌+◌, ◌++◌, ℕ, Bool, true, false, List, map, length, slice_get, slice_set, Option, Some, None, if◌then◌else◌}
use Rattle.disk_model.specs.Crash.{History}
use Rattle.disk_model.specs.declared.disk.Disk.{Ghosts}
use Rattle.disk_model.specs.Health.{Health}
use Rattle.mini_tx.specs.declared.actor.Actor.{Actor}
use Rattle.mini_tx.specs.declared.actor.Actor.TheVariants.{Node, Memory, Manager}
use Rattle.mini_tx.specs.declared.geometry.Geometry4.{Geometry4}
use Rattle.mini_tx.specs.declared.message.Message.{Message}
use Rattle.mini_tx.specs.declared.posted.Posted.{Posted}
use Rattle.mini_tx.specs.declared.tx_id.TxId.{TxId}
use Rattle.tx_coord.specs.declared.outcome.Outcome.TheVariants.{Committed, Refused}
use Rattle.tx_coord.specs.declared.tx_state.TxState.{TxState}
use Rattle.tx_coord.specs.declared.tx_state.TxState.TheVariants as state
use Rattle.tx_coord.specs.Rules.{Step}
use Rattle.tx_coord.specs.State.{Machine}
use Rattle.story_rules.specs.MemoryNodes.{reaction}
use Rattle.story_rules.specs.Story.{Seat, Site, Story, Up, Down}
use Rattle.story_rules.specs.Steps as steps
use Rattle.story_rules.specs.Steps.{How, answered, delivered}
use Rattle.cluster_laws.specs.Doubts.{points_of, waits_after, waits_without}
use Rattle.cluster_laws.specs.Reactions.{grants, is_grant}
use Rattle.cluster_parts.specs.Books.{IsBook, doubts_of, history_of}
use Rattle.cluster_parts.specs.declared.book.Book.{Book}
use Rattle.cluster_parts.specs.declared.delivered.Delivered.{Delivered}
use Rattle.cluster_parts.specs.declared.delivered.Delivered.TheVariants.{Lost, Handled, WentDown}
use Rattle.cluster_parts.specs.declared.delivered.DownCause.TheVariants.{Stop, Fault, Full}
use Rattle.cluster_parts.specs.declared.delivered.Handled as fate
use Rattle.cluster_parts.specs.declared.delivered.Handled.TheVariants.{Answered, Fell}
use Rattle.cluster_parts.specs.declared.memory_slot.MemorySlot.{MemorySlot}
use Rattle.cluster_memories.specs.Memories.{AreAt, AreRested}
use Rattle.cluster_steps.specs.declared.went.Went.{Went}

-- each node runs with the coordinator of its seat
pub record AreSeated (nodes : List Machine) (seats : List Seat) : Type 0 where
  pub many : length nodes ≡ length seats
  pub each : (n : ℕ) (c : Machine) (seat : Seat) → slice_get nodes n ≡ Some c → slice_get seats n ≡ Some seat → (seat.actor ≡ Some c.state) × (c.is_spent ≡ false)

-- memory nodes, coordinators, the link and the book have what the story says
pub record IsLive {D : Type 0} {G : Ghosts D} (g : Geometry4) (slots : List (MemorySlot D G)) (nodes : List Machine) (stands : List Posted → Type 0) (book : Book)
    (story : Story) : Type 0 where
  pub memories : AreAt g slots story.sites
  pub seats : AreSeated nodes story.nodes
  pub posted : stands story.posted
  pub counts : IsBook book story

-- how a delivery goes in the story
abbrev pub how_of : Delivered → How
how_of Lost = steps.Lost
how_of Handled = steps.Handled
how_of (WentDown Stop) = steps.WentDown
how_of (WentDown Fault) = steps.WentDown
how_of (WentDown Full) = steps.WasFull

-- the number by which an answer leaves behind so many messages, where it is a Granted vote
abbrev pub vote_number : ℕ → Option Message → Option ℕ
vote_number posted answer = if is_grant answer then Some (posted + 1) else None

-- what becomes of the book and the link where a memory node has handled a message: what it grants is counted, and its answer
-- posted; where it went down both are as before
abbrev pub Settles : (List Posted → Type 0) → (List Posted → Type 0) → Book → Book → ℕ → Actor → Option TxId → fate.Handled → Went → Type 0
Settles before now old book m from may (Answered answer) went =
    (went.delivered ≡ Handled)
    × (history_of book ≡ history_of old ++ points_of (doubts_of old) (grants may answer) m)
    × ((id : TxId) → doubts_of book id ≡ waits_after (doubts_of old) (grants may answer) m id)
    × ((posted : List Posted) → before posted → now (posted ++ answered m from answer))
    × ((posted : List Posted) → before posted → went.vote ≡ vote_number (length posted) answer)
Settles before now old book m from may (Fell cause) went =
    (went.delivered ≡ WentDown cause) × (book ≡ old) × ((posted : List Posted) → before posted → now posted) × (went.vote ≡ None)

-- the Granted vote of a memory node at this site, by the number of its message
abbrev pub vote_from : ℕ → Message → Option Site → How → Option ℕ
vote_from posted x (Some (Up n)) steps.Handled = vote_number posted (reaction n x).answer
vote_from posted x (Some (Up n)) steps.Lost = None
vote_from posted x (Some (Up n)) steps.Stopped = None
vote_from posted x (Some (Up n)) steps.WentDown = None
vote_from posted x (Some (Up n)) steps.WasFull = None
vote_from posted x (Some (Down n handling)) how = None
vote_from posted x None how = None

-- what a delivery to a memory node makes of the story's parts, of what its disks hold, and the vote that it tells
pub record Goes {D : Type 0} {G : Ghosts D} (tells : D → Type 0) (history : D → History) (health : D → Health) (g : Geometry4) (old slots : List (MemorySlot D G)) (nodes : List Machine)
    (stands : List Posted → Type 0) (book : Book) (story : Story) (k m : ℕ) (x : Message) (went : Went) : Type 0 where
  pub live : IsLive g slots nodes stands book (delivered story k (how_of went.delivered))
  pub rests : AreRested tells history health g story.posted old story.sites
      → AreRested tells history health g (delivered story k (how_of went.delivered)).posted slots (delivered story k (how_of went.delivered)).sites
  pub vote : went.vote ≡ vote_from (length story.posted) x (slice_get story.sites m) (how_of went.delivered)

-- the same of all but the memory nodes
pub record IsBeside (nodes : List Machine) (stands : List Posted → Type 0) (book : Book) (story : Story) : Type 0 where
  pub seats : AreSeated nodes story.nodes
  pub posted : stands story.posted
  pub counts : IsBook book story

-- ---- nodes

-- what runs, by what a node tells of itself
abbrev pub running_in : TxState → Option TxId
running_in state.Idle = None
running_in (state.Running id) = Some id
running_in (state.Done outcome) = None

abbrev pub is_refused : TxState → Bool
is_refused state.Idle = false
is_refused (state.Running id) = false
is_refused (state.Done (Committed reads)) = false
is_refused (state.Done (Refused m v)) = true

-- what ran and is refused now
abbrev pub refused_now : Option TxId → TxState → Option TxId
refused_now ran now = if is_refused now then ran else None

-- a coordinator has made this step: what it posts is posted, and what it refuses is in doubt no longer
pub record Makes (n : ℕ) (c : Machine) (step : Step) (old now : List Machine) (before after : List Posted → Type 0) (was book : Book) : Type 0 where
  pub live : c.is_spent ≡ false
  pub nodes : now ≡ slice_set old n (record { state = step.now; is_spent = false })
  pub posted : (posted : List Posted) → before posted → after (posted ++ map (steps.sent_by n) step.posts)
  pub history : history_of book ≡ history_of was
  pub doubts : (id : TxId) → doubts_of book id ≡ waits_without (doubts_of was) (steps.refused_by c.state.phase step.now.phase) id

-- a memory node that sends a message
abbrev pub memory_in : Actor → Option ℕ
memory_in (Memory m) = Some m
memory_in (Node n) = None
memory_in Manager = None
