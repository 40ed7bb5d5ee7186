-- What a cluster stands for, and what its calls make of that.
use Rattle.std.specs.Prelude.{◌≡◌, ◌⊎◌, ℕ, Bool, true, false, List, Some, is_some, slice_get}
use Rattle.disk_model.specs.Crash.{History}
use Rattle.disk_model.specs.declared.disk.Disk.{Ghosts}
use Rattle.disk_model.specs.Health.{Health}
use Rattle.mini_tx.specs.declared.actor.Actor.{Actor}
use Rattle.mini_tx.specs.declared.actor.Actor.TheVariants.{Node, Memory, Manager}
use Rattle.mini_tx.specs.declared.geometry.Geometry4.{Geometry4}
use Rattle.mini_tx.specs.declared.posted.Posted.{Posted}
use Rattle.mini_tx.specs.declared.vote.Vote.{Vote}
use Rattle.tx_coord.specs.declared.outcome.Outcome.TheVariants.{Committed, Refused}
use Rattle.tx_coord.specs.declared.tx_state.TxState.{TxState}
use Rattle.tx_coord.specs.State as coord
use Rattle.tx_rules.specs.Mini.{In}
use Rattle.story_rules.specs.Story.{Begun, Seat, Site, Story, Up, Down}
use Rattle.story_laws.specs.Acts.{Act, after_act}
use Rattle.story_laws.specs.Growth.{Grows}
use Rattle.story_shown.specs.History.{IsCommitted, IsFlat, IsOutcome, last_id}
use Rattle.cluster_parts.specs.declared.memory_slot.MemorySlot.{MemorySlot}
use Rattle.cluster_calls.specs.Counted.{counted_stands, link_below}
use Rattle.cluster_calls.specs.Parts.{Rest, Stands, geometry_of, link_of, memories_of}
use Rattle.cluster_calls.specs.declared.counted.Counted.{Counted}
use Rattle.cluster_calls.specs.declared.parts.Parts.{Parts}
use Rattle.sinfonia.specs.declared.cluster.Cluster as declared

abbrev pub parts_of : {D L : Type 0} {G : Ghosts D} → declared.Cluster D L G → Parts D (Counted L) G
parts_of cluster = cluster.parts

abbrev pub geometry_in : {D L : Type 0} {G : Ghosts D} → declared.Cluster D L G → Geometry4
geometry_in cluster = geometry_of cluster.parts

abbrev pub link_in : {D L : Type 0} {G : Ghosts D} → declared.Cluster D L G → L
link_in cluster = link_below (link_of cluster.parts)

-- the memory nodes, by their numbers
abbrev pub memories_in : {D L : Type 0} {G : Ghosts D} → declared.Cluster D L G → List (MemorySlot D G)
memories_in cluster = memories_of cluster.parts

-- memory ran out in a call of it
abbrev pub is_spent : {D L : Type 0} {G : Ghosts D} → declared.Cluster D L G → Bool
is_spent cluster = cluster.spent

-- memory ran out in no call of it, and it has what this story says, which is told of what may happen to it
pub record StandsFor {D L : Type 0} {G : Ghosts D} (stands : L → List Posted → Type 0) (cluster : declared.Cluster D L G) (story : Story) : Type 0 where
  pub live : cluster.spent ≡ false
  pub parts : Stands (counted_stands stands) cluster.parts story

-- memory ran out, or there is a story that it stands for
abbrev pub IsKnown : {D L : Type 0} {G : Ghosts D} → (L → List Posted → Type 0) → declared.Cluster D L G → Type 0
IsKnown stands cluster = (cluster.spent ≡ true) ⊎ ((story : Story) × StandsFor stands cluster story)

-- its disks hold what the story says
abbrev pub RestsOn : {D L : Type 0} {G : Ghosts D} → (D → Type 0) → (D → History) → (D → Health) → declared.Cluster D L G → Story → Type 0
RestsOn tells history health cluster story = Rest tells history health cluster.parts story

-- ---- what a call makes of a story

-- an act of a story: it stands for the story with the act behind it; what was begun, logged, posted, committed, cast and
-- refused stays; decisions agree, the history is flat, outcomes are those of the flat memory; and so it is on the disks
pub record Makes {D L : Type 0} {G : Ghosts D} (tells : D → Type 0) (history : D → History) (health : D → Health) (link : L → List Posted → Type 0)
    (old new : declared.Cluster D L G) (story : Story) (act : Act) : Type 0 where
  pub stands : StandsFor link new (after_act story act)
  pub grows : Grows story (after_act story act)
  pub flat : IsFlat (after_act story act)
  pub rests : RestsOn tells history health old story → RestsOn tells history health new (after_act story act)

-- so it is of each story that it stood for
abbrev pub Does : {D L : Type 0} {G : Ghosts D} → (D → Type 0) → (D → History) → (D → Health) → (L → List Posted → Type 0) → declared.Cluster D L G → declared.Cluster D L G → Act → Type 0
Does tells history health stands old new act = (story : Story) → StandsFor stands old story → Makes tells history health stands old new story act

-- ---- what a call asks

-- the node's coordinator has let its last outcome go
abbrev pub IsIdle : Story → ℕ → Type 0
IsIdle story n = (seat : Seat) (c : coord.State) → slice_get story.nodes n ≡ Some seat → seat.actor ≡ Some c → c.phase ≡ coord.Free

-- ---- what it tells

-- what a node tells: its coordinator's state. Of an outcome Committed the minitransaction that it began last is in the history
-- where it changes something, and the reads are those of the flat memory at a place of it; one that is Refused never commits
pub record Tells (story : Story) (c : coord.State) (state : TxState) : Type 0 where
  pub is : state ≡ coord.shown c.phase
  pub committed : (reads : List (List ℕ)) → c.phase ≡ coord.Ended (Committed reads) → (b : Begun) × In b story.begun × (b.id ≡ last_id c) × IsOutcome story b reads
  pub refused : (m : ℕ) (v : Vote) → c.phase ≡ coord.Ended (Refused m v) → In (last_id c) story.refused × ¬ IsCommitted story (last_id c)

abbrev pub TellsOf : Story → ℕ → TxState → Type 0
TellsOf story n state = (seat : Seat) (c : coord.State) → slice_get story.nodes n ≡ Some seat → seat.actor ≡ Some c → Tells story c state

abbrev pub is_up : Site → Bool
is_up (Up n) = true
is_up (Down n handling) = false

-- whether an actor runs. There is no manager in a story, and nothing stops it here
abbrev pub RunsIn : Story → Actor → Bool → Type 0
RunsIn story (Node n) runs = (seat : Seat) → slice_get story.nodes n ≡ Some seat → runs ≡ is_some seat.actor
RunsIn story (Memory m) runs = (site : Site) → slice_get story.sites m ≡ Some site → runs ≡ is_up site
RunsIn story Manager runs = runs ≡ true
