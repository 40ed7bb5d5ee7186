-- What the parts of a cluster stand for between two calls, and what a call makes of it.
use Rattle.std.specs.Prelude.{◌≡◌, ◌<◌, ◌^◌, ℕ, List, length, slice_get, Option, Some, None}
use Rattle.disk_model.specs.Crash.{History}
use Rattle.disk_model.specs.declared.disk.Disk.{Ghosts}
use Rattle.disk_model.specs.Health.{Health}
use Rattle.mini_tx.specs.declared.actor.Actor.{Actor}
use Rattle.mini_tx.specs.declared.actor.Actor.TheVariants.{Node, Memory, Manager}
use Rattle.mini_tx.specs.declared.geometry.Geometry4.{Geometry4}
use Rattle.mini_tx.specs.declared.posted.Posted.{Posted}
use Rattle.mem_rules.specs.Fit.{size_of}
use Rattle.tx_coord.specs.State.{Machine}
use Rattle.story_rules.specs.Story.{Seat, Story}
use Rattle.story_rules.specs.Steps.{How, message_at}
use Rattle.story_laws.specs.Acts as acts
use Rattle.story_laws.specs.Acts.{IsTold, after_act}
use Rattle.cluster_parts.specs.declared.book.Book.{Book}
use Rattle.cluster_parts.specs.declared.memory_slot.MemorySlot.{MemorySlot}
use Rattle.cluster_memories.specs.Memories.{AreAt, AreRested, setup_for}
use Rattle.cluster_steps.specs.Live.{IsLive, vote_from}

-- the bytes of an image in a cluster of this geometry
abbrev pub image_bytes : Geometry4 → ℕ
image_bytes g = size_of (setup_for g 0)

-- a story of this cluster, of what may happen to it: its nodes and memory nodes, which have what it says, the link and the book
pub record StandFor {D : Type 0} {G : Ghosts D} (g : Geometry4) (slots : List (MemorySlot D G)) (machines : List Machine) (stands : List Posted → Type 0) (book : Book) (story : Story) : Type 0 where
  pub told : IsTold (image_bytes g) story
  pub nodes : g.nodes ≡ length story.nodes
  pub memories : g.memories ≡ length story.opening
  pub boots : (n : ℕ) (seat : Seat) → slice_get story.nodes n ≡ Some seat → seat.boot < 2 ^ 64
  pub live : IsLive g slots machines stands book story

-- there is a story of the cluster, of what may happen to it, in which this message was posted
pub record IsDelivered {D : Type 0} {G : Ghosts D} (g : Geometry4) (story : Story) (k : ℕ) (p : Posted) (slots : List (MemorySlot D G)) : Type 0 where
  pub told : IsTold (image_bytes g) story
  pub nodes : g.nodes ≡ length story.nodes
  pub memories : g.memories ≡ length story.opening
  pub posted : message_at story k ≡ Some p
  pub at : AreAt g slots story.sites

-- the Granted vote by which the receiver of a message answers, by its number
abbrev pub vote_to : Story → Posted → Actor → How → Option ℕ
vote_to story p (Memory m) how = vote_from (length story.posted) p.message (slice_get story.sites m) how
vote_to story p (Node n) how = None
vote_to story p Manager how = None

abbrev pub vote_at : Story → Option Posted → How → Option ℕ
vote_at story None how = None
vote_at story (Some p) how = vote_to story p p.to how

-- an act of the story: the parts stand for what it makes of the story, and so do what the disks hold
pub record Act {D : Type 0} {G : Ghosts D} (tells : D → Type 0) (history : D → History) (health : D → Health) (g : Geometry4) (old slots : List (MemorySlot D G)) (nodes : List Machine)
    (link : List Posted → Type 0) (book : Book) (story : Story) (act : acts.Act) : Type 0 where
  pub stands : StandFor g slots nodes link book (after_act story act)
  pub rests : AreRested tells history health g story.posted old story.sites
      → AreRested tells history health g (after_act story act).posted slots (after_act story act).sites
