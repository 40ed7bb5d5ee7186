-- What the memory nodes of a cluster stand for in a story.
use Rattle.std.specs.Prelude.{◌≡◌, ℕ, List, length, slice_get, Some}
use Rattle.disk_model.specs.Crash.{History}
use Rattle.disk_model.specs.declared.disk.Disk.{Ghosts}
use Rattle.disk_model.specs.Health.{Health}
use Rattle.mini_tx.specs.declared.actor.Actor.{Actor}
use Rattle.mini_tx.specs.declared.geometry.Geometry4.{Geometry4}
use Rattle.mini_tx.specs.declared.message.Message.{Message}
use Rattle.mini_tx.specs.declared.posted.Posted.{Posted}
use Rattle.mem_rules.specs.declared.setup.Setup.{Setup}
use Rattle.mem_rules.specs.Fit.{IsFitMessage, IsOfCluster, IsOfTransactions}
use Rattle.story_rules.specs.Story.{Site}
use Rattle.cluster_parts.specs.declared.memory_slot.MemorySlot.{MemorySlot}
use Rattle.cluster_parts.specs.Slots.{IsAt, RestsAt}
use Rattle.cluster_memories.specs.declared.memories.Memories as declared

abbrev pub slots_in : {D : Type 0} {G : Ghosts D} → declared.Memories D G → List (MemorySlot D G)
slots_in memories = memories.slots.items

-- which memory node of which cluster
abbrev pub setup_for : Geometry4 → ℕ → Setup
setup_for g m = record { geometry = g; index = m }

-- each of them is at its site
pub record AreAt {D : Type 0} {G : Ghosts D} (g : Geometry4) (slots : List (MemorySlot D G)) (sites : List Site) : Type 0 where
  pub many : length slots ≡ length sites
  pub each : (m : ℕ) (slot : MemorySlot D G) (site : Site) → slice_get slots m ≡ Some slot → slice_get sites m ≡ Some site → IsAt (setup_for g m) slot site

-- and so is what their disks hold
pub record AreRested {D : Type 0} {G : Ghosts D} (tells : D → Type 0) (history : D → History) (health : D → Health)
    (g : Geometry4) (posted : List Posted) (slots : List (MemorySlot D G)) (sites : List Site) : Type 0 where
  pub each : (m : ℕ) (slot : MemorySlot D G) (site : Site) → slice_get slots m ≡ Some slot → slice_get sites m ≡ Some site
      → RestsAt tells history health (setup_for g m) posted slot site

-- a message that a memory node may be sent by this actor
abbrev pub MayBeSent : Setup → Actor → Message → Type 0
MayBeSent s from x = IsOfCluster s.geometry from × IsFitMessage s x × IsOfTransactions x
