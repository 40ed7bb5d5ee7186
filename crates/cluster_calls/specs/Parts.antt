-- The parts of a cluster as one value, and what they stand for.
use Rattle.std.specs.Prelude.{List}
use Rattle.disk_model.specs.Crash.{History}
use Rattle.disk_model.specs.declared.disk.Disk.{Ghosts}
use Rattle.disk_model.specs.Health.{Health}
use Rattle.mini_tx.specs.declared.geometry.Geometry4.{Geometry4}
use Rattle.mini_tx.specs.declared.posted.Posted.{Posted}
use Rattle.tx_coord.specs.State.{Machine}
use Rattle.story_rules.specs.Story.{Story}
use Rattle.story_laws.specs.Acts as acts
use Rattle.cluster_parts.specs.declared.book.Book.{Book}
use Rattle.cluster_parts.specs.declared.memory_slot.MemorySlot.{MemorySlot}
use Rattle.cluster_memories.specs.Memories.{AreRested, slots_in}
use Rattle.cluster_seats.specs.Seats.{nodes_in}
use Rattle.cluster_calls.specs.Known.{Act, StandFor}
use Rattle.cluster_calls.specs.declared.parts.Parts as declared

abbrev pub geometry_of : {D L : Type 0} {G : Ghosts D} → declared.Parts D L G → Geometry4
geometry_of parts = parts.geometry

abbrev pub memories_of : {D L : Type 0} {G : Ghosts D} → declared.Parts D L G → List (MemorySlot D G)
memories_of parts = slots_in parts.memories

abbrev pub nodes_of : {D L : Type 0} {G : Ghosts D} → declared.Parts D L G → List Machine
nodes_of parts = nodes_in parts.seats

abbrev pub book_of : {D L : Type 0} {G : Ghosts D} → declared.Parts D L G → Book
book_of parts = parts.book

abbrev pub link_of : {D L : Type 0} {G : Ghosts D} → declared.Parts D L G → L
link_of parts = parts.link

-- they stand for this story
abbrev pub Stands : {D L : Type 0} {G : Ghosts D} → (L → List Posted → Type 0) → declared.Parts D L G → Story → Type 0
Stands stands parts story = StandFor (geometry_of parts) (memories_of parts) (nodes_of parts) (stands (link_of parts)) (book_of parts) story

-- and their disks hold what the story says
abbrev pub Rest : {D L : Type 0} {G : Ghosts D} → (D → Type 0) → (D → History) → (D → Health) → declared.Parts D L G → Story → Type 0
Rest tells history health parts story = AreRested tells history health (geometry_of parts) story.posted (memories_of parts) story.sites

-- an act of each story that they stood for
abbrev pub Do : {D L : Type 0} {G : Ghosts D} → (D → Type 0) → (D → History) → (D → Health) → (L → List Posted → Type 0) → declared.Parts D L G → declared.Parts D L G → acts.Act → Type 0
Do tells history health stands old new act = (story : Story) → Stands stands old story
    → Act tells history health (geometry_of old) (memories_of old) (memories_of new) (nodes_of new) (stands (link_of new)) (book_of new) story act
