-- What a slot for a memory node stands for in a story.
use Rattle.std.specs.Prelude.{◌≡◌, ℕ, Bool, true, false, List, Option, Some, None, ⊤}
use Rattle.disk_model.specs.Crash.{Content, Snapshot, History, MayLeave}
use Rattle.disk_model.specs.declared.disk.Disk.{Ghosts}
use Rattle.disk_model.specs.Health.{Health}
use Rattle.link_model.specs.Links.{numbered}
use Rattle.mini_tx.specs.declared.entry.Entry.{Entry}
use Rattle.mini_tx.specs.declared.message.Message.{Message}
use Rattle.mini_tx.specs.declared.posted.Posted.{Posted}
use Rattle.mem_rules.specs.declared.setup.Setup.{Setup}
use Rattle.mem_node.specs.declared.mem_node.MemNode.{MemNode}
use Rattle.mem_node.specs.declared.node_fault.NodeFault.{NodeFault}
use Rattle.mem_node.specs.declared.node_fault.NodeFault.TheVariants as node
use Rattle.mem_node.specs.Disk.{Makes}
use Rattle.mem_node.specs.Node.{IsBeforeOrAfter, IsOnDisk, node_of, node_disk_of, node_state_of, setup_of, shut_of}
use Rattle.story_rules.specs.MemoryNodes.{State, MemoryNode, Reaction, reaction}
use Rattle.story_rules.specs.Story.{Site, Up, Down}
use Rattle.cluster_parts.specs.declared.delivered.Handled.{Handled}
use Rattle.cluster_parts.specs.declared.delivered.Handled.TheVariants.{Answered, Fell}
use Rattle.cluster_parts.specs.declared.delivered.DownCause.TheVariants.{Stop, Fault, Full}
use Rattle.cluster_parts.specs.declared.memory_slot.MemorySlot.{MemorySlot}

abbrev pub node_in : {D : Type 0} {G : Ghosts D} → MemorySlot D G → MemNode D G
node_in slot = slot.node

abbrev pub is_down_in : {D : Type 0} {G : Ghosts D} → MemorySlot D G → Bool
is_down_in slot = slot.is_down

abbrev pub setup_at : {D : Type 0} {G : Ghosts D} → MemorySlot D G → Setup
setup_at slot = setup_of slot.node

abbrev pub state_at : {D : Type 0} {G : Ghosts D} → MemorySlot D G → State
state_at slot = node_state_of slot.node

-- the memory node runs, and has what the story says; or it is down
abbrev pub IsAt : {D : Type 0} {G : Ghosts D} → Setup → MemorySlot D G → Site → Type 0
IsAt s slot (Up n) = (slot.is_down ≡ false) × (setup_of slot.node ≡ s) × (node_of slot.node ≡ n) × (shut_of slot.node ≡ None)
IsAt s slot (Down n handling) = (slot.is_down ≡ true) × (setup_of slot.node ≡ s)

-- ---- its disk

-- the entry of the message that a memory node was handling when it went down
abbrev pub entry_with : MemoryNode → Option Posted → Option Entry
entry_with n None = None
entry_with n (Some p) = (reaction n p.message).entry

abbrev pub entry_for : List Posted → MemoryNode → Option ℕ → Option Entry
entry_for posted n None = None
entry_for posted n (Some k) = entry_with n (numbered posted k)

-- a crash leaves the entries of what it had, or those and the one of the message
pub record MayHold (s : Setup) (posted : List Posted) (snapshot : Snapshot) (n : MemoryNode) (handling : Option ℕ) : Type 0 where
  pub image : List ℕ
  pub bytes : List (List ℕ)
  pub makes : Makes s image bytes n.state
  pub left : (content : Content) → MayLeave snapshot content → IsBeforeOrAfter s image bytes (entry_for posted n handling) content

-- the disk of one that runs stands for what it has; that of one that is down may hold that, or one entry more
abbrev pub RestsAt : {D : Type 0} {G : Ghosts D} → (D → Type 0) → (D → History) → (D → Health) → Setup → List Posted → MemorySlot D G → Site → Type 0
RestsAt tells history health s posted slot (Up n) = IsOnDisk tells history health slot.node
RestsAt tells history health s posted slot (Down n handling) =
    tells (node_disk_of slot.node) × MayHold s posted (history (node_disk_of slot.node)).now n handling

-- ---- a message

-- the site after message k, by how it went
abbrev pub site_after : ℕ → MemoryNode → Message → Handled → Site
site_after k n x (Answered answer) = Up (reaction n x).now
site_after k n x (Fell Stop) = Down n (Some k)
site_after k n x (Fell Fault) = Down n (Some k)
site_after k n x (Fell Full) = Down n None

-- how a memory node goes down by what it was refused
abbrev pub FallsBy : NodeFault → Handled → Type 0
FallsBy node.Down handled = handled ≡ Fell Fault
FallsBy node.Full handled = handled ≡ Fell Full
FallsBy node.Other handled = handled ≡ Fell Fault
FallsBy (node.Damaged at) handled = handled ≡ Fell Fault
FallsBy node.NoMemory handled = ⊥

-- what it answers, where it does
abbrev pub Answers : MemoryNode → Message → Handled → Type 0
Answers n x (Answered answer) = answer ≡ (reaction n x).answer
Answers n x (Fell cause) = ⊤
