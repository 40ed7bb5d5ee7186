-- What formatting makes of a shelf and its disks.
use Rattle.std.specs.Prelude.{◌≡◌, ◌≢◌, ◌⊎◌, ◌<◌, ◌≤◌, ◌==◌, ◌||◌, if◌then◌else◌, ℕ, Bool, true, false, List, length, slice_get, Option, Some, None, is_some, ⊤}
use Rattle.sfs_base.specs.Fault.{Rose}
use Rattle.disk_model.specs.Crash.{History}
use Rattle.disk_model.specs.declared.disk.Disk.{Ghosts}
use Rattle.disk_model.specs.Health.{Health}
use Rattle.mini_tx.specs.FreshImages.{fresh_image}
use Rattle.mini_tx.specs.declared.geometry.Geometry4.{Geometry4}
use Rattle.mem_rules.specs.declared.setup.Setup.{Setup}
use Rattle.mem_rules.specs.State.{opened}
use Rattle.mem_node.specs.declared.node_fault.NodeFault.{NodeFault}
use Rattle.mem_node.specs.declared.node_fault.NodeFault.TheVariants as node
use Rattle.mem_node.specs.Node.{IsOnDisk, node_disk_of, shut_of}
use Rattle.cluster_parts.specs.declared.memory_slot.MemorySlot.{MemorySlot}
use Rattle.cluster_parts.specs.Slots.{is_down_in, node_in, setup_at, state_at}
use Rattle.cluster_memories.specs.Memories.{setup_for}
use Rattle.cluster_format.specs.declared.cluster_fault.ClusterFault.{ClusterFault}
use Rattle.cluster_format.specs.declared.cluster_fault.ClusterFault.TheVariants.{Failed, Other, Damaged, NoMemory}

-- a memory node that runs, with the fresh image and no record; where its disk told what it holds, it stands for that
pub record IsFresh {D : Type 0} {G : Ghosts D} (tells : D → Type 0) (history : D → History) (health : D → Health) (s : Setup) (told : Type 0) (slot : MemorySlot D G) : Type 0 where
  pub setup : setup_at slot ≡ s
  pub up : is_down_in slot ≡ false
  pub running : shut_of (node_in slot) ≡ None
  pub state : state_at slot ≡ opened s.geometry.nodes (fresh_image s.geometry s.index)
  pub sound : told → IsOnDisk tells history health (node_in slot)

-- why a cluster is not formatted, by why a memory node was not, and whether its disk is starved
abbrev pub IsCause : NodeFault → Bool → ClusterFault → Type 0
IsCause node.Down true fault = fault ≡ NoMemory
IsCause node.Down false fault = fault ≡ Failed
IsCause node.Full starved fault = ⊥
IsCause node.Other starved fault = ⊥
IsCause (node.Damaged at) starved fault = fault ≡ Damaged at
IsCause node.NoMemory starved fault = fault ≡ NoMemory

-- what a shelf tells of its disks, which of them are taken, and how many calls failed
pub record Shelves (H D : Type 0) : Type 1 where
  pub tells : H → Type 0
  pub disks : H → ℕ → Option D
  pub is_taken : H → ℕ → Bool
  pub faults : H → ℕ

abbrev pub shelves_of : {H D : Type 0} → (H → Type 0) → (H → ℕ → Option D) → (H → ℕ → Bool) → (H → ℕ) → Shelves H D
shelves_of tells disks is_taken faults = record { tells = tells; disks = disks; is_taken = is_taken; faults = faults }

-- this disk of the shelf failed: its count rose, and it lies there again
pub record DiskFailed {H D : Type 0} (s : Shelves H D) (health : D → Health) (k : ℕ) (old new : H) : Type 0 where
  pub before : D
  pub now : D
  pub was : s.tells old → s.disks old k ≡ Some before
  pub is : s.tells old → s.disks new k ≡ Some now
  pub rose : Rose (health before).faults (health now).faults

-- the shelf failed, or this disk; of the other causes nothing more is said
abbrev pub HasFailed : {H D : Type 0} → Shelves H D → (D → Health) → ℕ → H → H → ClusterFault → Type 0
HasFailed s health k old new Failed = Rose (s.faults old) (s.faults new) ⊎ DiskFailed s health k old new
HasFailed s health k old new Other = ⊥
HasFailed s health k old new (Damaged at) = ⊤
HasFailed s health k old new NoMemory = ⊤

-- this disk is taken from the shelf, and nothing else changes
pub record Takes {H D : Type 0} (s : Shelves H D) (k : ℕ) (old new : H) : Type 0 where
  pub stays : s.tells old → s.tells new
  pub before : s.tells new → s.tells old
  pub rest : s.tells old → (j : ℕ) → s.disks new j ≡ (if j == k then None else s.disks old j)
  pub was : s.tells old → is_some (s.disks old k) ≡ true
  pub taken : (j : ℕ) → s.is_taken new j ≡ (j == k || s.is_taken old j)
  pub faults : s.faults new ≡ s.faults old

-- no disk is taken that was not, and a disk lies where one lay; but for this number all is as before
pub record Leaves {H D : Type 0} (s : Shelves H D) (k : ℕ) (old new : H) : Type 0 where
  pub stays : s.tells old → s.tells new
  pub before : s.tells new → s.tells old
  pub there : s.tells old → (j : ℕ) → is_some (s.disks new j) ≡ is_some (s.disks old j)
  pub back : (j : ℕ) → s.is_taken new j ≡ true → s.is_taken old j ≡ true
  pub own : (j : ℕ) → j ≢ k → s.is_taken new j ≡ s.is_taken old j

-- the disks of these memory nodes, which have the numbers from 0 on, are taken, and beside them no disk that was not at first;
-- elsewhere a disk lies where one lay
pub record IsHeld {H D : Type 0} {G : Ghosts D} (s : Shelves H D) (told : D → Type 0) (first now : H) (slots : List (MemorySlot D G)) : Type 0 where
  pub stays : s.tells first → s.tells now
  pub before : s.tells now → s.tells first
  pub taken : (j : ℕ) → s.is_taken now j ≡ true → (j < length slots) ⊎ (s.is_taken first j ≡ true)
  pub held : (j : ℕ) → j < length slots → s.is_taken now j ≡ true
  pub own : s.tells first → (j : ℕ) (slot : MemorySlot D G) → slice_get slots j ≡ Some slot → told (node_disk_of (node_in slot))
  pub lay : s.tells first → (j : ℕ) → j < length slots → is_some (s.disks first j) ≡ true
  pub there : s.tells first → (j : ℕ) → length slots ≤ j → is_some (s.disks now j) ≡ is_some (s.disks first j)

-- every disk that was taken is given back: none is taken that was not at first, and a disk lies where one lay
pub record IsGivenBack {H D : Type 0} (s : Shelves H D) (first now : H) : Type 0 where
  pub stays : s.tells first → s.tells now
  pub taken : (j : ℕ) → s.is_taken now j ≡ true → s.is_taken first j ≡ true
  pub there : s.tells first → (j : ℕ) → is_some (s.disks now j) ≡ is_some (s.disks first j)

-- these are given back, and all else is as before
pub record GivesBack {H D : Type 0} (s : Shelves H D) (count : ℕ) (old new : H) : Type 0 where
  pub stays : s.tells old → s.tells new
  pub before : s.tells new → s.tells old
  pub back : (j : ℕ) → j < count → s.is_taken new j ≡ false
  pub left : (j : ℕ) → count ≤ j → s.is_taken new j ≡ s.is_taken old j
  pub there : s.tells old → (j : ℕ) → j < count → is_some (s.disks new j) ≡ true
  pub others : s.tells old → (j : ℕ) → count ≤ j → s.disks new j ≡ s.disks old j
  pub faults : s.faults new ≡ s.faults old

-- each is fresh
abbrev pub AreFresh : {D : Type 0} {G : Ghosts D} → (D → Type 0) → (D → History) → (D → Health) → Geometry4 → Type 0 → List (MemorySlot D G) → Type 0
AreFresh tells history health g told slots = (m : ℕ) (slot : _) → slice_get slots m ≡ Some slot → IsFresh tells history health (setup_for g m) told slot
