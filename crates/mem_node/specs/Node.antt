-- A memory node as contracts see it, and how it stands on its disk.
use Rattle.std.specs.Prelude.{◌≡◌, ◌⊎◌, ◌<◌, ◌+◌, ◌^◌, ℕ, List, [], ◌∷◌, ◌++◌, length, Option, Some, None, Result, OnOk, OnErr, IfErr, IsErrOf}
use Rattle.disk_model.specs.Crash.{Content, History, LeavesOnly}
use Rattle.disk_model.specs.declared.disk.Disk.{Ghosts}
use Rattle.disk_model.specs.Health.{Health, Fell, IsLive, Passed, Speaks}
use Rattle.gate_log.specs.declared.log.Log.{Log}
use Rattle.gate_log.specs.Log.{IsLog, base_of, end_of}
use Rattle.mini_tx.specs.declared.entry.Entry.{Entry}
use Rattle.mini_tx.specs.EntryGrammar.{entry_spelling}
use Rattle.mem_node.specs.declared.mem_node.MemNode.{MemNode}
use Rattle.mem_node.specs.declared.node_fault.NodeFault.{NodeFault}
use Rattle.mem_node.specs.declared.node_fault.NodeFault.TheVariants.{Down, Full, Other, Damaged, NoMemory}
use Rattle.mem_rules.specs.declared.setup.Setup.{Setup}
use Rattle.mem_node.specs.declared.shut.Shut.{Shut}
use Rattle.mem_node.specs.declared.shut.Shut.TheVariants as shut
use Rattle.mem_rules.specs.Memory.{state_of, setup_in, node_with}
use Rattle.mem_rules.specs.State.{State, after_one}
use Rattle.mem_rules.specs.Rules.{Node}
use Rattle.mem_node.specs.Disk.{Has, Makes}
use Rattle.node_disk.specs.Half.{half_of, log_at}

abbrev pub log_of : {D : Type 0} {G : Ghosts D} → MemNode D G → Log D
log_of node = node.log

abbrev pub node_disk_of : {D : Type 0} {G : Ghosts D} → MemNode D G → D
node_disk_of node = node.log.disk

abbrev pub setup_of : {D : Type 0} {G : Ghosts D} → MemNode D G → Setup
setup_of node = setup_in node.memory

-- what it took from its log
abbrev pub node_state_of : {D : Type 0} {G : Ghosts D} → MemNode D G → State
node_state_of node = state_of node.memory

-- what it has; no cut is held yet
abbrev pub node_of : {D : Type 0} {G : Ghosts D} → MemNode D G → Node
node_of node = node_with (state_of node.memory)

-- why it answers nothing until it is loaded again
abbrev pub shut_of : {D : Type 0} {G : Ghosts D} → MemNode D G → Option Shut
shut_of node = node.shut

-- the bytes that an entry adds to a log
abbrev pub appended : Option Entry → List (List ℕ)
appended None = []
appended (Some e) = entry_spelling e ∷ []

-- the log has room for it
abbrev pub HasRoom : {D : Type 0} → Log D → Option Entry → Type 0
HasRoom log None = Unit {0}
HasRoom log (Some e) = end_of log + 5 + length (entry_spelling e) < 2 ^ 32

-- the log is that of the half in use, and the disk below it has this stored image and the bytes of these entries, which
-- make this state: nothing is pending there, and the log may be appended to
pub record IsSoundOn {D : Type 0} (tells : D → Type 0) (history : D → History) (health : D → Health)
    (s : Setup) (log : Log D) (image : List ℕ) (bytes : List (List ℕ)) (state : State) : Type 0 where
  pub logged : IsLog tells history health log bytes
  pub half : base_of log ≡ log_at (half_of (history log.disk).now.content)
  pub has : Has s (history log.disk).now.content image bytes
  pub makes : Makes s image bytes state

-- its log makes what it has of this stored image
pub record IsOn {D : Type 0} {G : Ghosts D} (tells : D → Type 0) (history : D → History) (health : D → Health)
    (node : MemNode D G) (image : List ℕ) : Type 0 where
  pub bytes : List (List ℕ)
  pub logged : IsLog tells history health node.log bytes
  pub makes : Makes node.memory.setup image bytes (state_of node.memory)

-- its disk has this stored image and the bytes of these entries, and they make what it has
abbrev pub IsSound : {D : Type 0} {G : Ghosts D} → (D → Type 0) → (D → History) → (D → Health) → MemNode D G → List ℕ → List (List ℕ) → Type 0
IsSound tells history health node image bytes = IsSoundOn tells history health node.memory.setup node.log image bytes (state_of node.memory)

-- its disk stands for what it has
abbrev pub IsOnDisk : {D : Type 0} {G : Ghosts D} → (D → Type 0) → (D → History) → (D → Health) → MemNode D G → Type 0
IsOnDisk tells history health node = (image : List ℕ) × ((bytes : List (List ℕ)) × IsSound tells history health node image bytes)

-- the disk has the bytes of the entries before, or of those and the new one
abbrev pub IsBeforeOrAfter : Setup → List ℕ → List (List ℕ) → Option Entry → Content → Type 0
IsBeforeOrAfter s image bytes e content = Has s content image bytes ⊎ Has s content image (bytes ++ appended e)

-- why a message is not handled
abbrev pub IsHandleFault : NodeFault → Type 0
IsHandleFault Down = Unit {0}
IsHandleFault Full = Unit {0}
IsHandleFault Other = ⊥
IsHandleFault (Damaged at) = ⊥
IsHandleFault NoMemory = Unit {0}

-- how many writes and syncs an entry takes
abbrev pub steps_of : Option Entry → ℕ
steps_of None = 0
steps_of (Some e) = 4

-- a disk that can take it
abbrev pub CanTake : Option Entry → Health → Type 0
CanTake None health = Unit {0}
CanTake (Some e) health = IsLive 4 health

-- what a memory node does where a message makes it append this entry, or none
pub record Handles {D X : Type 0} {G : Ghosts D} (tells : D → Type 0) (history : D → History) (health : D → Health)
    (before now : MemNode D G) (entry : Option Entry) (result : Result X NodeFault) : Type 0 where
  pub setup : now.memory.setup ≡ before.memory.setup
  -- after Ok it has what the entry makes; after a refusal what it had
  pub state : OnOk result (state_of now.memory ≡ after_one (state_of before.memory) entry)
  pub refused : OnErr result (state_of now.memory ≡ state_of before.memory)
  -- after Ok the entry stands in the log behind all that stood there, and is safe: nothing is pending
  pub sound : OnOk result ((image : List ℕ) (bytes : List (List ℕ)) → IsSound tells history health before image bytes
      → IsSound tells history health now image (bytes ++ appended entry))
  -- a crash at any moment leaves the entries that stood in the log, or those and the new one
  pub any_moment : (image : List ℕ) (bytes : List (List ℕ)) → IsSound tells history health before image bytes
      → LeavesOnly (history before.log.disk) (history now.log.disk)
      (IsBeforeOrAfter before.memory.setup image bytes entry)
  -- after each answer the disk still tells what it holds, so it may be restarted and loaded
  pub still : Speaks tells health before.log.disk → tells now.log.disk
  -- it answers Down only where the disk failed, now or in an earlier call
  pub down : IsErrOf result Down
      → (before.shut ≡ Some shut.Down) ⊎ Fell 4 (health before.log.disk) (health now.log.disk)
  -- and Full exactly where the log has no room for the entry, or had none in an earlier call; the log is then as before
  pub full : IsErrOf result Full → (before.shut ≡ Some shut.Full) ⊎ ¬ HasRoom before.log entry
  pub full_when : before.shut ≡ None → ¬ HasRoom before.log entry → IsErrOf result Full ⊎ IsErrOf result NoMemory
  pub full_log : IsErrOf result Full → now.log ≡ before.log
  -- after want of memory the log is as before
  pub no_memory : IsErrOf result NoMemory → (now.log ≡ before.log) × (now.shut ≡ before.shut)
  pub causes : IfErr result IsHandleFault
  -- after Down and Full it has to be loaded again
  pub running : OnOk result (now.shut ≡ None)
  pub closes : (IsErrOf result Down → now.shut ≡ Some shut.Down) × (IsErrOf result Full → now.shut ≡ Some shut.Full)
  -- after Ok no call failed, and a stop let the calls of the entry pass
  pub passed : OnOk result (Passed (steps_of entry) (health before.log.disk) (health now.log.disk))
  pub live : OnOk result (CanTake entry (health before.log.disk))
