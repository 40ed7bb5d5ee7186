-- What the disk of a memory node stands for.
use Rattle.std.specs.Prelude.{◌≡◌, ◌⊎◌, ℕ, ◌+◌, List, [], ◌∷◌, ◌++◌, length, map, Ok}
use Rattle.disk_model.specs.Crash.{Content, Holds}
use Rattle.disk_model.specs.LogBytes as log
use Rattle.gate_log.specs.declared.side.Side.{Side}
use Rattle.mini_tx.specs.declared.entry.Entry.{Entry}
use Rattle.mini_tx.specs.EntryReading.{entry_of}
use Rattle.mem_node.specs.declared.node_fault.NodeFault.{NodeFault}
use Rattle.mem_node.specs.declared.node_fault.NodeFault.TheVariants.{Down, Full, Other, Damaged, NoMemory}
use Rattle.mem_rules.specs.declared.setup.Setup.{Setup}
use Rattle.mem_rules.specs.State.{State, opened, after_entry, after}
use Rattle.mem_rules.specs.Fit.{IsFit, size_of}
use Rattle.node_disk.specs.Half.{half_of, image_at, log_at}
use Rattle.node_disk.specs.Header.{IsFormatted}

-- each entry is fit behind those before it
abbrev pub AreFit : Setup → State → List Entry → Type 0
AreFit s state [] = Unit {0}
AreFit s state (e ∷ entries) = IsFit s state e × AreFit s (after_entry state e) entries

-- these bytes of a log are entries that make this state of the stored image
pub record Makes (s : Setup) (image : List ℕ) (bytes : List (List ℕ)) (state : State) : Type 0 where
  pub entries : List Entry
  pub read : map entry_of bytes ≡ map Ok entries
  pub fit : AreFit s (opened s.geometry.nodes image) entries
  pub made : state ≡ after (opened s.geometry.nodes image) entries

-- the disk is formatted, and the half in use has this stored image, and in its log the bytes of these entries
pub record Has (s : Setup) (content : Content) (image : List ℕ) (bytes : List (List ℕ)) : Type 0 where
  pub formatted : IsFormatted s content
  pub sized : length image ≡ size_of s
  pub stored : Holds content (image_at s (half_of content)) image
  pub log : log.StandsFor content (log_at (half_of content)) bytes

-- the disk stands for this state of this memory node
pub record StandsFor (s : Setup) (content : Content) (state : State) : Type 0 where
  pub image : List ℕ
  pub bytes : List (List ℕ)
  pub has : Has s content image bytes
  pub makes : Makes s image bytes state

-- in a log that begins at this base the gate at this place opens an entry that is none, or that the log of this memory
-- node may not have behind those before it, which are all fit
pub record IsUnfit (s : Setup) (base : ℕ) (image : List ℕ) (bytes : List (List ℕ)) (at : ℕ) : Type 0 where
  pub front : List (List ℕ)
  pub bad : List ℕ
  pub rest : List (List ℕ)
  pub split : bytes ≡ front ++ bad ∷ rest
  pub there : at ≡ base + length (log.log_bytes front)
  pub state : State
  pub before : Makes s image front state
  pub unfit : (e : Entry) → entry_of bad ≡ Ok e → IsFit s state e → ⊥

-- why a stored image and a log's bytes are no state of this memory node
abbrev pub IsReplayFault : NodeFault → (ℕ → Type 0) → Type 0
IsReplayFault Down damage = ⊥
IsReplayFault Full damage = ⊥
IsReplayFault Other damage = ⊥
IsReplayFault (Damaged at) damage = damage at
IsReplayFault NoMemory damage = Unit {0}

-- why a memory node was not loaded: the disk failed; or no call failed, and it is no disk of this memory node, its
-- log is damaged or has an entry that is unfit, or there was no memory
abbrev pub IsLoadFault : NodeFault → Type 0 → Type 0 → Type 0 → (ℕ → Type 0) → Type 0
IsLoadFault Down fell passed other damage = fell
IsLoadFault Full fell passed other damage = ⊥
IsLoadFault Other fell passed other damage = passed × other
IsLoadFault (Damaged at) fell passed other damage = passed × damage at
IsLoadFault NoMemory fell passed other damage = passed

-- with this stored image the log of this half is damaged at this place, or has an entry there that is unfit
abbrev pub IsBrokenLog : Setup → Content → Side → List ℕ → ℕ → Type 0
IsBrokenLog s content half image at =
    log.IsDamaged content (log_at half) at
    ⊎ ((bytes : List (List ℕ)) × log.StandsFor content (log_at half) bytes × IsUnfit s (log_at half) image bytes at)

-- a disk of this memory node where the log of the half in use is so
abbrev pub IsBroken : Setup → Content → ℕ → Type 0
IsBroken s content at =
    IsFormatted s content
    × ((image : List ℕ) × (length image ≡ size_of s) × Holds content (image_at s (half_of content)) image
    × IsBrokenLog s content (half_of content) image at)
