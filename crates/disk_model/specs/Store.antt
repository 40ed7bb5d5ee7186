-- What the frames and the pending ranges of a disk in memory keep.
use Rattle.std.specs.Prelude.{◌≡◌, ℕ, List, [], ◌∷◌, map, length, if◌then◌else◌}
use Rattle.disk_model.specs.declared.choice.Choice.{Choice}
use Rattle.disk_model.specs.declared.choice.Choice.TheVariants.{Old, New, Fill}
use Rattle.disk_model.specs.declared.overwritten.Overwritten.{Overwritten}
use Rattle.disk_model.specs.declared.store.Store.{Store}
use Rattle.disk_model.specs.Crash.{Content, History, moments, is_pending, put}
use Rattle.disk_model.specs.Frames.{bytes_of}
use Rattle.disk_model.specs.Plan.{history_of}
use Rattle.disk_model.specs.Restart.{last_safe}

-- the pending ranges, the oldest first
abbrev pub ranges_of : List Overwritten → List (ℕ × ℕ)
ranges_of pending = map (λ (o : Overwritten). (o.at, length o.bytes.items)) pending

-- the content with what was overwritten put back, the newest first
abbrev pub undone : Content → List Overwritten → Content
undone content [] = content
undone content (o ∷ os) = put (undone content os) o.at o.bytes.items

-- the image that a choice names
abbrev pub image_by : Choice → Content → List Overwritten → Content
image_by Old content overwritten = undone content overwritten
image_by New content overwritten = content
image_by (Fill byte) content overwritten = λ place.
    if is_pending (ranges_of overwritten) place then byte else content place

-- the frames have the content, and with what was overwritten put back that of the last sync
pub record IsKept (content : Content) (overwritten : List Overwritten) (history : History) : Type 0 where
  pub now : (place : ℕ) → content place ≡ history.now.content place
  pub synced : (place : ℕ) → undone content overwritten place ≡ last_safe (moments history) place
  pub pending : (place : ℕ) → is_pending (ranges_of overwritten) place ≡ is_pending history.now.pending place

-- a store keeps what its changes made of the disk
abbrev pub IsStore : Store → Type 0
IsStore store = IsKept (bytes_of store.frames) store.pending.items (history_of store.changes.items)
