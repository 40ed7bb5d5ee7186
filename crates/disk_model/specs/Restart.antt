-- Which image a restart takes.
use Rattle.std.specs.Prelude.{◌≡◌, ℕ, Bool, true, false, List, [], ◌∷◌, if◌then◌else◌}
use Rattle.disk_model.specs.declared.choice.Choice.{Choice}
use Rattle.disk_model.specs.declared.choice.Choice.TheVariants.{Old, New, Fill}
use Rattle.disk_model.specs.Crash.{Content, Snapshot, MayLeave, History, moments, advance, is_pending, settled}

-- no range is pending
abbrev pub is_safe : List (ℕ × ℕ) → Bool
is_safe [] = true
is_safe (range ∷ ranges) = false

-- what the disk held at the latest of these moments at which nothing was pending
abbrev pub last_safe : List Snapshot → Content
last_safe [] = λ place. 0
last_safe (snapshot ∷ snapshots) = if is_safe snapshot.pending then snapshot.content else last_safe snapshots

-- this byte at each pending place
abbrev pub filled : Snapshot → ℕ → Content
filled snapshot byte place = if is_pending snapshot.pending place then byte else snapshot.content place

-- the image that a choice names
abbrev pub image_of : Choice → History → Content
image_of Old history = last_safe (moments history)
image_of New history = history.now.content
image_of (Fill byte) history = filled history.now byte

-- after a restart one of the images that a crash might leave is there, the one that is named where the disk is
-- exact, and nothing is pending
pub record IsRestarted (choice : Choice) (exact : Bool) (before now : History) : Type 0 where
  pub image : Content
  pub left : MayLeave before.now image
  pub named : exact ≡ true → image ≡ image_of choice before
  pub is : now ≡ advance before (settled image)
