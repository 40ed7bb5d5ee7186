-- What is laid out on a disk that is formatted.
use Rattle.std.specs.Prelude.{◌≡◌, ◌≢◌, ◌⊎◌, ℕ, ◌^◌, List, [], ◌++◌, replicate}
use Rattle.disk_model.specs.Crash.{Content, Snapshot, Holds}
use Rattle.mem_rules.specs.declared.setup.Setup.{Setup}
use Rattle.node_disk.specs.Header.{header_bytes}

-- the disk is as it was but for its mark
abbrev pub IsMarkAlone : Content → Content → Type 0
IsMarkAlone content image = (place : ℕ) → place ≢ 128 → image place ≡ content place

-- the front of the first page, the image and a log without entries stand there, and the mark of a formatted disk
pub record IsLaidOut (front stored : List ℕ) (image : Content) : Type 0 where
  pub page : Holds image 0 front
  pub half : Holds image 4096 stored
  pub closed : image (2 ^ 32) ≡ 0
  pub mark : image 128 ≡ 1

-- what a crash leaves while these are written
abbrev pub IsLaying : Content → List ℕ → List ℕ → Content → Type 0
IsLaying content front stored image = IsMarkAlone content image ⊎ ((image 128 ≢ 1) ⊎ IsLaidOut front stored image)

-- once they are written and safe
pub record IsDone (front stored : List ℕ) (now : Snapshot) : Type 0 where
  pub safe : now.pending ≡ []
  pub laid : IsLaidOut front stored now.content

-- the selector, which names the first half, zeros, and the header
abbrev pub front_bytes : Setup → List ℕ
front_bytes s = replicate 64 0 ++ header_bytes s
