-- What each call of a disk does, over what the disk shows.
use Rattle.std.specs.Prelude.{◌≡◌, ℕ, List, [], length, Result, OnOk, OnErr}
use Rattle.disk_model.specs.declared.choice.Choice.{Choice}
use Rattle.disk_model.specs.Crash.{History, Holds, IsWithin, advance, written, touched, settled}
use Rattle.disk_model.specs.Health.{Health, FailedFor, Fell, Hands, Revived, Speaks, next_count}
use Rattle.disk_model.specs.Restart.{IsRestarted}

-- a read gave these bytes from the place `at` on
pub record IsRead {D X E : Type 0} (tells : D → Type 0) (history : D → History) (health : D → Health)
    (old new : D) (at : ℕ) (bytes : List ℕ) (result : Result X E) : Type 0 where
  pub hands : Hands tells health 0 old new result
  pub calls : OnOk result ((health new).calls ≡ next_count (health old).calls)
  pub given : OnOk result (Speaks tells health old → Holds (history old).now.content at bytes)
  pub kept : Speaks tells health old → history new ≡ history old

-- a write of these bytes at the place `at`
pub record IsWrite {D X E : Type 0} (tells : D → Type 0) (history : D → History) (health : D → Health)
    (old new : D) (at : ℕ) (bytes : List ℕ) (result : Result X E) : Type 0 where
  pub hands : Hands tells health 1 old new result
  pub calls : OnOk result ((health new).calls ≡ next_count (health old).calls)
  pub ok : OnOk result (Speaks tells health old
      → history new ≡ advance (history old) (written (history old).now at bytes))
  pub err : OnErr result (Speaks tells health old
      → IsWithin (touched (history old).now at (length bytes)) (history old) (history new))

-- a sync
pub record IsSync {D X E : Type 0} (tells : D → Type 0) (history : D → History) (health : D → Health)
    (old new : D) (result : Result X E) : Type 0 where
  pub hands : Hands tells health 1 old new result
  pub calls : OnOk result ((health new).calls ≡ next_count (health old).calls)
  pub ok : OnOk result (Speaks tells health old
      → history new ≡ advance (history old) (settled (history old).now.content))
  pub err : OnErr result (Speaks tells health old → IsWithin (history old).now (history old) (history new))

-- a restart with this choice
pub record IsRestart {D X E : Type 0} (tells : D → Type 0) (history : D → History) (health : D → Health)
    (old new : D) (choice : Choice) (result : Result X E) : Type 0 where
  pub still : tells old → tells new
  pub ok : OnOk result (tells old → IsRestarted choice (health old).is_exact (history old) (history new))
  pub err : OnErr result (tells old → IsWithin (history old).now (history old) (history new))
  pub revived : OnOk result (Revived (health old) (health new))
  pub fell : OnErr result (Fell 0 (health old) (health new))
  pub own : OnErr result (FailedFor (health old).own_faults (health new).own_faults (health new).is_starved)

-- the disk tells what it holds, may be used, and has nothing pending: so it may be handed in
pub record IsReady {D : Type 0} (tells : D → Type 0) (history : D → History) (health : D → Health)
    (disk : D) : Type 0 where
  pub speaks : Speaks tells health disk
  pub safe : (history disk).now.pending ≡ []
