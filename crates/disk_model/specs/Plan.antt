-- The disk in memory: what it is after the changes that it records.
use Rattle.std.specs.Prelude.{◌≡◌, ◌⊎◌, ℕ, Bool, true, false, ⊤, List, [], ◌∷◌, ◌++◌, Contains, Result, OnOk, OnErr, None}
use Rattle.disk_model.specs.declared.change.Change.{Change}
use Rattle.disk_model.specs.declared.change.Change.TheVariants.{Wrote, Missed, Synced, Restarted}
use Rattle.disk_model.specs.Crash.{History, advance, written, touched, settled}
use Rattle.disk_model.specs.Health.{Health, next_count}
use Rattle.disk_model.specs.Restart.{image_of}

-- a disk in memory, as contracts see it
pub record Plan : Type 0 where
  -- the writes, syncs and restarts, the first one first
  pub changes : List Change
  -- the numbers of the calls that fail; the first call has the number 1
  pub failing : List ℕ
  -- how many calls were made
  pub calls : ℕ
  -- how many calls failed by the list
  pub faults : ℕ
  pub is_starved : Bool
  -- no call failed since it was made, or restarted
  pub is_usable : Bool

-- a disk that was never written
abbrev pub blank : History
blank = record { now = settled (λ _. 0); past = [] }

-- after one change more
abbrev pub changed : History → Change → History
changed history (Wrote at bytes) = advance history (written history.now at bytes)
changed history (Missed at n) = advance history (touched history.now at n)
changed history Synced = advance history (settled history.now.content)
changed history (Restarted choice) = advance history (settled (image_of choice history))

-- after all of them
unfoldable pub history_after : History → List Change → History
history_after history [] = history
history_after history (change ∷ changes) = history_after (changed history change) changes

abbrev pub history_of : List Change → History
history_of changes = history_after blank changes

-- what it shows as a disk: it tells what it holds, has no stop, and takes the image that is named
abbrev pub plan_tells : Plan → Type 0
plan_tells plan = ⊤

abbrev pub plan_history : Plan → History
plan_history plan = history_of plan.changes

abbrev pub plan_health : Plan → Health
plan_health plan = record {
  faults = plan.faults;
  own_faults = plan.faults;
  calls = plan.calls;
  allows = None;
  is_starved = plan.is_starved;
  is_usable = plan.is_usable;
  is_exact = true;
}

-- the list names this call
abbrev pub IsNamed : Plan → Type 0
IsNamed plan = Contains plan.failing (next_count plan.calls)

-- after a call that the list let fail
abbrev pub failed_by_list : Plan → List Change → Plan
failed_by_list old missed = record old {
  changes = old.changes ++ missed;
  calls = next_count old.calls;
  faults = next_count old.faults;
  is_usable = false;
}

-- after a call that found no memory
abbrev pub starved_now : Plan → Plan
starved_now old = record old { calls = next_count old.calls; is_starved = true; is_usable = false }

-- a call failed: it was starved before, the list names it, or it found no memory
abbrev pub Failure : Plan → Plan → List Change → Type 0
Failure old new missed =
    ((old.is_starved ≡ true) × (new ≡ record old { is_usable = false }))
    ⊎ (IsNamed old × (old.is_starved ≡ false) × (new ≡ failed_by_list old missed))
    ⊎ ((old.is_starved ≡ false) × (new ≡ starved_now old))

-- what a call made of the disk: its changes where it succeeded, and whether it may be used then; and where it failed,
-- which was its cause
pub record IsPlanned {X E : Type 0} (old new : Plan) (done missed : List Change) (usable : Bool)
    (result : Result X E) : Type 0 where
  pub ok : OnOk result ((old.is_starved ≡ false) × (IsNamed old → ⊥)
      × (new ≡ record old { changes = old.changes ++ done; calls = next_count old.calls; is_usable = usable }))
  pub err : OnErr result (Failure old new missed)
