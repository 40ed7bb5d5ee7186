-- The history of a disk in memory, and what its calls are as those of a disk.
use Rattle.std.proofs.Common.{◌≡◌, ℕ, ◌-◌, Bool, true, false, cond, List, [], ◌∷◌, ◌++◌, ◌<◌, ◌^◌, Result, Ok, Err, refl, sym, ap, subst, ◌∙◌, arith, inl, inr}
use Rattle.std.specs.Prelude.{◌||◌, OnOk, is_ok, length, slice_index}
use Rattle.std.proofs.lemmas.List.{append-nil}
use Rattle.sfs_base.specs.Fault.{Rose}
use Rattle.disk_model.specs.declared.choice.Choice.{Choice}
use Rattle.disk_model.specs.declared.choice.Choice.TheVariants.{Old, New, Fill}
use Rattle.disk_model.specs.declared.change.Change.{Change}
use Rattle.disk_model.specs.declared.change.Change.TheVariants.{Wrote, Missed, Synced, Restarted}
use Rattle.disk_model.specs.Calls.{IsRead, IsWrite, IsSync, IsRestart}
use Rattle.disk_model.specs.Crash.{History, MayLeave, IsWithin, Holds, moments, touched, covers, is_pending}
use Rattle.disk_model.specs.Health.{Fell, Hands, IsLive, Revived, next_count}
use Rattle.disk_model.specs.Plan.{Plan, blank, changed, history_after, history_of, plan_tells, plan_history, plan_health, Failure, IsPlanned}
use Rattle.disk_model.specs.Restart.{image_of, last_safe}
use Rattle.disk_model.proofs.StoreLemmas.{history_more}

-- a call that succeeds just where another one does
pub ok_along : {X Y E F : Type 0} (P : Type 0) (r : Result X E) (s : Result Y F) → is_ok s ≡ is_ok r → OnOk r P → OnOk s P
ok_along P (Ok x) (Ok y) same holds = holds
ok_along P (Ok x) (Err e) same holds = tt
ok_along P (Err d) (Ok y) same holds = absurd cc
ok_along P (Err d) (Err e) same holds = tt

or_false : (a b : Bool) → a || b ≡ false → (a ≡ false) × (b ≡ false)
or_false true b none = absurd cc
or_false false b none = (refl, none)

-- outside what is pending the content is that of the last safe moment
record IsSound (history : History) : Type 0 where
  same : (place : ℕ) → is_pending history.now.pending place ≡ false → last_safe (moments history) place ≡ history.now.content place

sound_changed : (history : History) (change : Change) → IsSound history → IsSound (changed history change)
sound_changed history (Wrote at bytes) sound = record {
  same = λ place clear.
      let parts = or_false (covers at (length bytes) place) (is_pending history.now.pending place) clear in
      sound.same place parts.1 ∙ sym (ap (λ b. cond b (slice_index bytes (place - at)) (history.now.content place)) parts.0);
}
sound_changed history (Missed at n) sound = record {
  same = λ place clear. sound.same place (or_false (covers at n place) (is_pending history.now.pending place) clear).1;
}
sound_changed history Synced sound = record { same = λ place clear. refl }
sound_changed history (Restarted choice) sound = record { same = λ place clear. refl }

sound_after : (history : History) (changes : List Change) → IsSound history → IsSound (history_after history changes)
unfolding history_after
sound_after history [] sound = sound
sound_after history (change ∷ changes) sound = sound_after (changed history change) changes (sound_changed history change sound)

sound_of : (changes : List Change) → IsSound (history_of changes)
sound_of changes = sound_after blank changes record { same = λ place clear. refl }

-- the image that a choice names is one that a crash may leave
image_left : (choice : Choice) (history : History) → IsSound history → MayLeave history.now (image_of choice history)
image_left Old history sound = record { same = sound.same }
image_left New history sound = record { same = λ place clear. refl }
image_left (Fill byte) history sound = record { same = λ place clear. ap (λ b. cond b byte (history.now.content place)) clear }

-- one change more, or none
grown : (old : Plan) (new : List Change) (change : Change) → new ≡ old.changes ++ change ∷ [] → history_of new ≡ changed (plan_history old) change
grown old new change more = ap history_of more ∙ history_more blank old.changes change

same_history : (old new : Plan) → new.changes ≡ old.changes → plan_history new ≡ plan_history old
same_history old new same = ap history_of same

no_more : (old new : Plan) → new.changes ≡ old.changes ++ [] → plan_history new ≡ plan_history old
no_more old new same = same_history old new (same ∙ append-nil old.changes)

rose_once : (n : ℕ) → Rose n (next_count n)
rose_once n = omega arith

-- a failure, as the health of the disk tells it
fell_by : (steps : ℕ) (old new : Plan) (missed : List Change) → old.faults < 2 ^ 64 → Failure old new missed → Fell steps (plan_health old) (plan_health new)
fell_by steps old new missed fits (inl before) = subst (λ (p : Plan). Fell steps (plan_health old) (plan_health p)) (sym before.1) record {
  later = omega arith;
  own_later = omega arith;
  failed = inr before.0;
  cause = inl (inr before.0);
  made = 0;
  within = omega arith;
  spent = refl;
  starved = λ was. was;
  unusable = refl;
  exact = refl;
}
fell_by steps old new missed fits (inr (inl named)) = subst (λ (p : Plan). Fell steps (plan_health old) (plan_health p)) (sym named.2) record {
  later = omega arith;
  own_later = omega arith;
  failed = inl (rose_once old.faults);
  cause = inl (inl (rose_once old.faults));
  made = 0;
  within = omega arith;
  spent = refl;
  starved = λ was. was;
  unusable = refl;
  exact = refl;
}
fell_by steps old new missed fits (inr (inr starved)) = subst (λ (p : Plan). Fell steps (plan_health old) (plan_health p)) (sym starved.1) record {
  later = omega arith;
  own_later = omega arith;
  failed = inr refl;
  cause = inl (inr refl);
  made = 0;
  within = omega arith;
  spent = refl;
  starved = λ was. refl;
  unusable = refl;
  exact = refl;
}

live_by : (steps : ℕ) (old : Plan) → old.is_starved ≡ false → IsLive steps (plan_health old)
live_by steps old fed = record { fed = fed; passes = λ stopped. absurd cc; lets = tt }

-- what a call owes as one of a disk
hands_by : {X E : Type 0} (steps : ℕ) (old new : Plan) (done missed : List Change) (result : Result X E) → old.faults < 2 ^ 64
    → IsPlanned old new done missed old.is_usable result → Hands plan_tells plan_health steps old new result
hands_by {E = E} steps old new done missed (Ok x) fits planned =
    subst (λ (p : Plan). Hands {E = E} plan_tells plan_health steps old p (Ok x)) (sym planned.ok.2) record {
      still = λ speaks. speaks.0;
      speaks = λ speaks. speaks;
      passed = record { faults = refl; own = refl; spent = refl; starved = refl; usable = refl; exact = refl };
      live = live_by steps old planned.ok.0;
      fell = tt;
    }
hands_by steps old new done missed (Err e) fits planned = record {
  still = λ speaks. speaks.0;
  speaks = tt;
  passed = tt;
  live = tt;
  fell = fell_by steps old new missed fits planned.err;
}

calls_by : {X E : Type 0} (old new : Plan) (done missed : List Change) (usable : Bool) (result : Result X E) → IsPlanned old new done missed usable result
    → OnOk result (new.calls ≡ next_count old.calls)
calls_by old new done missed usable (Ok x) planned = ap (λ (p : Plan). p.calls) planned.ok.2
calls_by old new done missed usable (Err e) planned = tt

-- a failed call that changes nothing
kept_by : (old new : Plan) → Failure old new [] → plan_history new ≡ plan_history old
kept_by old new (inl before) = ap plan_history before.1
kept_by old new (inr (inl named)) = no_more old new (ap (λ (p : Plan). p.changes) named.2)
kept_by old new (inr (inr starved)) = ap plan_history starved.1

pub read_by : {X E : Type 0} (old new : Plan) (at : ℕ) (bytes : List ℕ) (result : Result X E) → old.faults < 2 ^ 64
    → IsPlanned old new [] [] old.is_usable result → OnOk result (Holds (plan_history old).now.content at bytes)
    → IsRead plan_tells plan_history plan_health old new at bytes result
read_by old new at bytes (Ok x) fits planned given = record {
  hands = hands_by 0 old new [] [] (Ok x) fits planned;
  calls = calls_by old new [] [] old.is_usable (Ok x) planned;
  given = λ speaks. given;
  kept = λ speaks. no_more old new (ap (λ (p : Plan). p.changes) planned.ok.2);
}
read_by old new at bytes (Err e) fits planned given = record {
  hands = hands_by 0 old new [] [] (Err e) fits planned;
  calls = tt;
  given = tt;
  kept = λ speaks. kept_by old new planned.err;
}

pub write_by : {X E : Type 0} (old new : Plan) (at : ℕ) (bytes : List ℕ) (result : Result X E) → old.faults < 2 ^ 64
    → IsPlanned old new (Wrote at bytes ∷ []) (Missed at (length bytes) ∷ []) old.is_usable result
    → IsWrite plan_tells plan_history plan_health old new at bytes result
write_by old new at bytes (Ok x) fits planned = record {
  hands = hands_by 1 old new (Wrote at bytes ∷ []) (Missed at (length bytes) ∷ []) (Ok x) fits planned;
  calls = calls_by old new (Wrote at bytes ∷ []) (Missed at (length bytes) ∷ []) old.is_usable (Ok x) planned;
  ok = λ speaks. grown old new.changes (Wrote at bytes) (ap (λ (p : Plan). p.changes) planned.ok.2);
  err = tt;
}
write_by old new at bytes (Err e) fits planned = record {
  hands = hands_by 1 old new (Wrote at bytes ∷ []) (Missed at (length bytes) ∷ []) (Err e) fits planned;
  calls = tt;
  ok = tt;
  err = λ speaks. missed planned.err;
}
  where
    missed : Failure old new (Missed at (length bytes) ∷ [])
        → IsWithin (touched (plan_history old).now at (length bytes)) (plan_history old) (plan_history new)
    missed (inl before) = inl (ap plan_history before.1)
    missed (inr (inl named)) = inr (
      touched (plan_history old).now at (length bytes),
      λ image left. left,
      grown old new.changes (Missed at (length bytes)) (ap (λ (p : Plan). p.changes) named.2),
    )
    missed (inr (inr starved)) = inl (ap plan_history starved.1)

pub sync_by : {X E : Type 0} (old new : Plan) (result : Result X E) → old.faults < 2 ^ 64
    → IsPlanned old new (Synced ∷ []) [] old.is_usable result → IsSync plan_tells plan_history plan_health old new result
sync_by old new (Ok x) fits planned = record {
  hands = hands_by 1 old new (Synced ∷ []) [] (Ok x) fits planned;
  calls = calls_by old new (Synced ∷ []) [] old.is_usable (Ok x) planned;
  ok = λ speaks. grown old new.changes Synced (ap (λ (p : Plan). p.changes) planned.ok.2);
  err = tt;
}
sync_by old new (Err e) fits planned = record {
  hands = hands_by 1 old new (Synced ∷ []) [] (Err e) fits planned;
  calls = tt;
  ok = tt;
  err = λ speaks. inl (kept_by old new planned.err);
}

pub restart_by : {X E : Type 0} (old new : Plan) (choice : Choice) (result : Result X E) → old.faults < 2 ^ 64
    → IsPlanned old new (Restarted choice ∷ []) [] true result → IsRestart plan_tells plan_history plan_health old new choice result
restart_by old new choice (Ok x) fits planned = record {
  still = λ told. told;
  ok = λ told. record {
    image = image_of choice (plan_history old);
    left = image_left choice (plan_history old) (sound_of old.changes);
    named = λ exact. refl;
    is = grown old new.changes (Restarted choice) (ap (λ (p : Plan). p.changes) planned.ok.2);
  };
  err = tt;
  revived = subst (λ (p : Plan). Revived (plan_health old) (plan_health p)) (sym planned.ok.2) record {
    faults = refl;
    own = refl;
    passes = refl;
    fed = (planned.ok.0, planned.ok.0);
    usable = refl;
    exact = refl;
  };
  fell = tt;
  own = tt;
}
restart_by old new choice (Err e) fits planned = record {
  still = λ told. told;
  ok = tt;
  err = λ told. inl (kept_by old new planned.err);
  revived = tt;
  fell = fell_by 0 old new [] fits planned.err;
  own = (fell_by 0 old new [] fits planned.err).failed;
}
