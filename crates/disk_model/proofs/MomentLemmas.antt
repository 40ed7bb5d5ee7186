-- How a history goes on, call by call.
use Rattle.std.proofs.Common.{◌≡◌, ◌⊎◌, ℕ, ◌+◌, ◌-◌, ◌<◌, ◌≤◌, Bool, true, false, cond, List, [], ◌∷◌, ◌++◌, length, Result, Ok, Err, refl, sym, ap, subst, ◌∙◌, append_assoc, inl, inr}
use Rattle.std.specs.Prelude.{◌||◌, slice_index, OnOk, OnErr}
use Rattle.disk_model.specs.Crash.{Content, Snapshot, MayLeave, History, moments, advance, covers, is_pending, put, written, touched, settled, LeavesNoMore, IsWithin, AllLeave, LeavesOnly}
use Rattle.disk_model.proofs.ContentLemmas.{covered_not}

all_join : (P : Content → Type 0) (later earlier : List Snapshot) → AllLeave P later → AllLeave P earlier → AllLeave P (later ++ earlier)
all_join P [] earlier late early = early
all_join P (snapshot ∷ later) earlier late early = (late.0, all_join P later earlier late.1 early)

all_weaker : (P Q : Content → Type 0) (snapshots : List Snapshot) → ((image : Content) → P image → Q image) → AllLeave P snapshots → AllLeave Q snapshots
all_weaker P Q [] weaker all = tt
all_weaker P Q (snapshot ∷ snapshots) weaker all = (λ image left. weaker image (all.0 image left), all_weaker P Q snapshots weaker all.1)

-- before the first call
pub no_moment : (P : Content → Type 0) (before : History) → ((image : Content) → MayLeave before.now image → P image) → LeavesOnly before before P
no_moment P before here = record { since = []; went_on = refl; at_first = here; each = tt }

-- the same where the history is as before
pub same_moments : (P : Content → Type 0) (before now : History) → now ≡ before → ((image : Content) → MayLeave before.now image → P image) → LeavesOnly before now P
same_moments P before now same here = subst (λ (h : History). LeavesOnly before h P) (sym same) (no_moment P before here)

-- one moment more
pub one_moment : (P : Content → Type 0) (before now : History) (snapshot : Snapshot) → now ≡ advance before snapshot → ((image : Content) → MayLeave before.now image → P image)
    → ((image : Content) → MayLeave snapshot image → P image) → LeavesOnly before now P
one_moment P before now snapshot went here there = subst (λ (h : History). LeavesOnly before h P) (sym went) record {
  since = snapshot ∷ [];
  went_on = refl;
  at_first = here;
  each = (there, tt);
}

-- a call that failed
pub failed_moment : (P : Content → Type 0) (bound : Snapshot) (before now : History) → IsWithin bound before now → ((image : Content) → MayLeave before.now image → P image)
    → ((image : Content) → MayLeave bound image → P image) → LeavesOnly before now P
failed_moment P bound before now (inl same) here there = same_moments P before now same here
failed_moment P bound before now (inr went) here there = one_moment P before now went.0 went.2 here (λ image left. there image (went.1 image left))

-- two runs of calls, one behind the other
pub join_moments : (P : Content → Type 0) (first middle last : History) → LeavesOnly first middle P → LeavesOnly middle last P → LeavesOnly first last P
join_moments P first middle last early late = record {
  since = late.since ++ early.since;
  went_on = late.went_on ∙ ap (λ (h : List Snapshot). late.since ++ h) early.went_on ∙ sym (append_assoc late.since early.since (moments first));
  at_first = early.at_first;
  each = all_join P late.since early.since late.each early.each;
}

-- what else they leave
pub weaker_moments : (P Q : Content → Type 0) (before now : History) → ((image : Content) → P image → Q image) → LeavesOnly before now P → LeavesOnly before now Q
weaker_moments P Q before now weaker leaves = record {
  since = leaves.since;
  went_on = leaves.went_on;
  at_first = λ image left. weaker image (leaves.at_first image left);
  each = all_weaker P Q leaves.since weaker leaves.each;
}

-- what a crash leaves at the end
pub left_last : (P : Content → Type 0) (before now : History) → LeavesOnly before now P → (image : Content) → MayLeave now.now image → P image
left_last P before now leaves = last_of leaves.since leaves.went_on leaves.each
  where
    last_of : (since : List Snapshot) → moments now ≡ since ++ moments before → AllLeave P since → (image : Content) → MayLeave now.now image → P image
    last_of [] went each image left = leaves.at_first image (subst (λ (s : Snapshot). MayLeave s image) (first_of went) left)
      where
        first_of : moments now ≡ moments before → now.now ≡ before.now
        first_of same = cc
    last_of (snapshot ∷ since) went each image left = each.0 image (subst (λ (s : Snapshot). MayLeave s image) (first_of went) left)
      where
        first_of : moments now ≡ snapshot ∷ (since ++ moments before) → now.now ≡ snapshot
        first_of same = cc

-- and what the disk holds there
pub holds_last : (P : Content → Type 0) (before now : History) → LeavesOnly before now P → P now.now.content
holds_last P before now leaves = left_last P before now leaves now.now.content record { same = λ place clear. refl }

-- outside one range, where nothing else is pending
pub outside_one : (at n place : ℕ) → (place < at) ⊎ (at + n ≤ place) → is_pending ((at, n) ∷ []) place ≡ false
outside_one at n place out = ap (λ b. b || false) (covered_not at n place out)

or_second : (a b : Bool) → a || b ≡ false → b ≡ false
or_second true b none = absurd cc
or_second false b none = none

put_uncovered : (content : Content) (at : ℕ) (bytes : List ℕ) (place : ℕ) → covers at (length bytes) place ≡ false → put content at bytes place ≡ content place
put_uncovered content at bytes place out = ap (λ b. cond b (slice_index bytes (place - at)) (content place)) out

or_first : (a b : Bool) → a || b ≡ false → a ≡ false
or_first true b none = absurd cc
or_first false b none = refl

-- what a range more may leave
pub touched_more : (snapshot : Snapshot) (at n : ℕ) → LeavesNoMore snapshot (touched snapshot at n)
touched_more snapshot at n image left = record { same = λ place out. left.same place (or_second (covers at n place) (is_pending snapshot.pending place) out) }

-- what a write leaves is no more than that
pub written_bound : (snapshot : Snapshot) (at : ℕ) (bytes : List ℕ) → LeavesNoMore (written snapshot at bytes) (touched snapshot at (length bytes))
written_bound snapshot at bytes image left = record {
  same = λ place out. left.same place out ∙ put_uncovered snapshot.content at bytes place (or_first (covers at (length bytes) place) (is_pending snapshot.pending place) out);
}

-- and so is what was written once it is safe
pub settled_bound : (snapshot : Snapshot) (at : ℕ) (bytes : List ℕ) → LeavesNoMore (settled (put snapshot.content at bytes)) (touched snapshot at (length bytes))
settled_bound snapshot at bytes image left = record {
  same = λ place out. left.same place refl ∙ put_uncovered snapshot.content at bytes place (or_first (covers at (length bytes) place) (is_pending snapshot.pending place) out);
}

-- a write that failed
pub write_failed : (before now : History) (at n : ℕ) → IsWithin (touched before.now at n) before now → LeavesOnly before now (MayLeave (touched before.now at n))
write_failed before now at n within = failed_moment (MayLeave (touched before.now at n)) (touched before.now at n) before now within (touched_more before.now at n) (λ image left. left)

-- a write that succeeded
write_passed : (before : History) (at : ℕ) (bytes : List ℕ) → LeavesOnly before (advance before (written before.now at bytes)) (MayLeave (touched before.now at (length bytes)))
write_passed before at bytes = one_moment (MayLeave (touched before.now at (length bytes))) before (advance before (written before.now at bytes)) (written before.now at bytes) refl
    (touched_more before.now at (length bytes)) (written_bound before.now at bytes)

-- a sync behind it, whatever it answers
sync_behind : {X E : Type 0} (result : Result X E) (before last : History) (at : ℕ) (bytes : List ℕ) (middle : History) → middle ≡ advance before (written before.now at bytes)
    → OnOk result (last ≡ advance middle (settled middle.now.content)) → OnErr result (IsWithin middle.now middle last)
    → LeavesOnly middle last (MayLeave (touched before.now at (length bytes)))
sync_behind (Ok x) before last at bytes middle wrote passed failed =
    let now-is : middle.now ≡ written before.now at bytes = ap (λ (h : History). h.now) wrote in
    one_moment (MayLeave (touched before.now at (length bytes))) middle last (settled middle.now.content) passed
    (λ image left. written_bound before.now at bytes image (subst (λ (s : Snapshot). MayLeave s image) now-is left))
    (λ image left. settled_bound before.now at bytes image (subst (λ (s : Snapshot). MayLeave (settled s.content) image) now-is left))
sync_behind (Err e) before last at bytes middle wrote passed failed =
    let now-is : middle.now ≡ written before.now at bytes = ap (λ (h : History). h.now) wrote in
    failed_moment (MayLeave (touched before.now at (length bytes))) middle.now middle last failed
    (λ image left. written_bound before.now at bytes image (subst (λ (s : Snapshot). MayLeave s image) now-is left))
    (λ image left. written_bound before.now at bytes image (subst (λ (s : Snapshot). MayLeave s image) now-is left))

-- a write and a sync
pub write_and_sync : {X E : Type 0} (result : Result X E) (before middle last : History) (at : ℕ) (bytes : List ℕ) → middle ≡ advance before (written before.now at bytes)
    → OnOk result (last ≡ advance middle (settled middle.now.content)) → OnErr result (IsWithin middle.now middle last)
    → LeavesOnly before last (MayLeave (touched before.now at (length bytes)))
write_and_sync result before middle last at bytes wrote passed failed =
    join_moments (MayLeave (touched before.now at (length bytes))) before middle last
    (subst (λ (h : History). LeavesOnly before h (MayLeave (touched before.now at (length bytes)))) (sym wrote) (write_passed before at bytes))
    (sync_behind result before last at bytes middle wrote passed failed)
