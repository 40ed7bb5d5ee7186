-- Moments of writes beside the mark.
use Rattle.std.proofs.Common.{◌≡◌, ◌≢◌, ◌⊎◌, ◌≤◌, ◌<◌, ◌+◌, ℕ, List, length, Result, Ok, Err, refl, sym, ap, ◌∙◌, arith, inl, inr}
use Rattle.std.specs.Prelude.{◌||◌, OnOk, OnErr}
use Rattle.disk_model.specs.Crash.{Content, Snapshot, History, MayLeave, LeavesOnly, IsWithin, advance, is_pending, written, touched, settled}
use Rattle.disk_model.proofs.ContentLemmas.{put_out, covered_not}
use Rattle.disk_model.proofs.MomentLemmas.{one_moment, failed_moment}
use Rattle.node_disk.specs.Lay.{IsUnmarked, IsBeside}

unmarked_leaves : (snapshot : Snapshot) → IsUnmarked snapshot → (image : Content) → MayLeave snapshot image → image 128 ≢ 1
unmarked_leaves snapshot unmarked image left is =
    let zero : image 128 ≡ 0 = left.same 128 unmarked.clear ∙ unmarked.zero in
    let both : 0 ≡ 1 = sym zero ∙ is in
    absurd (omega arith)

out_of : (at n : ℕ) → IsBeside at n → (128 < at) ⊎ (at + n ≤ 128)
out_of at n (inl low) = inr low
out_of at n (inr high) = inl (omega arith)

touched_unmarked : (snapshot : Snapshot) (at n : ℕ) → IsBeside at n → IsUnmarked snapshot → IsUnmarked (touched snapshot at n)
touched_unmarked snapshot at n beside unmarked = record {
  clear = ap (λ b. b || is_pending snapshot.pending 128) (covered_not at n 128 (out_of at n beside)) ∙ unmarked.clear;
  zero = unmarked.zero;
}

pub written_unmarked : (snapshot : Snapshot) (at : ℕ) (bytes : List ℕ) → IsBeside at (length bytes) → IsUnmarked snapshot → IsUnmarked (written snapshot at bytes)
written_unmarked snapshot at bytes beside unmarked = record {
  clear = ap (λ b. b || is_pending snapshot.pending 128) (covered_not at (length bytes) 128 (out_of at (length bytes) beside)) ∙ unmarked.clear;
  zero = put_out snapshot.content at bytes 128 (out_of at (length bytes) beside) ∙ unmarked.zero;
}

pub write_moments : {X E : Type 0} (Told : Type 0) (result : Result X E) (before now : History) (at : ℕ) (bytes : List ℕ) → Told → IsBeside at (length bytes) → IsUnmarked before.now
    → OnOk result (Told → now ≡ advance before (written before.now at bytes)) → OnErr result (Told → IsWithin (touched before.now at (length bytes)) before now)
    → LeavesOnly before now (λ image. image 128 ≢ 1)
write_moments Told (Ok x) before now at bytes told beside unmarked passed failed =
    one_moment (λ (image : Content). image 128 ≢ 1) before now (written before.now at bytes) (passed told) (unmarked_leaves before.now unmarked)
    (unmarked_leaves (written before.now at bytes) (written_unmarked before.now at bytes beside unmarked))
write_moments Told (Err e) before now at bytes told beside unmarked passed failed =
    failed_moment (λ (image : Content). image 128 ≢ 1) (touched before.now at (length bytes)) before now (failed told) (unmarked_leaves before.now unmarked)
    (unmarked_leaves (touched before.now at (length bytes)) (touched_unmarked before.now at (length bytes) beside unmarked))

pub sync_moments : {X E : Type 0} (Told : Type 0) (result : Result X E) (before now : History) → Told → IsUnmarked before.now
    → OnOk result (Told → now ≡ advance before (settled before.now.content)) → OnErr result (Told → IsWithin before.now before now)
    → LeavesOnly before now (λ image. image 128 ≢ 1)
sync_moments Told (Ok x) before now told unmarked passed failed =
    one_moment (λ (image : Content). image 128 ≢ 1) before now (settled before.now.content) (passed told) (unmarked_leaves before.now unmarked)
    (unmarked_leaves (settled before.now.content) record { clear = refl; zero = unmarked.zero })
sync_moments Told (Err e) before now told unmarked passed failed =
    failed_moment (λ (image : Content). image 128 ≢ 1) before.now before now (failed told) (unmarked_leaves before.now unmarked) (unmarked_leaves before.now unmarked)
