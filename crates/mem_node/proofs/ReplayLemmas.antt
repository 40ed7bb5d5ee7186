-- A log that is replayed entry by entry.
use Rattle.std.proofs.Common.{◌≡◌, ◌<◌, ◌≤◌, ◌+◌, ℕ, List, [], ◌∷◌, ◌++◌, length, take, drop, get_or, Ok, refl, sym, ap, subst, ◌∙◌, append_assoc, arith, length-append}
use Rattle.std.proofs.lemmas.List.{take_more, take-append-drop}
use Rattle.disk_model.specs.LogBytes.{entry_bytes, log_bytes}
use Rattle.gate_log.proofs.LogLemmas.{length-log_bytes-more}
use Rattle.mini_tx.specs.declared.entry.Entry.{Entry}
use Rattle.mini_tx.specs.EntryReading.{entry_of}
use Rattle.mem_rules.specs.declared.setup.Setup.{Setup}
use Rattle.mem_rules.specs.State.{State, after_entry}
use Rattle.mem_rules.specs.Fit.{IsFit}
use Rattle.mem_node.specs.declared.node_fault.NodeFault.{NodeFault}
use Rattle.mem_node.specs.declared.node_fault.NodeFault.TheVariants.{Down, Full, Other, Damaged, NoMemory}
use Rattle.mem_node.specs.Disk.{Makes, IsUnfit, IsReplayFault}
use Rattle.mem_node.proofs.DiskLemmas.{makes_more}

log_bytes_both : (xs ys : List (List ℕ)) → log_bytes (xs ++ ys) ≡ log_bytes xs ++ log_bytes ys
log_bytes_both [] ys = refl
log_bytes_both (x ∷ xs) ys = ap (λ (b : List ℕ). entry_bytes x ++ b) (log_bytes_both xs ys) ∙ sym (append_assoc (entry_bytes x) (log_bytes xs) (log_bytes ys))

module _ (entries : List (List ℕ)) (i : ℕ) (x : List ℕ) (below : i < length entries) (is : x ≡ get_or entries i x) where
  more : take (i + 1) entries ≡ take i entries ++ x ∷ []
  more = take_more entries i x below ∙ ap (λ (y : List ℕ). take i entries ++ y ∷ []) (sym is)

  pub split : entries ≡ take i entries ++ x ∷ drop (i + 1) entries
  split =
      sym (take-append-drop (i + 1) entries)
      ∙ ap (λ (front : List (List ℕ)). front ++ drop (i + 1) entries) more
      ∙ append_assoc (take i entries) (x ∷ []) (drop (i + 1) entries)

  pub length_more : length (log_bytes (take (i + 1) entries)) ≡ length (log_bytes (take i entries)) + 5 + length x
  length_more = ap (λ (xs : List (List ℕ)). length (log_bytes xs)) more ∙ length-log_bytes-more (take i entries) x

  pub length_within : length (log_bytes (take i entries)) + 5 + length x ≤ length (log_bytes entries)
  length_within =
      let whole : length (log_bytes entries) ≡ length (log_bytes (take (i + 1) entries) ++ log_bytes (drop (i + 1) entries)) =
      ap (λ (xs : List (List ℕ)). length (log_bytes xs)) (sym (take-append-drop (i + 1) entries))
      ∙ ap (length {A = ℕ}) (log_bytes_both (take (i + 1) entries) (drop (i + 1) entries)) in
      omega (arith, whole, length_more, length-append (log_bytes (take (i + 1) entries)) (log_bytes (drop (i + 1) entries)))

  pub makes_next : (s : Setup) (image : List ℕ) (state now : State) → Makes s image (take i entries) state
      → ((e : Entry) × (entry_of x ≡ Ok e) × IsFit s state e × (now ≡ after_entry state e)) → Makes s image (take (i + 1) entries) now
  makes_next s image state now makes taken =
      subst (λ (xs : List (List ℕ)). Makes s image xs now) (sym more)
      (subst (λ (t : State). Makes s image (take i entries ++ x ∷ []) t) (sym taken.3) (makes_more s image (take i entries) state x taken.0 makes taken.1 taken.2))

  pub is_unfit : (s : Setup) (base : ℕ) (image : List ℕ) (state : State) (at : ℕ) → Makes s image (take i entries) state → at ≡ base + length (log_bytes (take i entries))
      → ((e : Entry) → entry_of x ≡ Ok e → IsFit s state e → ⊥) → IsUnfit s base image entries at
  is_unfit s base image state at makes there unfit = record {
    front = take i entries;
    bad = x;
    rest = drop (i + 1) entries;
    split = split;
    there = there;
    state = state;
    before = makes;
    unfit = unfit;
  }

-- the same refusal for another reason
pub replay_fault : (fault : NodeFault) (P Q : ℕ → Type 0) → ((at : ℕ) → P at → Q at) → IsReplayFault fault P → IsReplayFault fault Q
replay_fault Down P Q weaker is = is
replay_fault Full P Q weaker is = is
replay_fault Other P Q weaker is = is
replay_fault (Damaged at) P Q weaker is = weaker at is
replay_fault NoMemory P Q weaker is = tt
