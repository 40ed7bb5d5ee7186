use Rattle.std.proofs.Common.{◌≡◌, ◌<◌, ℕ, List, length, Ok, sym, ap, subst, ◌∙◌, arith}
use Rattle.std.proofs.lemmas.Result.{err_from_is_err_and}
use Rattle.mini_tx.specs.declared.entry.Entry.{Entry}
use Rattle.mini_tx.specs.EntryReading.{entry_of}
use Rattle.mem_rules.specs.declared.setup.Setup.{Setup}
use Rattle.mem_node.specs.Disk.{IsUnfit}
use Rattle.mem_rules.specs.Fit.{IsFit}
use Rattle.mem_rules.specs.Memory.{state_of}
use Rattle.mem_node.proofs.ReplayLemmas.{length_more, length_within, makes_next, is_unfit, replay_fault}
use Rattle.mem_node.proofs.replay.replay.Goals as goal

pub overflow_add-at-in-loop-bytes : goal.overflow_add-at-in-loop-bytes
overflow_add-at-in-loop-bytes c =
    let i = c.loop-bytes.bytes-index in
    let x : List ℕ = c.bytes-item.result in
    let below : i < length c.args.entries.now = omega arith in
    let there = c.loop-bytes.invariant.there in
    let within = length_within c.args.entries.now i x below c.bytes-item.is in
    omega arith

pub returns-in_err-take-clause-refused : goal.returns-in_err-take-clause-refused
returns-in_err-take-clause-refused c =
    let p = err_from_is_err_and c.from_residual.result c.from_residual.ensures.1 in
    let inv = c.loop-bytes.invariant in
    let x : List ℕ = c.bytes-item.result in
    let s = c.args.memory.now.setup in
    let old = c.loop-bytes.memory in
    let same : c.as_slice.result.now ≡ x = c.as_slice.ensures.value in
    let below : c.loop-bytes.bytes-index < length c.args.entries.now = omega arith in
    rw (p.1, p.2)
    (replay_fault c.in_err-take.field-0.0
    (λ place. (place ≡ c.loop-bytes.at) × ((e : Entry) → entry_of c.as_slice.result.now ≡ Ok e → IsFit old.setup (state_of old) e → ⊥))
    (IsUnfit s c.args.base (state_of c.args.memory.now).image c.args.entries.now)
    (λ place is. is_unfit c.args.entries.now c.loop-bytes.bytes-index x below c.bytes-item.is s c.args.base (state_of c.args.memory.now).image (state_of old) place inv.made (is.0 ∙ inv.there)
    (λ e read fit. is.1 e (ap entry_of same ∙ read) (subst (λ (t : Setup). IsFit t (state_of old) e) (sym inv.setup) fit)))
    c.in_err-take.ensures.refused)

pub loop-bytes-preserved : goal.loop-bytes-preserved
loop-bytes-preserved c =
    let inv = c.loop-bytes.invariant in
    let x : List ℕ = c.bytes-item.result in
    let s = c.args.memory.now.setup in
    let old = c.loop-bytes.memory in
    let same : c.as_slice.result.now ≡ x = c.as_slice.ensures.value in
    let below : c.loop-bytes.bytes-index < length c.args.entries.now = omega arith in
    let taken = c.in_ok-take.ensures.taken in
    let more = length_more c.args.entries.now c.loop-bytes.bytes-index x below c.bytes-item.is in
    record {
      setup = c.take.ensures.setup ∙ inv.setup;
      made = makes_next c.args.entries.now c.loop-bytes.bytes-index x below c.bytes-item.is s (state_of c.args.memory.now).image (state_of old) (state_of c.take.new.memory) inv.made
          (taken.0, ap entry_of (sym same) ∙ taken.1, subst (λ (t : Setup). IsFit t (state_of old) taken.0) inv.setup taken.2, taken.3);
      there = omega (arith, inv.there);
    }
