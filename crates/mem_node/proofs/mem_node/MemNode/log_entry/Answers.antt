use Rattle.std.proofs.Common.{◌≡◌, ◌≤◌, ◌+◌, ◌^◌, ℕ, false, List, [], ◌∷◌, ◌++◌, length, Some, Err, refl, sym, ap, subst, ◌∙◌}
use Rattle.std.proofs.lemmas.Result.{err_from_is_err_and}
use Rattle.gate_log.specs.declared.log_fault.LogFault.TheVariants as log
use Rattle.gate_log.specs.Log.{IsLog, end_of}
use Rattle.mini_tx.specs.EntryGrammar.{entry_spelling}
use Rattle.mem_rules.specs.Memory.{state_of}
use Rattle.mem_rules.specs.State.{State, after_entry}
use Rattle.mem_rules.proofs.ItemLemmas.{read_again, small_image}
use Rattle.mem_rules.proofs.ReactionLemmas.{entries_typed}
use Rattle.mem_node.proofs.DiskLemmas.{append_leaves, append_sound}
use Rattle.mem_node.proofs.NodeLemmas.{both_ways, same_fault, not_both, second, of_first, nothing, log_refused, log_took}
use Rattle.mem_node.proofs.mem_node.MemNode.log_entry.Goals as goal

pub returns-in_err-room-clause-handled : goal.returns-in_err-room-clause-handled
returns-in_err-room-clause-handled g c =
    let p = err_from_is_err_and c.from_residual.result c.from_residual.ensures.1 in
    rw (p.1, p.2) (nothing g.D.Disk.tells g.D.Disk.history g.D.Disk.health c.args.self.now _ (Some c.args.entry)
    record { setup = c.reserve.ensures.setup; state = c.reserve.ensures.state; log = refl; shut = refl })

pub returns-in_err-bytes-clause-handled : goal.returns-in_err-bytes-clause-handled
returns-in_err-bytes-clause-handled g c =
    let p = err_from_is_err_and c.from_residual-in_err-bytes.result c.from_residual-in_err-bytes.ensures.1 in
    rw (p.1, p.2) (nothing g.D.Disk.tells g.D.Disk.history g.D.Disk.health c.args.self.now _ (Some c.args.entry)
    record { setup = c.reserve.ensures.setup; state = c.reserve.ensures.state; log = refl; shut = refl })

pub returns-in-Err-clause-handled : goal.returns-in-Err-clause-handled
returns-in-Err-clause-handled g c =
    let own = c.args.self.now in
    let e = c.args.entry in
    let fault = c.in-Err.fault in
    let fine : own.log.failed ≡ false = own.ready c.requires.running in
    let small = small_image own.memory.setup own.memory.valid in
    let is : c.deref.result.now ≡ entry_spelling e = c.deref.ensures.value ∙ c.in_ok-bytes.ensures in
    rw c.from.ensures (log_refused g.D.Disk.tells g.D.Disk.history g.D.Disk.health own _ e fault c.reserve.ensures.setup c.reserve.ensures.state c.by-self.ensures
    c.requires.running c.in-Err.ensures.not_damaged
    (λ image bytes sound. append_leaves g.D.Disk.tells g.D.Disk.history g.D.Disk.health own.memory.setup own.log image bytes (state_of own.memory) small sound e
    (g.D.Disk.history c.append.new.self.disk) c.deref.result.now is (c.append.ensures.any_moment bytes sound.logged))
    (λ same. second (λ was. both_ways own.log.failed was fine) (c.append.ensures.failed (c.in-Err.is ∙ ap Err same)))
    (λ same. subst (λ (b : List ℕ). 2 ^ 32 ≤ end_of own.log + 5 + length b) is (c.append.ensures.full.0 (c.in-Err.is ∙ ap Err same)).1)
    (λ past. let full : c.append.result ≡ Err log.Full = c.append.ensures.full.1 (fine, subst (λ (b : List ℕ). 2 ^ 32 ≤ end_of own.log + 5 + length b) (sym is) past) in same_fault c.append.result fault log.Full c.in-Err.is full)
    (of_first (λ failed. same_fault (Err fault) fault log.Failed refl failed) c.in-Err.ensures.refused)
    c.append.ensures.still)

pub returns-clause-handled : goal.returns-clause-handled
returns-clause-handled g c =
    let own = c.args.self.now in
    let e = c.args.entry in
    let fine : own.log.failed ≡ false = own.ready c.requires.running in
    let small = small_image own.memory.setup own.memory.valid in
    let is : c.deref.result.now ≡ entry_spelling e = c.deref.ensures.value ∙ c.in_ok-bytes.ensures in
    let back = read_again e (entries_typed own.memory.setup (state_of own.memory) e own.memory.valid c.requires.fit c.names_are_typed.ensures) c.requires.spelled in
    let logged = λ (bytes : List (List ℕ)) (was : IsLog g.D.Disk.tells g.D.Disk.history g.D.Disk.health own.log bytes).
    subst (λ (b : List ℕ). IsLog g.D.Disk.tells g.D.Disk.history g.D.Disk.health c.append.new.self (bytes ++ b ∷ [])) is (c.in_default.ensures.appended bytes was) in
    log_took g.D.Disk.tells g.D.Disk.history g.D.Disk.health own _ e c.args.answer (c.settle.ensures.setup ∙ c.reserve.ensures.setup)
    (c.settle.ensures.state ∙ ap (λ (t : State). after_entry t e) c.reserve.ensures.state) c.requires.running
    (λ image bytes sound. append_sound g.D.Disk.tells g.D.Disk.history g.D.Disk.health own.memory.setup own.log image bytes (state_of own.memory) small sound e
    c.append.new.self c.deref.result.now is c.append.ensures.base (logged bytes sound.logged)
    (c.append.ensures.any_moment bytes sound.logged) back c.requires.fit)
    (λ image bytes sound. append_leaves g.D.Disk.tells g.D.Disk.history g.D.Disk.health own.memory.setup own.log image bytes (state_of own.memory) small sound e
    (g.D.Disk.history c.append.new.self.disk) c.deref.result.now is (c.append.ensures.any_moment bytes sound.logged))
    (λ past. let full : c.append.result ≡ Err log.Full = c.append.ensures.full.1 (fine, subst (λ (b : List ℕ). 2 ^ 32 ≤ end_of own.log + 5 + length b) (sym is) past) in not_both c.append.result _ log.Full c.in_default.is full)
    c.append.ensures.still c.in_default.ensures.passed c.in_default.ensures.live
