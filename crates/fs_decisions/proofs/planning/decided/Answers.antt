use Rattle.std.proofs.Common.{◌≡◌, ℕ, Bool, false, Option, length, sym, ap, subst, ◌∙◌}
use Rattle.fs_rules.specs.Handle.{number_in}
use Rattle.fs_rules.specs.File.{slots_of}
use Rattle.fs_rules.specs.Slots.{file_named, put_name}
use Rattle.fs_edits.specs.declared.plan.Plan.{Plan}
use Rattle.fs_decisions.specs.Limits.{grown_limits}
use Rattle.fs_decisions.specs.Renaming.{is_same_number, move_check, spent_by, CanRise, links_after, plan_of, MayMove}
use Rattle.fs_checks.proofs.FactsLemmas.{passed, failed}
use Rattle.std.proofs.lemmas.Result.{err_from_is_err_and}
use Rattle.fs_decisions.proofs.PlanLemmas.{rename_argument, rename_unnamed, to_limits, rename_same, rename_refused, rename_limited, may_move}
use Rattle.fs_decisions.proofs.planning.decided.Goals as goal

pub returns-in_err-dirs-clause-err : goal.returns-in_err-dirs-clause-err
returns-in_err-dirs-clause-err c =
    let p = err_from_is_err_and c.from_residual.result c.from_residual.ensures.1 in
    rw (p.1, p.2) (λ now start. rename_argument c.args.tree.now c.args.from.now c.args.from_name.now c.args.to.now c.args.to_name.now c.args.cred.now now start c.in_err-dirs.field-0.0.0 ((c.in_err-dirs.ensures {u = tt}).fails))

pub returns-in_err-files-clause-err : goal.returns-in_err-files-clause-err
returns-in_err-files-clause-err c =
    let dirs = c.in_ok-dirs.ensures {u = tt} in
    let p = err_from_is_err_and c.from_residual-in_err-files.result c.from_residual-in_err-files.ensures.1 in
    rw (p.1, p.2) (λ now start. rename_unnamed c.args.tree.now c.args.from.now c.args.from_name.now c.args.to.now c.args.to_name.now c.args.cred.now c.in_ok-dirs.dirs.0.now c.in_ok-dirs.dirs.1.now
    dirs.there.0 dirs.there.1 dirs.passes now start c.in_err-files.field-0.0.0 ((c.in_err-files.ensures {u = tt}).fails))

pub returns-then-is_at-clause-ok : goal.returns-then-is_at-clause-ok
returns-then-is_at-clause-ok c now start =
    let dirs = c.in_ok-dirs.ensures {u = tt} in
    let files = c.in_ok-files.ensures {u = tt} in
    rename_same c.args.tree.now c.args.from.now c.args.from_name.now c.args.to.now c.args.to_name.now c.args.cred.now c.in_ok-dirs.dirs.0.now c.in_ok-dirs.dirs.1.now
    dirs.there.0 dirs.there.1 dirs.passes c.requires c.in_ok-files.files.0 files.named.0 files.passes now start
    (ap (is_same_number c.in_ok-files.files.0) files.named.1 ∙ sym c.is_at.ensures ∙ c.if-is_at.true)

pub returns-in_err-check_move-clause-err : goal.returns-in_err-check_move-clause-err
returns-in_err-check_move-clause-err c =
    let t = c.args.tree.now in
    let dirs = c.in_ok-dirs.ensures {u = tt} in
    let files = c.in_ok-files.ensures {u = tt} in
    let s = c.in_ok-files.files.0 in
    let r = c.in_ok-files.files.1 in
    let other : is_same_number s (file_named (slots_of c.in_ok-dirs.dirs.1.now.content) c.args.to_name.now) ≡ false =
    ap (is_same_number s) files.named.1 ∙ sym c.is_at.ensures ∙ c.if-is_at.false in
    let decides : move_check t (number_in c.args.from.now.0) (number_in c.args.to.now.0) s (file_named (slots_of c.in_ok-dirs.dirs.1.now.content) c.args.to_name.now) ≡ move_check t c.number_at-a.result c.number_at-b.result s r =
    ap (λ (r : Option ℕ). move_check t (number_in c.args.from.now.0) (number_in c.args.to.now.0) s r) files.named.1
    ∙ ap (λ (k : ℕ). move_check t k (number_in c.args.to.now.0) s r) (sym c.number_at-a.ensures)
    ∙ ap (λ (k : ℕ). move_check t c.number_at-a.result k s r) (sym c.number_at-b.ensures) in
    let p = err_from_is_err_and c.from_residual-in_err-check_move.result c.from_residual-in_err-check_move.ensures.1 in
    rw (p.1, p.2) (λ now start. rename_refused t c.args.from.now c.args.from_name.now c.args.to.now c.args.to_name.now c.args.cred.now c.in_ok-dirs.dirs.0.now c.in_ok-dirs.dirs.1.now
    dirs.there.0 dirs.there.1 dirs.passes c.requires s files.named.0 files.passes other now start c.in_err-check_move.field-0.0.0
    (decides ∙ failed (move_check t c.number_at-a.result c.number_at-b.result s r) c.check_move.result c.in_err-check_move.field-0.0 c.check_move.ensures (c.in_err-check_move.was {u = tt})))

pub returns-in_err-check_growth-clause-err : goal.returns-in_err-check_growth-clause-err
returns-in_err-check_growth-clause-err c =
    let t = c.args.tree.now in
    let d = c.in_ok-dirs.dirs.1.now in
    let a = number_in c.args.from.now.0 in
    let b = number_in c.args.to.now.0 in
    let dirs = c.in_ok-dirs.ensures {u = tt} in
    let files = c.in_ok-files.ensures {u = tt} in
    let s = c.in_ok-files.files.0 in
    let r = c.in_ok-files.files.1 in
    let named : Option ℕ = file_named (slots_of d.content) c.args.to_name.now in
    let other : is_same_number s named ≡ false = ap (is_same_number s) files.named.1 ∙ sym c.is_at.ensures ∙ c.if-is_at.false in
    let decides : move_check t a b s named ≡ move_check t c.number_at-a.result c.number_at-b.result s r =
    ap (move_check t a b s) files.named.1 ∙ ap (λ (k : ℕ). move_check t k b s r) (sym c.number_at-a.ensures) ∙ ap (λ (k : ℕ). move_check t c.number_at-a.result k s r) (sym c.number_at-b.ensures) in
    let plan : plan_of t a b d s named ≡ c.plan-plan.result =
    ap (plan_of t a b d s) files.named.1 ∙ ap (λ (k : ℕ). plan_of t k b d s r) (sym c.number_at-a.ensures) ∙ ap (λ (k : ℕ). plan_of t c.number_at-a.result k d s r) (sym c.number_at-b.ensures)
    ∙ sym c.plan-plan.ensures in
    let few = to_limits t c.args.from.now c.args.from_name.now c.args.to.now c.args.to_name.now c.args.cred.now c.in_ok-dirs.dirs.0.now d dirs.there.0 dirs.there.1 dirs.passes c.requires s files.named.0 files.passes in
    let slots : ℕ = length (put_name (slots_of d.content) (record { name = c.args.to_name.now; file = s })) in
    let spent : spent_by t c.in_ok-dirs.dirs.0.now d s named ≡ c.is_any_spent-is_spent.result = ap (spent_by t c.in_ok-dirs.dirs.0.now d s) files.named.1 ∙ sym c.is_any_spent-is_spent.ensures.value in
    let grown : grown_limits t (spent_by t c.in_ok-dirs.dirs.0.now d s named) (links_after t a b s named d) d slots ≡ grown_limits t c.is_any_spent-is_spent.result c.plan-plan.result.links d c.slots_with-slots.result =
    ap (λ (k : Bool). grown_limits t k (links_after t a b s named d) d slots) spent
    ∙ ap (λ (p : Plan). grown_limits t c.is_any_spent-is_spent.result p.links d slots) plan
    ∙ ap (λ (k : ℕ). grown_limits t c.is_any_spent-is_spent.result c.plan-plan.result.links d k) (sym (c.slots_with-slots.ensures s few.1.0 few.1.1)) in
    let p = err_from_is_err_and c.from_residual-in_err-check_growth.result c.from_residual-in_err-check_growth.ensures.1 in
    rw (p.1, p.2) (λ now start. rename_limited t c.args.from.now c.args.from_name.now c.args.to.now c.args.to_name.now c.args.cred.now c.in_ok-dirs.dirs.0.now d dirs.there.0 dirs.there.1 dirs.passes c.requires s files.named.0 files.passes
    other (decides ∙ passed (move_check t c.number_at-a.result c.number_at-b.result s r) c.check_move.result c.in_ok-check_move.field-0 c.check_move.ensures (c.in_ok-check_move.was {u = tt})) now start c.in_err-check_growth.field-0.0.0
    (grown ∙ failed (grown_limits t c.is_any_spent-is_spent.result c.plan-plan.result.links d c.slots_with-slots.result) c.check_growth.result c.in_err-check_growth.field-0.0 c.check_growth.ensures.exact (c.in_err-check_growth.was {u = tt})))

pub returns-clause-ok : goal.returns-clause-ok
returns-clause-ok c now start =
    let t = c.args.tree.now in
    let d = c.in_ok-dirs.dirs.1.now in
    let a = number_in c.args.from.now.0 in
    let b = number_in c.args.to.now.0 in
    let dirs = c.in_ok-dirs.ensures {u = tt} in
    let files = c.in_ok-files.ensures {u = tt} in
    let s = c.in_ok-files.files.0 in
    let r = c.in_ok-files.files.1 in
    let named : Option ℕ = file_named (slots_of d.content) c.args.to_name.now in
    let other : is_same_number s named ≡ false = ap (is_same_number s) files.named.1 ∙ sym c.is_at.ensures ∙ c.if-is_at.false in
    let decides : move_check t a b s named ≡ move_check t c.number_at-a.result c.number_at-b.result s r =
    ap (move_check t a b s) files.named.1 ∙ ap (λ (k : ℕ). move_check t k b s r) (sym c.number_at-a.ensures) ∙ ap (λ (k : ℕ). move_check t c.number_at-a.result k s r) (sym c.number_at-b.ensures) in
    let plan : plan_of t a b d s named ≡ c.plan-plan.result =
    ap (plan_of t a b d s) files.named.1 ∙ ap (λ (k : ℕ). plan_of t k b d s r) (sym c.number_at-a.ensures) ∙ ap (λ (k : ℕ). plan_of t c.number_at-a.result k d s r) (sym c.number_at-b.ensures)
    ∙ sym c.plan-plan.ensures in
    let few = to_limits t c.args.from.now c.args.from_name.now c.args.to.now c.args.to_name.now c.args.cred.now c.in_ok-dirs.dirs.0.now d dirs.there.0 dirs.there.1 dirs.passes c.requires s files.named.0 files.passes in
    let slots : ℕ = length (put_name (slots_of d.content) (record { name = c.args.to_name.now; file = s })) in
    let spent : spent_by t c.in_ok-dirs.dirs.0.now d s named ≡ c.is_any_spent-is_spent.result = ap (spent_by t c.in_ok-dirs.dirs.0.now d s) files.named.1 ∙ sym c.is_any_spent-is_spent.ensures.value in
    let grown : grown_limits t (spent_by t c.in_ok-dirs.dirs.0.now d s named) (links_after t a b s named d) d slots ≡ grown_limits t c.is_any_spent-is_spent.result c.plan-plan.result.links d c.slots_with-slots.result =
    ap (λ (k : Bool). grown_limits t k (links_after t a b s named d) d slots) spent
    ∙ ap (λ (p : Plan). grown_limits t c.is_any_spent-is_spent.result p.links d slots) plan
    ∙ ap (λ (k : ℕ). grown_limits t c.is_any_spent-is_spent.result c.plan-plan.result.links d k) (sym (c.slots_with-slots.ensures s few.1.0 few.1.1)) in
    let rises : CanRise t c.in_ok-dirs.dirs.0.now d s r = c.is_any_spent-is_spent.ensures.rises ((c.in_ok-check_growth.ensures {u = tt}).rises) in
    subst (MayMove t c.args.from.now c.args.from_name.now c.args.to.now c.args.to_name.now c.args.cred.now now start) plan
    (may_move t c.args.from.now c.args.from_name.now c.args.to.now c.args.to_name.now c.args.cred.now c.in_ok-dirs.dirs.0.now d dirs.there.0 dirs.there.1 dirs.passes c.requires s files.named.0 files.passes
    other (decides ∙ passed (move_check t c.number_at-a.result c.number_at-b.result s r) c.check_move.result c.in_ok-check_move.field-0 c.check_move.ensures (c.in_ok-check_move.was {u = tt})) now start (grown ∙ passed (grown_limits t c.is_any_spent-is_spent.result c.plan-plan.result.links d c.slots_with-slots.result) c.check_growth.result c.in_ok-check_growth.field-0 c.check_growth.ensures.exact (c.in_ok-check_growth.was {u = tt})) (subst (CanRise t c.in_ok-dirs.dirs.0.now d s) (sym files.named.1) rises))
