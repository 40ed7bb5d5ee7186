use Rattle.std.proofs.Common.{◌≡◌, ◌≤◌, ◌*◌, ◌^◌, ◌<◌, ℕ, Some, sym, ap, subst, ◌∙◌, arith}
use Rattle.std.specs.FinMap.{get}
use Rattle.nfs_proto.specs.declared.call.Call.{Call}
use Rattle.nfs_proto.specs.declared.call.Call.TheVariants.{Create}
use Rattle.fs_rules.specs.File.{used}
use Rattle.fs_rules.specs.Handle.{number_in}
use Rattle.fs_rules.specs.Statuses.{acces}
use Rattle.fs_rules.specs.Respond.{Responded}
use Rattle.fs_tree.specs.declared.new_file.NewFile.{NewFile}
use Rattle.fs_tree.specs.Meets.{Ends}
use Rattle.fs_tree.specs.NewFiles.{Makes, regular_of}
use Rattle.fs_decisions.specs.Steps.{named}
use Rattle.fs_decisions.proofs.RowLemmas.{named_there}
use Rattle.fs_tree.proofs.NewNameLemmas.{row_directory, named_lives}
use Rattle.fs_rules.specs.Making.{new_checks}
use Rattle.fs_rules.specs.Statuses.{first_failure}
use Rattle.fs_checks.proofs.FactsLemmas.{passed, failed}
use Rattle.fs_tree.proofs.CreateLemmas.{create_stopped, create_dots, create_refused, create_existing, create_makes, regular_small}
use Rattle.std.proofs.lemmas.Result.{err_from_is_err_and}
use Rattle.fs_tree.proofs.create.create.Goals as goal

pub returns-in_err-parent-clause-meets : goal.returns-in_err-parent-clause-meets
returns-in_err-parent-clause-meets c start pick =
    let p = err_from_is_err_and c.from_residual.result c.from_residual.ensures.1 in
    rw (p.1, p.2) (create_stopped c.args.tree.now c.args.dir.now c.args.name.now c.args.set.now c.args.cred.now c.args.now start c.in_err-parent.field-0.0.0 ((c.in_err-parent.ensures {u = tt}).fails))

pub returns-then-is_dots-clause-meets : goal.returns-then-is_dots-clause-meets
returns-then-is_dots-clause-meets c start pick =
    create_dots c.args.tree.now c.args.dir.now c.args.name.now c.args.set.now c.args.cred.now c.args.now start c.in_ok-parent.parent.now ((c.in_ok-parent.ensures {u = tt}).there) ((c.in_ok-parent.ensures {u = tt}).passes)
    (sym c.is_dots.ensures ∙ c.if-is_dots.true)

pub returns-in-Some-clause-meets : goal.returns-in-Some-clause-meets
returns-in-Some-clause-meets c start pick =
    let t = c.args.tree.now in
    let d = c.in_ok-parent.parent.now in
    let there = (c.in_ok-parent.ensures {u = tt}).there in
    let row = (c.in_ok-parent.ensures {u = tt}).passes in
    let is = row_directory t c.args.cred.now (named c.args.dir.now.0 c.args.name.now acces) d there row in
    let name = sym c.number_named.ensures ∙ c.in-Some.is in
    let f = named_lives t (number_in c.args.dir.now.0) c.in-Some.there d c.args.name.now c.requires (named_there t c.args.dir.now.0 d there) is name in
    subst (λ (r : Responded). Ends t r c.set_size.new.tree c.set_size.result)
    (sym (create_existing t c.args.dir.now c.args.name.now c.args.set.now c.args.cred.now c.args.now start d there row (sym c.is_dots.ensures ∙ c.if-is_dots.false)
    c.in-Some.there f.0 name f.1 is))
    (c.set_size.ensures.meets start)

pub returns-in_err-check_new-clause-meets : goal.returns-in_err-check_new-clause-meets
returns-in_err-check_new-clause-meets c start pick =
    let p = err_from_is_err_and c.from_residual-in_err-check_new.result c.from_residual-in_err-check_new.ensures.1 in
    rw (p.1, p.2) (create_refused c.args.tree.now c.args.dir.now c.args.name.now c.args.set.now c.args.cred.now c.args.now start c.in_ok-parent.parent.now ((c.in_ok-parent.ensures {u = tt}).there) ((c.in_ok-parent.ensures {u = tt}).passes)
    (sym c.is_dots.ensures ∙ c.if-is_dots.false) (sym c.number_named.ensures ∙ c.in_default.is) c.in_err-check_new.field-0.0.0
    (failed (first_failure (new_checks c.args.set.now)) c.check_new.result c.in_err-check_new.field-0.0 c.check_new.ensures (c.in_err-check_new.was {u = tt})))

pub make_new-requires-clause-there : goal.make_new-requires-clause-there
make_new-requires-clause-there c =
    let t = c.args.tree.now in
    let h = c.args.dir.now in
    let d = c.in_ok-parent.parent.now in
    let there = (c.in_ok-parent.ensures {u = tt}).there in
    let live : get t.files c.number_at-number.result ≡ Some d = ap (get t.files) c.number_at-number.ensures ∙ named_there t h.0 d there in
    (d, live, row_directory t c.args.cred.now (named h.0 c.args.name.now acces) d there ((c.in_ok-parent.ensures {u = tt}).passes))

pub make_new-requires-clause-gained : goal.make_new-requires-clause-gained
make_new-requires-clause-gained c = subst (λ (x : NewFile). x.gained ≤ 1) (sym c.new_regular-new.ensures) (omega arith)

pub make_new-requires-clause-small : goal.make_new-requires-clause-small
make_new-requires-clause-small c told = subst (λ (x : NewFile). 8 * used x.content < 2 ^ 32) (sym c.new_regular-new.ensures) (regular_small c.args.set.now)

pub returns-clause-meets : goal.returns-clause-meets
returns-clause-meets c start pick =
    let t = c.args.tree.now in
    let h = c.args.dir.now in
    let d = c.in_ok-parent.parent.now in
    let there = (c.in_ok-parent.ensures {u = tt}).there in
    let live : get t.files c.number_at-number.result ≡ Some d = ap (get t.files) c.number_at-number.ensures ∙ named_there t h.0 d there in
    let call : Call = Create h c.args.name.now c.args.set.now in
    let makes : Makes t call c.args.cred.now c.args.now c.number_at-number.result d c.args.name.now c.new_regular-new.result =
    subst (λ (x : NewFile). Makes t call c.args.cred.now c.args.now c.number_at-number.result d c.args.name.now x) (sym c.new_regular-new.ensures)
    (subst (λ (n : ℕ). Makes t call c.args.cred.now c.args.now n d c.args.name.now (regular_of c.args.set.now)) (sym c.number_at-number.ensures)
    (create_makes t h c.args.name.now c.args.set.now c.args.cred.now c.args.now d there ((c.in_ok-parent.ensures {u = tt}).passes) (sym c.is_dots.ensures ∙ c.if-is_dots.false)
    (sym c.number_named.ensures ∙ c.in_default.is) (passed (first_failure (new_checks c.args.set.now)) c.check_new.result c.in_ok-check_new.field-0 c.check_new.ensures (c.in_ok-check_new.was {u = tt})))) in
    c.make_new.ensures.meets call d live makes start pick
