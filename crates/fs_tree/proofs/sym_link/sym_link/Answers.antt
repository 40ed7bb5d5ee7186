use Rattle.std.proofs.Common.{◌≡◌, ◌≤◌, ◌==◌, ℕ, true, false, length, Some, sym, ap, subst, ◌∙◌, arith, rules}
use Rattle.std.specs.FinMap.{get}
use Rattle.nfs_proto.specs.declared.call.Call.{Call}
use Rattle.nfs_proto.specs.declared.call.Call.TheVariants.{SymLink}
use Rattle.fs_rules.specs.Statuses.{acces}
use Rattle.fs_tree.specs.declared.new_file.NewFile.{NewFile}
use Rattle.fs_tree.specs.NewFiles.{Makes, link_of}
use Rattle.fs_decisions.specs.Steps.{named}
use Rattle.fs_decisions.proofs.RowLemmas.{named_there}
use Rattle.fs_tree.proofs.NewNameLemmas.{row_directory}
use Rattle.fs_tree.proofs.SymLinkLemmas.{sym_link_stopped, sym_link_taken, sym_link_empty, sym_link_makes}
use Rattle.std.proofs.lemmas.Result.{err_from_is_err_and}
use Rattle.fs_tree.proofs.sym_link.sym_link.Goals as goal

pub returns-in_err-parent-clause-meets : goal.returns-in_err-parent-clause-meets
returns-in_err-parent-clause-meets c set start pick =
    let p = err_from_is_err_and c.from_residual.result c.from_residual.ensures.1 in
    rw (p.1, p.2) (sym_link_stopped c.args.tree.now c.args.dir.now c.args.name.now c.args.path.now set c.args.cred.now c.args.now start c.in_err-parent.field-0.0.0 ((c.in_err-parent.ensures {u = tt}).fails))

pub returns-then-is_taken-clause-meets : goal.returns-then-is_taken-clause-meets
returns-then-is_taken-clause-meets c set start pick =
    sym_link_taken c.args.tree.now c.args.dir.now c.args.name.now c.args.path.now set c.args.cred.now c.args.now start c.in_ok-parent.parent.now ((c.in_ok-parent.ensures {u = tt}).there) ((c.in_ok-parent.ensures {u = tt}).passes)
    (sym c.is_taken.ensures ∙ c.if-is_taken.true)

pub returns-then-is_empty-clause-meets : goal.returns-then-is_empty-clause-meets
returns-then-is_empty-clause-meets c set start pick =
    let none : (length c.args.path.now == 0) ≡ true = search rules in
    sym_link_empty c.args.tree.now c.args.dir.now c.args.name.now c.args.path.now set c.args.cred.now c.args.now start c.in_ok-parent.parent.now ((c.in_ok-parent.ensures {u = tt}).there) ((c.in_ok-parent.ensures {u = tt}).passes)
    (sym c.is_taken.ensures ∙ c.if-is_taken.false) none

pub make_new-requires-clause-there : goal.make_new-requires-clause-there
make_new-requires-clause-there c =
    let t = c.args.tree.now in
    let h = c.args.dir.now in
    let d = c.in_ok-parent.parent.now in
    let there = (c.in_ok-parent.ensures {u = tt}).there in
    let live : get t.files c.number_at-number.result ≡ Some d = ap (get t.files) c.number_at-number.ensures ∙ named_there t h.0 d there in
    (d, live, row_directory t c.args.cred.now (named h.0 c.args.name.now acces) d there ((c.in_ok-parent.ensures {u = tt}).passes))

pub make_new-requires-clause-gained : goal.make_new-requires-clause-gained
make_new-requires-clause-gained c = subst (λ (x : NewFile). x.gained ≤ 1) (sym (c.in_ok-new.ensures {u = tt})) (omega arith)

pub make_new-requires-clause-small : goal.make_new-requires-clause-small
make_new-requires-clause-small c told = absurd (let all : false ≡ true = sym (ap (λ (x : NewFile). x.is_told) (c.in_ok-new.ensures {u = tt})) ∙ told in cc)

pub returns-clause-meets : goal.returns-clause-meets
returns-clause-meets c set start pick =
    let t = c.args.tree.now in
    let h = c.args.dir.now in
    let d = c.in_ok-parent.parent.now in
    let there = (c.in_ok-parent.ensures {u = tt}).there in
    let live : get t.files c.number_at-number.result ≡ Some d = ap (get t.files) c.number_at-number.ensures ∙ named_there t h.0 d there in
    let call : Call = SymLink h c.args.name.now c.args.path.now set in
    let some : (length c.args.path.now == 0) ≡ false = search rules in
    let makes : Makes t call c.args.cred.now c.args.now c.number_at-number.result d c.args.name.now c.in_ok-new.new =
    subst (λ (x : NewFile). Makes t call c.args.cred.now c.args.now c.number_at-number.result d c.args.name.now x) (sym (c.in_ok-new.ensures {u = tt}))
    (subst (λ (n : ℕ). Makes t call c.args.cred.now c.args.now n d c.args.name.now (link_of c.args.path.now)) (sym c.number_at-number.ensures)
    (sym_link_makes t h c.args.name.now c.args.path.now set c.args.cred.now c.args.now d there ((c.in_ok-parent.ensures {u = tt}).passes) (sym c.is_taken.ensures ∙ c.if-is_taken.false) some)) in
    c.make_new.ensures.meets call d live makes start pick
