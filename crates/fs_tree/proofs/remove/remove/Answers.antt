use Rattle.std.proofs.Common.{◌≡◌, ℕ, refl, sym, ap, subst, ◌∙◌}
use Rattle.fs_rules.specs.Handle.{number_in}
use Rattle.fs_rules.specs.File.{is_directory}
use Rattle.fs_rules.specs.Edits.{edited}
use Rattle.fs_rules.specs.Names.{without_name, unlinked, one_where}
use Rattle.fs_edits.specs.Taking.{CanTake, lost, taken_edits}
use Rattle.fs_decisions.specs.Removing.{removal_of}
use Rattle.fs_tree.proofs.TakenLemmas.{meets_two, number_lost, made_lost, removal_answers}
use Rattle.std.proofs.lemmas.Result.{err_from_is_err_and}
use Rattle.fs_tree.proofs.remove.remove.Goals as goal

pub take_entry-requires : goal.take_entry-requires
take_entry-requires c =
    let r = (c.in_ok-file.ensures {u = tt}).ok c.args.now 0 in
    (r.d, r.f, subst (λ (n : ℕ). CanTake c.args.tree.now n c.in_ok-file.file (one_where (is_directory r.f.content)) r.d r.f) (sym c.number_at.ensures) r.takes)

pub returns-clause-meets : goal.returns-clause-meets
returns-clause-meets c start =
    let t = c.args.tree.now in
    let now = c.args.now in
    let name = c.args.name.now in
    let r = (c.in_ok-file.ensures {u = tt}).ok now start in
    let n = number_in c.args.handle.now.0 in
    let m = c.in_ok-file.file in
    let can : CanTake t c.number_at.result m (one_where (is_directory r.f.content)) r.d r.f =
    subst (λ (n : ℕ). CanTake t n m (one_where (is_directory r.f.content)) r.d r.f) (sym c.number_at.ensures) r.takes in
    let left : c.take_entry.new.tree ≡ edited now t (taken_edits now n name r.d m r.f) =
    (c.in_ok-take_entry.ensures {u = tt}).ok r.d r.f can ∙ ap (λ (k : ℕ). edited now t (taken_edits now k name r.d m r.f)) c.number_at.ensures in
    meets_two t c.take_entry.new.tree (removal_of c.args.removal c.args.handle.now name) now n r.d (unlinked (one_where (is_directory r.f.content)) (without_name now name r.d)) (lost m r.f) _ _
    r.takes.dir refl (λ same. r.takes.apart (sym (number_lost m r.f) ∙ same)) (made_lost m r.f) r.answers (removal_answers c.args.removal c.args.handle.now name) left c.done.ensures.answer c.done.ensures.change

pub returns-in_err-file-clause-meets : goal.returns-in_err-file-clause-meets
returns-in_err-file-clause-meets c start =
    let p = err_from_is_err_and c.from_residual.result c.from_residual.ensures.1 in
    rw (p.1, p.2) ((c.in_err-file.ensures {u = tt}).err c.args.now start)
