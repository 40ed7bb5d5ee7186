use Rattle.std.proofs.Common.{◌≡◌, ℕ, [], ◌∷◌, sym, ap, subst, ◌∙◌, refl}
use Rattle.nfs_proto.specs.declared.call.Call.TheVariants.{Link}
use Rattle.fs_rules.specs.Handle.{number_in}
use Rattle.fs_rules.specs.Edits.{Changed, edited}
use Rattle.fs_rules.specs.Making.{with_name, linked}
use Rattle.fs_edits.specs.Giving.{CanGive}
use Rattle.fs_tree.proofs.TakenLemmas.{meets_two}
use Rattle.std.proofs.lemmas.Result.{err_from_is_err_and}
use Rattle.fs_tree.proofs.link.link.Goals as goal

pub give_one-requires : goal.give_one-requires
give_one-requires c =
    let t = c.args.tree.now in
    let r = (c.in_ok-may_link.ensures {u = tt}).ok c.args.now 0 in (
      r.d,
      r.f,
      subst (λ (n : ℕ). CanGive t n c.number_at-linked.result c.args.name.now r.d r.f) (sym c.number_at.ensures)
          (subst (λ (m : ℕ). CanGive t (number_in c.args.dir.now.0) m c.args.name.now r.d r.f) (sym c.number_at-linked.ensures) r.gives),
    )

pub returns-clause-meets : goal.returns-clause-meets
returns-clause-meets c start =
    let t = c.args.tree.now in
    let now = c.args.now in
    let name = c.args.name.now in
    let r = (c.in_ok-may_link.ensures {u = tt}).ok now start in
    let n = number_in c.args.dir.now.0 in
    let m = number_in c.args.file.now.0 in
    let can : CanGive t c.number_at.result c.number_at-linked.result name r.d r.f =
    subst (λ (n : ℕ). CanGive t n c.number_at-linked.result name r.d r.f) (sym c.number_at.ensures)
    (subst (λ (m : ℕ). CanGive t (number_in c.args.dir.now.0) m name r.d r.f) (sym c.number_at-linked.ensures) r.gives) in
    let given = (c.in_ok-give_one.ensures {u = tt}).ok r.d r.f can in
    let left : c.give_one.new.tree ≡ edited now t (Changed n (with_name now name m r.d) ∷ Changed m (linked r.f) ∷ []) =
    given
    ∙ ap (λ (k : ℕ). edited now t (Changed k (with_name now name c.number_at-linked.result r.d) ∷ Changed c.number_at-linked.result (linked r.f) ∷ [])) c.number_at.ensures
    ∙ ap (λ (k : ℕ). edited now t (Changed n (with_name now name k r.d) ∷ Changed k (linked r.f) ∷ [])) c.number_at-linked.ensures in
    meets_two t c.give_one.new.tree (Link c.args.file.now c.args.dir.now name) now n r.d (with_name now name m r.d) (Changed m (linked r.f)) _ _
    r.gives.dir refl r.gives.apart refl r.answers (λ u. refl) left c.done.ensures.answer c.done.ensures.change

pub returns-in_err-may_link-clause-meets : goal.returns-in_err-may_link-clause-meets
returns-in_err-may_link-clause-meets c start =
    let p = err_from_is_err_and c.from_residual.result c.from_residual.ensures.1 in
    rw (p.1, p.2) ((c.in_err-may_link.ensures {u = tt}).err c.args.now start)
