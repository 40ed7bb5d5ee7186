use Rattle.std.proofs.Common.{◌≡◌, ◌-◌, ◌^◌, ◌<◌, Some, sym, ap, subst, ◌∙◌, refl, rules, arith}
use Rattle.std.specs.FinMap.{get}
use Rattle.nfs_proto.specs.declared.answer.Answer.TheVariants.{Found}
use Rattle.nfs_proto.specs.declared.fattr.Fattr.{Fattr}
use Rattle.nfs_proto.specs.declared.sattr.Sattr.{Sattr}
use Rattle.fs_rules.specs.declared.file.File.{File}
use Rattle.fs_rules.specs.Handle.{handle}
use Rattle.fs_rules.specs.Attributes.{with_attributes}
use Rattle.fs_rules.specs.Edits.{changed_at}
use Rattle.fs_rules.specs.Making.{size_alone}
use Rattle.fs_rules.specs.Making.{existing_checks}
use Rattle.fs_checks.proofs.FactsLemmas.{existing_looks, passed_of, failed_of, passed, failed}
use Rattle.fs_decisions.specs.Steps.{Fits}
use Rattle.fs_decisions.specs.Limits.{change_limits}
use Rattle.fs_tree.specs.Creating.{found_of}
use Rattle.fs_edits.proofs.PutLemmas.{put_back, one_file, is_there, still_there}
use Rattle.fs_edits.specs.Blank.{blank}
use Rattle.fs_tree.proofs.MeetsLemmas.{meets_told}
use Rattle.fs_decisions.proofs.SetAttrLemmas.{set_attr_fits, set_attr_change}
use Rattle.fs_tree.proofs.ExistingLemmas.{existing_refused, existing_found, existing_limited, existing_passes, meets_sized}
use Rattle.std.proofs.lemmas.Result.{err_from_is_err_and}
use Rattle.fs_tree.proofs.create.set_size.Goals as goal

pub returns-in_err-check_existing-clause-meets : goal.returns-in_err-check_existing-clause-meets
returns-in_err-check_existing-clause-meets c start =
    let f = c.in-Some.file.now in
    let live : get c.args.tree.now.files c.args.number ≡ Some f = search rules in
    let p = err_from_is_err_and c.from_residual.result c.from_residual.ensures.1 in
    rw (p.1, p.2) (existing_refused c.args.tree.now c.args.number c.args.set.now c.args.cred.now c.args.now start f live c.in_err-check_existing.field-0.0.0
    (failed_of (λ (f : File). existing_checks f c.args.set.now c.args.cred.now) (existing_looks c.args.set.now c.args.cred.now) f c.of_file.result c.check_existing.result c.of_file.ensures c.check_existing.ensures c.in_err-check_existing.field-0.0 (c.in_err-check_existing.was {u = tt})))

pub returns-then-not-is_set-clause-meets : goal.returns-then-not-is_set-clause-meets
returns-then-not-is_set-clause-meets c start =
    let live : get c.args.tree.now.files c.args.number ≡ Some c.in-Some.file.now = search rules in
    meets_told c.args.tree.now _ _ c.told.result
    (existing_found c.args.tree.now c.args.number c.args.set.now c.args.cred.now c.args.now start c.in-Some.file.now live
    (passed_of (λ (f : File). existing_checks f c.args.set.now c.args.cred.now) (existing_looks c.args.set.now c.args.cred.now) c.in-Some.file.now c.of_file.result c.check_existing.result c.of_file.ensures c.check_existing.ensures c.in_ok-check_existing.field-0 (c.in_ok-check_existing.was {u = tt})) (sym c.is_set.ensures ∙ c.if-not-is_set.true))
    (c.told.ensures.answer ∙ c.found_at.ensures) c.told.ensures.change

pub returns-in_err-check_limits-clause-meets : goal.returns-in_err-check_limits-clause-meets
returns-in_err-check_limits-clause-meets c start =
    let live : get c.args.tree.now.files c.args.number ≡ Some c.in-Some.file.now = search rules in
    let p = err_from_is_err_and c.from_residual-in_err-check_limits.result c.from_residual-in_err-check_limits.ensures.1 in
    rw (p.1, p.2) (existing_limited c.args.tree.now c.args.number c.args.set.now c.args.cred.now c.args.now start c.in-Some.file.now live
    (passed_of (λ (f : File). existing_checks f c.args.set.now c.args.cred.now) (existing_looks c.args.set.now c.args.cred.now) c.in-Some.file.now c.of_file.result c.check_existing.result c.of_file.ensures c.check_existing.ensures c.in_ok-check_existing.field-0 (c.in_ok-check_existing.was {u = tt})) c.requires (sym c.is_set.ensures ∙ c.if-not-is_set.false)
    c.in_err-check_limits.field-0.0.0 (failed (change_limits c.args.tree.now c.in-Some.file.now.change 0) c.check_limits.result c.in_err-check_limits.field-0.0 c.check_limits.ensures.exact (c.in_err-check_limits.was {u = tt})))

pub put_file-attr-requires-clause-fits : goal.put_file-attr-requires-clause-fits
put_file-attr-requires-clause-fits c =
    let n = c.args.number in
    let f = c.in-Some.file.now in
    let live : get c.args.tree.now.files n ≡ Some f = search rules in
    let fits : Fits f = search rules in
    let same = one_file c.args.tree.now n n f c.take_out-file.result refl live (sym c.take_out-file.ensures.file) in
    let is : c.with_attributes-file.result ≡ with_attributes c.args.now (size_alone c.args.set.now) f =
    c.with_attributes-file.ensures ∙ ap (λ (s : Sattr). with_attributes c.args.now s c.take_out-file.result) c.size_alone.ensures ∙ ap (with_attributes c.args.now (size_alone c.args.set.now)) same in
    subst Fits (sym is) (set_attr_fits c.args.now (size_alone c.args.set.now) f fits)

pub put_file-attr-requires-clause-change : goal.put_file-attr-requires-clause-change
put_file-attr-requires-clause-change c =
    let n = c.args.number in
    let f = c.in-Some.file.now in
    let live : get c.args.tree.now.files n ≡ Some f = search rules in
    let before = one_file c.args.tree.now n n f c.take_out-file.result refl live (sym c.take_out-file.ensures.file) in
    let is : c.with_attributes-file.result ≡ with_attributes c.args.now (size_alone c.args.set.now) f =
    c.with_attributes-file.ensures ∙ ap (λ (s : Sattr). with_attributes c.args.now s c.take_out-file.result) c.size_alone.ensures ∙ ap (with_attributes c.args.now (size_alone c.args.set.now)) before in
    let rises : f.change < 2 ^ 64 - 1 = (c.in_ok-check_limits.ensures {u = tt}).rises in
    let same : c.with_attributes-file.result.change ≡ f.change = ap (λ (f : File). f.change) is ∙ set_attr_change c.args.now (size_alone c.args.set.now) f in
    omega (arith, rises, same)

pub take_out-file-requires : goal.take_out-file-requires
take_out-file-requires c =
    let live : get c.args.tree.now.files c.args.number ≡ Some c.in-Some.file.now = search rules in
    is_there c.args.tree.now c.args.number c.in-Some.file.now live

pub put_file-attr-requires-clause-there : goal.put_file-attr-requires-clause-there
put_file-attr-requires-clause-there c = still_there c.args.tree.now c.take_out-file.new.tree c.args.number blank c.take_out-file.ensures.tree

pub returns-clause-meets : goal.returns-clause-meets
returns-clause-meets c start =
    let t = c.args.tree.now in
    let n = c.args.number in
    let f = c.in-Some.file.now in
    let g = with_attributes c.args.now (size_alone c.args.set.now) f in
    let live : get t.files n ≡ Some f = search rules in
    let same = one_file t n n f c.take_out-file.result refl live (sym c.take_out-file.ensures.file) in
    let is : c.with_attributes-file.result ≡ g =
    c.with_attributes-file.ensures ∙ ap (λ (s : Sattr). with_attributes c.args.now s c.take_out-file.result) c.size_alone.ensures ∙ ap (with_attributes c.args.now (size_alone c.args.set.now)) same in
    meets_sized t n c.args.set.now c.args.cred.now c.args.now start f live c.put_file-attr.new.tree _ c.found.result
    (existing_passes t n c.args.set.now c.args.cred.now c.args.now start f live
    (passed_of (λ (f : File). existing_checks f c.args.set.now c.args.cred.now) (existing_looks c.args.set.now c.args.cred.now) c.in-Some.file.now c.of_file.result c.check_existing.result c.of_file.ensures c.check_existing.ensures c.in_ok-check_existing.field-0 (c.in_ok-check_existing.was {u = tt})) c.requires (sym c.is_set.ensures ∙ c.if-not-is_set.false)
    (passed (change_limits c.args.tree.now c.in-Some.file.now.change 0) c.check_limits.result c.in_ok-check_limits.field-0 c.check_limits.ensures.exact (c.in_ok-check_limits.was {u = tt})))
    (put_back c.args.now t c.take_out-file.new.tree c.put_file-attr.new.tree n n blank g c.with_attributes-file.result refl c.take_out-file.ensures.tree is c.put_file-attr.ensures.tree)
    (c.found.ensures.answer
    ∙ ap (λ (a : Fattr). Found (record { 0 = handle n c.with_attributes-file.result.generation }) a) c.put_file-attr.ensures.attr
    ∙ ap (λ (h : File). found_of n (changed_at c.args.now h)) is)
    c.found.ensures.change
