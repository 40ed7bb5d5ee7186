use Rattle.std.proofs.Common.{◌≡◌, ℕ, ◌-◌, ◌^◌, ◌<◌, Some, sym, ap, subst, ◌∙◌, refl, arith}
use Rattle.std.specs.Prelude.{IsSome}
use Rattle.std.specs.FinMap.{get}
use Rattle.nfs_proto.specs.declared.answer.Answer.TheVariants.{Attr}
use Rattle.nfs_proto.specs.declared.call.Call.TheVariants.{SetAttr}
use Rattle.fs_rules.specs.declared.file.File.{File}
use Rattle.fs_rules.specs.Handle.{number_in}
use Rattle.fs_rules.specs.File.{fattr_of}
use Rattle.fs_rules.specs.Arguments.{file_of}
use Rattle.fs_rules.specs.Attributes.{with_attributes}
use Rattle.fs_decisions.specs.Steps.{Fits}
use Rattle.fs_decisions.proofs.RowLemmas.{named_there}
use Rattle.fs_tree.proofs.ChangedLemmas.{meets_changed, told_back}
use Rattle.fs_edits.proofs.PutLemmas.{put_back, one_file, is_there, still_there}
use Rattle.fs_edits.specs.Blank.{blank}
use Rattle.fs_tree.proofs.MeetsLemmas.{meets_told}
use Rattle.fs_decisions.proofs.SetAttrLemmas.{set_attr_nothing, set_attr_passes, set_attr_fits, set_attr_change}
use Rattle.std.proofs.lemmas.Result.{err_from_is_err_and}
use Rattle.fs_tree.proofs.set_attr.set_attr.Goals as goal

pub returns-in_err-file-clause-meets : goal.returns-in_err-file-clause-meets
returns-in_err-file-clause-meets c start =
    let p = err_from_is_err_and c.from_residual.result c.from_residual.ensures.1 in
    rw (p.1, p.2) ((c.in_err-file.ensures {u = tt}).err c.args.now start)

pub returns-then-not-sets_something-clause-meets : goal.returns-then-not-sets_something-clause-meets
returns-then-not-sets_something-clause-meets c start =
    let t = c.args.tree.now in
    let f = c.in_ok-file.file.now in
    let there : file_of t c.args.handle.now.0 ≡ Some f = (c.in_ok-file.ensures {u = tt}).there in
    let fits : Fits f = (c.in_ok-file.ensures {u = tt}).fits in
    let told : c.fattr.result ≡ fattr_of c.number_at-number.result f = c.fattr.ensures fits.mode fits.room in
    meets_told t _ _ c.told.result
    (set_attr_nothing t c.args.handle.now c.args.set.now c.args.cred.now c.args.now start f there
    ((c.in_ok-file.ensures {u = tt}).checked) (sym c.sets_something.ensures ∙ c.if-not-sets_something.true))
    (c.told.ensures.answer ∙ ap Attr (told ∙ ap (λ n. fattr_of n f) c.number_at-number.ensures)) c.told.ensures.change

-- the file that is taken out is the one that the handle names
taken_out : (c : goal.After-put_changed-arg-1) → c.take_out-file.result ≡ c.in_ok-file.file.now
taken_out c =
    let t = c.args.tree.now in
    let there : file_of t c.args.handle.now.0 ≡ Some c.in_ok-file.file.now = (c.in_ok-file.ensures {u = tt}).there in
    one_file t c.number_at-number.result (number_in c.args.handle.now.0) c.in_ok-file.file.now c.take_out-file.result c.number_at-number.ensures (named_there t c.args.handle.now.0 c.in_ok-file.file.now there) (sym c.take_out-file.ensures.file)

-- so it is changed as the rules say
changed_so : (c : goal.After-put_changed-arg-1) → c.with_attributes-changed.result ≡ with_attributes c.args.now c.args.set.now c.in_ok-file.file.now
changed_so c = c.with_attributes-changed.ensures ∙ ap (with_attributes c.args.now c.args.set.now) (taken_out c)

pub put_changed-requires-clause-fits : goal.put_changed-requires-clause-fits
put_changed-requires-clause-fits c =
    let fits : Fits c.in_ok-file.file.now = (c.in_ok-file.ensures {u = tt}).fits in
    subst Fits (sym (changed_so c)) (set_attr_fits c.args.now c.args.set.now c.in_ok-file.file.now fits)

pub put_changed-requires-clause-change : goal.put_changed-requires-clause-change
put_changed-requires-clause-change c =
    let rises : c.in_ok-file.file.now.change < 2 ^ 64 - 1 = (c.in_ok-file.ensures {u = tt}).rises (sym c.sets_something.ensures ∙ c.if-not-sets_something.false) in
    let same : c.with_attributes-changed.result.change ≡ c.in_ok-file.file.now.change =
    ap (λ (f : File). f.change) (changed_so c) ∙ set_attr_change c.args.now c.args.set.now c.in_ok-file.file.now in
    omega (arith, rises, same)

pub take_out-file-requires : goal.take_out-file-requires
take_out-file-requires c =
    subst (λ (n : ℕ). IsSome (get c.args.tree.now.files n)) (sym c.number_at-number.ensures) (is_there c.args.tree.now (number_in c.args.handle.now.0) c.in_ok-file.file.now (named_there c.args.tree.now c.args.handle.now.0 c.in_ok-file.file.now ((c.in_ok-file.ensures {u = tt}).there)))

pub put_changed-requires-clause-there : goal.put_changed-requires-clause-there
put_changed-requires-clause-there c = still_there c.args.tree.now c.take_out-file.new.tree c.number_at-number.result blank c.take_out-file.ensures.tree

pub returns-clause-meets : goal.returns-clause-meets
returns-clause-meets c start =
    let t = c.args.tree.now in
    let h = c.args.handle.now in
    let f = c.in_ok-file.file.now in
    let n = c.number_at-number.result in
    let g = with_attributes c.args.now c.args.set.now f in
    let there : file_of t h.0 ≡ Some f = (c.in_ok-file.ensures {u = tt}).there in
    let is : c.with_attributes-changed.result ≡ g =
    c.with_attributes-changed.ensures
    ∙ ap (with_attributes c.args.now c.args.set.now)
    (one_file t n (number_in h.0) f c.take_out-file.result c.number_at-number.ensures (named_there t h.0 f there) (sym c.take_out-file.ensures.file)) in
    meets_changed t c.put_changed.new.tree (SetAttr h c.args.set.now) c.args.now (number_in h.0) f g _ c.put_changed.result
    (named_there t h.0 f there) (set_attr_change c.args.now c.args.set.now f)
    (set_attr_passes t h c.args.set.now c.args.cred.now c.args.now start f there
    ((c.in_ok-file.ensures {u = tt}).checked) c.requires (sym c.sets_something.ensures ∙ c.if-not-sets_something.false)
    ((c.in_ok-file.ensures {u = tt}).limits (sym c.sets_something.ensures ∙ c.if-not-sets_something.false)))
    (λ u. refl)
    (put_back c.args.now t c.take_out-file.new.tree c.put_changed.new.tree n (number_in h.0) blank g c.with_attributes-changed.result c.number_at-number.ensures c.take_out-file.ensures.tree is c.put_changed.ensures.tree)
    (told_back c.args.now n (number_in h.0) g c.with_attributes-changed.result c.put_changed.result.answer c.number_at-number.ensures is c.put_changed.ensures.answer)
    c.put_changed.ensures.change
