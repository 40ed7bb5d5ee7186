use Rattle.std.proofs.Common.{◌≡◌, ℕ, ◌-◌, ◌^◌, ◌<◌, true, false, Some, None, sym, ap, subst, ◌∙◌, refl, rules, arith}
use Rattle.std.specs.Prelude.{IsSome}
use Rattle.std.specs.FinMap.{get}
use Rattle.nfs_proto.specs.declared.answer.Answer.TheVariants.{Attr}
use Rattle.nfs_proto.specs.declared.call.Call.TheVariants.{Write}
use Rattle.fs_rules.specs.declared.file.File.{File}
use Rattle.fs_rules.specs.Handle.{number_in}
use Rattle.fs_rules.specs.File.{fattr_of}
use Rattle.fs_rules.specs.Statuses.{first_failure}
use Rattle.fs_rules.specs.Arguments.{file_of}
use Rattle.fs_rules.specs.Writing.{is_nothing, write_checks, with_bytes}
use Rattle.fs_decisions.specs.Steps.{Fits}
use Rattle.fs_decisions.specs.Limits.{change_limits}
use Rattle.fs_checks.proofs.FactsLemmas.{passed as has_passed, failed}
use Rattle.fs_decisions.proofs.RowLemmas.{named_there}
use Rattle.fs_tree.proofs.ChangedLemmas.{meets_changed, told_back}
use Rattle.fs_edits.proofs.PutLemmas.{put_back, put_same, one_file, is_there, still_there}
use Rattle.fs_edits.specs.Blank.{blank}
use Rattle.fs_tree.proofs.MeetsLemmas.{meets_told}
use Rattle.fs_decisions.proofs.WriteLemmas.{so, writes_no_directory, writes_within, grown_within, write_change, write_fits, write_nothing, write_limited, write_passes}
use Rattle.std.proofs.lemmas.Result.{err_from_is_err_and}
use Rattle.fs_tree.proofs.write.write.Goals as goal

pub returns-in_err-file-clause-meets : goal.returns-in_err-file-clause-meets
returns-in_err-file-clause-meets c begin total start =
    let p = err_from_is_err_and c.from_residual.result c.from_residual.ensures.1 in
    rw (p.1, p.2) ((c.in_err-file.ensures {u = tt}).err c.args.now begin total start)

pub returns-then-is_empty-clause-meets : goal.returns-then-is_empty-clause-meets
returns-then-is_empty-clause-meets c begin total start =
    let t = c.args.tree.now in
    let f = c.in_ok-file.file.now in
    let there : file_of t c.args.handle.now.0 ≡ Some f = (c.in_ok-file.ensures {u = tt}).there in
    let fits : Fits f = (c.in_ok-file.ensures {u = tt}).fits in
    let none : is_nothing c.args.bytes.now ≡ true = search rules in
    let told : c.fattr.result ≡ fattr_of c.number_at-number.result f = c.fattr.ensures fits.mode fits.room in
    meets_told t _ _ c.told.result
    (write_nothing t c.args.handle.now begin c.args.offset total c.args.bytes.now c.args.cred.now c.args.now start f there
    ((c.in_ok-file.ensures {u = tt}).checked) none)
    (c.told.ensures.answer ∙ ap Attr (told ∙ ap (λ n. fattr_of n f) c.number_at-number.ensures)) c.told.ensures.change

-- it ends within the greatest size
pub rise-requires : goal.rise-requires
rise-requires c =
    let some : is_nothing c.args.bytes.now ≡ false = search rules in
    omega (arith, writes_within c.in_ok-file.file.now c.args.cred.now c.args.offset c.args.bytes.now ((c.in_ok-file.ensures {u = tt}).checked) some)

pub with_bytes-requires : goal.with_bytes-requires
with_bytes-requires c =
    let some : is_nothing c.args.bytes.now ≡ false = search rules in
    omega (arith, writes_within c.in_ok-file.file.now c.args.cred.now c.args.offset c.args.bytes.now ((c.in_ok-file.ensures {u = tt}).checked) some)

pub returns-in_err-check_limits-clause-meets : goal.returns-in_err-check_limits-clause-meets
returns-in_err-check_limits-clause-meets c begin total start =
    let t = c.args.tree.now in
    let f = c.in_ok-file.file.now in
    let there : file_of t c.args.handle.now.0 ≡ Some f = (c.in_ok-file.ensures {u = tt}).there in
    let some : is_nothing c.args.bytes.now ≡ false = search rules in
    let passed : first_failure (write_checks f c.args.cred.now c.args.offset c.args.bytes.now) ≡ None = (c.in_ok-file.ensures {u = tt}).checked in
    let grown = c.rise.ensures (writes_no_directory f c.args.cred.now c.args.offset c.args.bytes.now passed) in
    let p = err_from_is_err_and c.from_residual-in_err-check_limits.result c.from_residual-in_err-check_limits.ensures.1 in
    rw (p.1, p.2) (write_limited t c.args.handle.now begin c.args.offset total c.args.bytes.now c.args.cred.now c.args.now start f there passed c.requires.good some
    c.in_err-check_limits.field-0.0.0 (ap (change_limits t f.change) (sym grown) ∙ failed (change_limits t f.change c.rise.result) c.check_limits.result c.in_err-check_limits.field-0.0 c.check_limits.ensures.exact (c.in_err-check_limits.was {u = tt})))

-- ---- the file is changed

pub put_changed-requires-clause-fits : goal.put_changed-requires-clause-fits
put_changed-requires-clause-fits c =
    let t = c.args.tree.now in
    let h = c.args.handle.now in
    let f = c.in_ok-file.file.now in
    let there : file_of t h.0 ≡ Some f = (c.in_ok-file.ensures {u = tt}).there in
    let regular = writes_no_directory f c.args.cred.now c.args.offset c.args.bytes.now ((c.in_ok-file.ensures {u = tt}).checked) in
    let same = one_file t c.number_at-number.result (number_in h.0) f c.take_out-file.result c.number_at-number.ensures (named_there t h.0 f there) (sym c.take_out-file.ensures.file) in
    let is = so c.args.now c.args.offset c.args.bytes.now f c.take_out-file.result c.in-Ok.file same regular ((c.in-Ok.ensures {u = tt}).ok) in
    let free = grown_within t f.change _ (ap (change_limits t f.change) (sym (c.rise.ensures regular)) ∙ has_passed (change_limits t f.change c.rise.result) c.check_limits.result c.in_ok-check_limits.field-0 c.check_limits.ensures.exact (c.in_ok-check_limits.was {u = tt})) in
    subst Fits (sym is) (write_fits c.args.now c.args.offset c.args.bytes.now f t (number_in h.0) c.requires.good (named_there t h.0 f there) free)

pub put_changed-requires-clause-change : goal.put_changed-requires-clause-change
put_changed-requires-clause-change c =
    let t = c.args.tree.now in
    let h = c.args.handle.now in
    let f = c.in_ok-file.file.now in
    let there : file_of t h.0 ≡ Some f = (c.in_ok-file.ensures {u = tt}).there in
    let regular = writes_no_directory f c.args.cred.now c.args.offset c.args.bytes.now ((c.in_ok-file.ensures {u = tt}).checked) in
    let before = one_file t c.number_at-number.result (number_in h.0) f c.take_out-file.result c.number_at-number.ensures (named_there t h.0 f there) (sym c.take_out-file.ensures.file) in
    let is = so c.args.now c.args.offset c.args.bytes.now f c.take_out-file.result c.in-Ok.file before regular ((c.in-Ok.ensures {u = tt}).ok) in
    let rises : f.change < 2 ^ 64 - 1 = (c.in_ok-check_limits.ensures {u = tt}).rises in
    let same : c.in-Ok.file.change ≡ f.change = ap (λ (f : File). f.change) is ∙ write_change c.args.now c.args.offset c.args.bytes.now f in
    omega (arith, rises, same)

pub take_out-file-requires : goal.take_out-file-requires
take_out-file-requires c =
    subst (λ (n : ℕ). IsSome (get c.args.tree.now.files n)) (sym c.number_at-number.ensures) (is_there c.args.tree.now (number_in c.args.handle.now.0) c.in_ok-file.file.now (named_there c.args.tree.now c.args.handle.now.0 c.in_ok-file.file.now ((c.in_ok-file.ensures {u = tt}).there)))

pub put_changed-requires-clause-there : goal.put_changed-requires-clause-there
put_changed-requires-clause-there c = still_there c.args.tree.now c.take_out-file.new.tree c.number_at-number.result blank c.take_out-file.ensures.tree

pub put_back-requires : goal.put_back-requires
put_back-requires c = still_there c.args.tree.now c.take_out-file.new.tree c.number_at-number.result blank c.take_out-file.ensures.tree

pub returns-in-Ok-clause-meets : goal.returns-in-Ok-clause-meets
returns-in-Ok-clause-meets c begin total start =
    let t = c.args.tree.now in
    let h = c.args.handle.now in
    let f = c.in_ok-file.file.now in
    let n = c.number_at-number.result in
    let g = with_bytes c.args.now c.args.offset c.args.bytes.now f in
    let there : file_of t h.0 ≡ Some f = (c.in_ok-file.ensures {u = tt}).there in
    let some : is_nothing c.args.bytes.now ≡ false = search rules in
    let passed : first_failure (write_checks f c.args.cred.now c.args.offset c.args.bytes.now) ≡ None = (c.in_ok-file.ensures {u = tt}).checked in
    let regular = writes_no_directory f c.args.cred.now c.args.offset c.args.bytes.now passed in
    let same = one_file t n (number_in h.0) f c.take_out-file.result c.number_at-number.ensures (named_there t h.0 f there) (sym c.take_out-file.ensures.file) in
    let is = so c.args.now c.args.offset c.args.bytes.now f c.take_out-file.result c.in-Ok.file same regular ((c.in-Ok.ensures {u = tt}).ok) in
    meets_changed t c.put_changed.new.tree (Write h begin c.args.offset total c.args.bytes.now) c.args.now (number_in h.0) f g _ c.put_changed.result
    (named_there t h.0 f there) (write_change c.args.now c.args.offset c.args.bytes.now f)
    (write_passes t h begin c.args.offset total c.args.bytes.now c.args.cred.now c.args.now start f there passed c.requires.good some
    (ap (change_limits t f.change) (sym (c.rise.ensures regular)) ∙ has_passed (change_limits t f.change c.rise.result) c.check_limits.result c.in_ok-check_limits.field-0 c.check_limits.ensures.exact (c.in_ok-check_limits.was {u = tt})))
    (λ u. refl)
    (put_back c.args.now t c.take_out-file.new.tree c.put_changed.new.tree n (number_in h.0) blank g c.in-Ok.file c.number_at-number.ensures c.take_out-file.ensures.tree is c.put_changed.ensures.tree)
    (told_back c.args.now n (number_in h.0) g c.in-Ok.file c.put_changed.result.answer c.number_at-number.ensures is c.put_changed.ensures.answer)
    c.put_changed.ensures.change

pub returns-in-Err-clause-err : goal.returns-in-Err-clause-err
returns-in-Err-clause-err c =
    put_same c.args.tree.now c.take_out-file.new.tree c.put_back.new.tree c.number_at-number.result blank c.in-Err.file c.take_out-file.ensures.tree c.put_back.ensures
    (c.take_out-file.ensures.file ∙ ap Some (sym ((c.in-Err.ensures {u = tt}).err)))
