use Rattle.std.proofs.Common.{◌≡◌, ◌-◌, ◌^◌, ◌<◌, ℕ, None, Some, length, sym, ap, ◌∙◌}
use Rattle.nfs_proto.specs.declared.call.Call.TheVariants.{Link}
use Rattle.nfs_proto.specs.declared.stamp.Stamp.{Stamp}
use Rattle.fs_rules.specs.Handle.{number_in}
use Rattle.fs_rules.specs.File.{slots_of}
use Rattle.fs_rules.specs.Slots.{put_name}
use Rattle.fs_rules.specs.Statuses.{first_failure}
use Rattle.fs_rules.specs.Arguments.{file_of}
use Rattle.fs_rules.specs.Names.{link_checks}
use Rattle.fs_rules.specs.Respond.{respond}
use Rattle.fs_decisions.specs.Steps.{refused}
use Rattle.fs_decisions.specs.Linking.{link_limits, MayLink}
use Rattle.std.proofs.lemmas.Result.{err_from_is_err_and}
use Rattle.fs_checks.specs.declared.status.Status.{Status}
use Rattle.fs_checks.proofs.FactsLemmas.{passed, failed}
use Rattle.fs_decisions.proofs.VerdictLemmas.{if_err, if_ok}
use Rattle.fs_decisions.proofs.LinkLemmas.{link_absent, link_argument, link_refused, link_slots, link_limited, may_link}
use Rattle.fs_decisions.proofs.link.may_link.Goals as goal

pub returns-in_err-linked-clause-err : goal.returns-in_err-linked-clause-err
returns-in_err-linked-clause-err c =
    let p = err_from_is_err_and c.from_residual.result c.from_residual.ensures.1 in
    let k = c.in_err-linked.ensures {u = tt} in
    rw (p.1, p.2) (λ now start. link_absent c.args.tree.now c.args.file.now c.args.dir.now c.args.name.now c.args.cred.now now start k.none ∙ ap (refused c.args.tree.now) (sym k.stale))

pub returns-in_err-dir-clause-err : goal.returns-in_err-dir-clause-err
returns-in_err-dir-clause-err c =
    let p = err_from_is_err_and c.from_residual-in_err-dir.result c.from_residual-in_err-dir.ensures.1 in
    rw (p.1, p.2) (λ now start. link_argument c.args.tree.now c.args.file.now c.args.dir.now c.args.name.now c.args.cred.now now start c.in_ok-linked.linked.now ((c.in_ok-linked.ensures {u = tt}).there)
    c.in_err-dir.field-0.0.0 ((c.in_err-dir.ensures {u = tt}).fails))

pub returns-in_err-check_name_free-clause-err : goal.returns-in_err-check_name_free-clause-err
returns-in_err-check_name_free-clause-err c =
    let s = c.in_err-check_name_free.field-0.0 in
    let p = err_from_is_err_and c.from_residual-in_err-check_name_free.result c.from_residual-in_err-check_name_free.ensures.1 in
    rw (p.1, p.2) (λ now start. link_refused c.args.tree.now c.args.file.now c.args.dir.now c.args.name.now c.args.cred.now now start c.in_ok-linked.linked.now ((c.in_ok-linked.ensures {u = tt}).there) c.in_ok-dir.dir.now
    ((c.in_ok-dir.ensures {u = tt}).there) ((c.in_ok-dir.ensures {u = tt}).passes) s.0
    (failed (first_failure (link_checks c.in_ok-linked.linked.now c.in_ok-dir.dir.now c.args.name.now)) c.check_name_free.result s c.check_name_free.ensures (c.in_err-check_name_free.was {u = tt})))

pub returns-clause-err : goal.returns-clause-err
returns-clause-err c =
    let t = c.args.tree.now in
    let f = c.in_ok-linked.linked.now in
    let d = c.in_ok-dir.dir.now in
    let name = c.args.name.now in
    let cred = c.args.cred.now in
    let file_there : file_of t c.args.file.now.0 ≡ Some f = (c.in_ok-linked.ensures {u = tt}).there in
    let dir_there = (c.in_ok-dir.ensures {u = tt}).there in
    let row = (c.in_ok-dir.ensures {u = tt}).passes in
    let checked : first_failure (link_checks f d name) ≡ None = passed (first_failure (link_checks f d name)) c.check_name_free.result c.in_ok-check_name_free.field-0 c.check_name_free.ensures (c.in_ok-check_name_free.was {u = tt}) in
    if_err (λ (s : Status). (now : Stamp) → (start : ℕ) → respond t (Link c.args.file.now c.args.dir.now name) cred now start ≡ refused t s.0) (link_limits t f d c.slots_with.result) c.check_room.result c.check_room.ensures.exact
    (λ s is now start.
    let slots = link_slots t c.args.file.now c.args.dir.now name cred now start f file_there d dir_there row c.requires in
    let many : c.slots_with.result ≡ length (put_name (slots_of d.content) (record { name = name; file = number_in c.args.file.now.0 })) =
    c.slots_with.ensures (number_in c.args.file.now.0) slots.0 slots.1 in
    link_limited t c.args.file.now c.args.dir.now name cred now start f file_there d dir_there row c.requires checked s.0
    (ap (λ (k : ℕ). link_limits t f d k) (sym many) ∙ is))

pub returns-clause-ok : goal.returns-clause-ok
returns-clause-ok c =
    let t = c.args.tree.now in
    let f = c.in_ok-linked.linked.now in
    let d = c.in_ok-dir.dir.now in
    let name = c.args.name.now in
    let cred = c.args.cred.now in
    let file_there : file_of t c.args.file.now.0 ≡ Some f = (c.in_ok-linked.ensures {u = tt}).there in
    let dir_there = (c.in_ok-dir.ensures {u = tt}).there in
    let row = (c.in_ok-dir.ensures {u = tt}).passes in
    let checked : first_failure (link_checks f d name) ≡ None = passed (first_failure (link_checks f d name)) c.check_name_free.result c.in_ok-check_name_free.field-0 c.check_name_free.ensures (c.in_ok-check_name_free.was {u = tt}) in
    if_ok ((now : Stamp) → (start : ℕ) → MayLink t c.args.file.now c.args.dir.now name cred now start) ((d.change < 2 ^ 64 - 1) × (f.change < 2 ^ 64 - 1)) (link_limits t f d c.slots_with.result) c.check_room.result
    c.check_room.ensures.exact c.check_room.ensures.rises
    (λ is rises now start.
    let slots = link_slots t c.args.file.now c.args.dir.now name cred now start f file_there d dir_there row c.requires in
    let many : c.slots_with.result ≡ length (put_name (slots_of d.content) (record { name = name; file = number_in c.args.file.now.0 })) =
    c.slots_with.ensures (number_in c.args.file.now.0) slots.0 slots.1 in
    may_link t c.args.file.now c.args.dir.now name cred now start f file_there d dir_there row c.requires checked
    (ap (λ (k : ℕ). link_limits t f d k) (sym many) ∙ is) rises.0 rises.1)
