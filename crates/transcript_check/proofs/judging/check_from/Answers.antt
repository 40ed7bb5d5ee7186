use Rattle.std.proofs.Common.{◌≡◌, ℕ, Bool, ◌+◌, ◌<◌, ◌≤◌, true, false, Ok, Some, get_or, length, sym, ap, ◌∙◌, subst, arith}
use Rattle.std.proofs.lemmas.List.{length-map}
use Rattle.event_text.specs.declared.event.Event.{Event}
use Rattle.transcript_rules.specs.Opening.{fresh_opening}
use Rattle.transcript_rules.specs.Book.{opened}
use Rattle.transcript_rules.specs.Next.{noted}
use Rattle.transcript_next.specs.Nexts.{scheduled}
use Rattle.transcript_checker.specs.Standing.{Judges}
use Rattle.transcript_checker.proofs.StandLemmas.{has_room}
use Rattle.transcript_check.specs.declared.verdict.Verdict.TheVariants as verdict
use Rattle.transcript_check.proofs.CheckLemmas.{cluster_limits, some_event, none_judged, one_more, fails_one, ended, whole_holds}
use Rattle.transcript_check.proofs.judging.check_from.Goals as goal

pub open-requires : goal.open-requires
open-requires c = cluster_limits c.args.events.now c.args.geometry c.requires

pub loop-index-init : goal.loop-index-init
loop-index-init c = (
  opened (fresh_opening c.args.geometry),
  none_judged (scheduled c.args.events.now) c.args.geometry c.args.lines.now,
  c.in_ok-checker.ensures {u = tt} c.args.events.now (some_event c.args.events.now c.args.geometry c.requires),
)

pub judge-requires-clause-room : goal.judge-requires-clause-room
judge-requires-clause-room c =
    let inv = c.loop-index.invariant in
    let low = c.loop-index-test.true in
    let count = c.count_of-count.ensures.count in
    let small = c.count_of-count.ensures.small in
    has_room (fresh_opening c.args.geometry) (scheduled c.args.events.now) c.loop-index.index inv.0 c.loop-index.checker inv.2 (omega (arith, low, count, small))

pub loop-index-preserved : goal.loop-index-preserved
loop-index-preserved c =
    let o = fresh_opening c.args.geometry in
    let schedule = scheduled c.args.events.now in
    let inv = c.loop-index.invariant in
    let l = c.index-lines-index.result in
    let is : c.in_ok-judge.field-0 ≡ true = cc (c.if-not-branch.false) in
    let t = subst (λ (b : Bool). Judges o schedule c.loop-index.index inv.0 l c.judge.new.self (Ok b)) is (c.in_ok-judge.ensures {u = tt} o c.loop-index.index inv.0 inv.2) in
    (noted o schedule inv.0 l, one_more schedule c.args.geometry c.args.lines.now c.loop-index.index inv.0 l (omega (arith, c.loop-index-test.true, c.count_of-count.ensures.count)) c.index-lines-index.is inv.1 t.0, t.1)

pub returns-then-not-branch-clause-verdict : goal.returns-then-not-branch-clause-verdict
returns-then-not-branch-clause-verdict c =
    let o = fresh_opening c.args.geometry in
    let schedule = scheduled c.args.events.now in
    let inv = c.loop-index.invariant in
    let l = c.index-lines-index.result in
    let is : c.in_ok-judge.field-0 ≡ false = cc (c.if-not-branch.true) in
    let t = subst (λ (b : Bool). Judges o schedule c.loop-index.index inv.0 l c.judge.new.self (Ok b)) is (c.in_ok-judge.ensures {u = tt} o c.loop-index.index inv.0 inv.2) in
    fails_one schedule c.args.geometry c.args.lines.now c.loop-index.index inv.0 l c.requires (omega (arith, c.loop-index-test.true, c.count_of-count.ensures.count)) c.index-lines-index.is inv.1 t

pub returns-then-not-branch-clause-holds : goal.returns-then-not-branch-clause-holds
returns-then-not-branch-clause-holds c whole =
    let o = fresh_opening c.args.geometry in
    let schedule = scheduled c.args.events.now in
    let inv = c.loop-index.invariant in
    let l = c.index-lines-index.result in
    let is : c.in_ok-judge.field-0 ≡ false = cc (c.if-not-branch.true) in
    let t = subst (λ (b : Bool). Judges o schedule c.loop-index.index inv.0 l c.judge.new.self (Ok b)) is (c.in_ok-judge.ensures {u = tt} o c.loop-index.index inv.0 inv.2) in
    whole_holds schedule c.args.lines.now (verdict.Fails (c.loop-index.index + 1))
    (fails_one schedule c.args.geometry c.args.lines.now c.loop-index.index inv.0 l c.requires (omega (arith, c.loop-index-test.true, c.count_of-count.ensures.count)) c.index-lines-index.is inv.1 t) whole

pub returns-clause-verdict : goal.returns-clause-verdict
returns-clause-verdict c =
    let inv = c.loop-index.invariant in
    ended (scheduled c.args.events.now) c.args.geometry c.args.lines.now c.loop-index.index inv.0 _ _ c.requires (omega (arith, c.loop-index-test.false, c.count_of-count.ensures.count)) inv.1 inv.2.facts c.ending.ensures

pub returns-clause-holds : goal.returns-clause-holds
returns-clause-holds c whole =
    let inv = c.loop-index.invariant in
    whole_holds (scheduled c.args.events.now) c.args.lines.now _
    (ended (scheduled c.args.events.now) c.args.geometry c.args.lines.now c.loop-index.index inv.0 _ _ c.requires (omega (arith, c.loop-index-test.false, c.count_of-count.ensures.count)) inv.1 inv.2.facts c.ending.ensures) whole
