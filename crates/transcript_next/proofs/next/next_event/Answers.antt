use Rattle.std.proofs.Common.{◌≡◌, ◌+◌, ◌<◌, ◌≤◌, length, drop, None, Some, sym, ap, ◌∙◌, subst, arith}
use Rattle.transcript_facts.specs.declared.facts.Facts.{Facts}
use Rattle.transcript_next.specs.Nexts.{IsNextAt, next_at, drain_of, next_by, scheduled}
use Rattle.transcript_next.proofs.NextLemmas.{came_here, passed_here, none_here}
use Rattle.transcript_next.proofs.next.next_event.Goals as goal

pub returns-in-Some-clause-next : goal.returns-in-Some-clause-next
returns-in-Some-clause-next c =
    let e = c.index-events-taken.result in
    let f = c.args.facts.now in
    let at = subst (λ (x : Facts). IsNextAt (next_at c.args.geometry x c.loop-taken.taken c.loop-taken.drained e (drain_of e)) (Some c.in-Some.next)) c.loop-taken.invariant.1 c.in-Some.ensures.next in
    came_here c.args.geometry f c.args.events.now c.loop-taken.taken c.loop-taken.drained e c.in-Some.next _ c.loop-taken-test.true c.index-events-taken.is c.loop-taken.invariant.2 at

pub loop-taken-preserved : goal.loop-taken-preserved
loop-taken-preserved c =
    let e = c.index-events-taken.result in
    let f = c.args.facts.now in
    let none : c.next_at.result ≡ None = cc in
    let at = subst (λ (x : Facts). IsNextAt (next_at c.args.geometry x c.loop-taken.taken c.loop-taken.drained e (drain_of e)) None) c.loop-taken.invariant.1 (subst (λ r. IsNextAt (next_at c.args.geometry c.loop-taken.facts c.loop-taken.taken c.loop-taken.drained e (drain_of e)) r) none c.next_at.ensures.next) in (
      omega (arith, c.loop-taken-test.true),
      c.next_at.ensures.same ∙ c.loop-taken.invariant.1,
      passed_here c.args.geometry f c.args.events.now c.loop-taken.taken c.loop-taken.drained e _ c.loop-taken-test.true c.index-events-taken.is c.loop-taken.invariant.2 at,
    )

pub returns-clause-next : goal.returns-clause-next
returns-clause-next c =
    none_here c.args.geometry c.args.facts.now c.args.events.now c.loop-taken.taken c.loop-taken.drained c.nothing.result _ (omega (arith, c.loop-taken-test.false)) c.loop-taken.invariant.2 c.nothing.ensures.next
