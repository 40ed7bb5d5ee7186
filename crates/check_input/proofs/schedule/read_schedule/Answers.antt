use Rattle.std.proofs.Common.{◌+◌, List, sym, ap, ◌∙◌, arith}
use Rattle.event_text.specs.declared.event.Event.{Event}
use Rattle.line_stream.specs.Lines.{lines_of}
use Rattle.check_input.specs.Input.{Schedule, schedule_from}
use Rattle.check_input.proofs.InputLemmas.{onto_all, none_left, refused_at, ended_at, went_on, too_many}
use Rattle.check_input.proofs.schedule.read_schedule.Goals as goal

pub returns-in_default : goal.returns-in_default
returns-in_default c = none_left _ c.loop-number.events c.loop-number.number (lines_of c.loop-number.rest.now) c.loop-number.invariant (c.in_default.ensures {u = tt}).none

pub returns-in_default-2 : goal.returns-in_default-2
returns-in_default-2 c =
    refused_at _ c.loop-number.events c.loop-number.number c.in-Some.line.now (lines_of c.loop-number.rest.now) (lines_of c.in-Some.behind.now) c.loop-number.invariant
    (omega (arith, c.loop-number-test.true)) (c.in-Some.ensures {u = tt}).some (sym (c.in_ok-event.ensures {u = tt}) ∙ c.in_default-2.is)

pub returns-then-last : goal.returns-then-last
returns-then-last c =
    ended_at _ c.loop-number.events c.in-Some-2.event c.loop-number.number c.in-Some.line.now (lines_of c.loop-number.rest.now) (lines_of c.in-Some.behind.now) c.loop-number.invariant
    (omega (arith, c.loop-number-test.true)) (c.in-Some.ensures {u = tt}).some (sym (c.in_ok-event.ensures {u = tt}) ∙ c.in-Some-2.is) (sym c.is_end-last.ensures ∙ c.if-last.true)
    ∙ ap (λ (es : List Event). Schedule es (lines_of c.in-Some.behind.now)) (sym (c.in_ok-push.ensures {u = tt}).ok)

pub loop-number-preserved : goal.loop-number-preserved
loop-number-preserved c =
    went_on _ c.loop-number.events c.in-Some-2.event c.loop-number.number c.in-Some.line.now (lines_of c.loop-number.rest.now) (lines_of c.in-Some.behind.now) c.loop-number.invariant
    (omega (arith, c.loop-number-test.true)) (c.in-Some.ensures {u = tt}).some (sym (c.in_ok-event.ensures {u = tt}) ∙ c.in-Some-2.is) (sym c.is_end-last.ensures ∙ c.if-last.false)
    ∙ ap (λ (es : List Event). onto_all es (schedule_from (c.loop-number.number + 1) (lines_of c.in-Some.behind.now))) (sym (c.in_ok-push.ensures {u = tt}).ok)

pub returns : goal.returns
returns c = too_many _ c.loop-number.events c.loop-number.number (lines_of c.loop-number.rest.now) c.loop-number.invariant (omega (arith, c.loop-number-test.false, c.loop-number.auto.number))
