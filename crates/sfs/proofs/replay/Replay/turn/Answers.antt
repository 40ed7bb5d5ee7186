use Rattle.std.proofs.Common.{◌≡◌, ℕ, List, [], Option, Ok, refl, subst}
use Rattle.std.proofs.lemmas.Result.{err_from_is_err_and}
use Rattle.event_text.specs.declared.event.Event.{Event}
use Rattle.sfs.specs.declared.step.Step.{Step}
use Rattle.sfs.specs.declared.step.Step.TheVariants.{On, Ended, Refused}
use Rattle.sfs.specs.declared.turn.Turn.{Turn}
use Rattle.line_text.specs.declared.line.Line.{Line}
use Rattle.line_stream.specs.Output.{WritesFront}
use Rattle.sfs.specs.Legal.{text_of}
use Rattle.line_stream.specs.ScheduleReader.{ReadsEvent}
use Rattle.sfs.proofs.ReplayLemmas.{StepsAll, read_counts, read_stopped, none_follows, breaks_off, steps_at, stands_on, legal_on, write_stopped, ends_here, refuses_here}
use Rattle.sfs.proofs.replay.Replay.turn.Goals as goal

pub returns-in_err-event-clause-counts : goal.returns-in_err-event-clause-counts
returns-in_err-event-clause-counts g c =
    let p = err_from_is_err_and c.from_residual.result c.from_residual.ensures.1 in
    rw (p.1, p.2) (read_counts (Option Event) Turn _ _ _ _ c.in_err-event.field-0.0 c.in_err-event.ensures.counts refl)

pub returns-in_err-event-clause-turns : goal.returns-in_err-event-clause-turns
returns-in_err-event-clause-turns g c left held done lines stood within =
    let p = err_from_is_err_and c.from_residual.result c.from_residual.ensures.1 in
    rw (p.1, p.2) (read_stopped stood _ c.next_event.new.self c.in_err-event.field-0.0 (c.in_err-event.ensures.reads left done stood.read))

pub returns-in_default-clause-turns : goal.returns-in_default-clause-turns
returns-in_default-clause-turns g c left held done lines stood within = (
  stood.put,
  none_follows stood
      (subst (λ (o : Option Event). ReadsEvent left (g.S.Source.left c.next_event.new.source) done c.next_event.new.self (Ok o)) c.in_default.is ((c.in_ok-event.ensures {u = tt}).reads left done stood.read)),
)

pub returns-in_err-lines-clause-turns : goal.returns-in_err-lines-clause-turns
returns-in_err-lines-clause-turns g c left held done lines stood within =
    let p = err_from_is_err_and c.from_residual-in_err-lines.result c.from_residual-in_err-lines.ensures.1 in
    rw (p.1, p.2) (lines, breaks_off stood)

pub returns-in_err-write_lines-in-On-clause-turns : goal.returns-in_err-write_lines-in-On-clause-turns
returns-in_err-write_lines-in-On-clause-turns g c left held done lines stood within =
    let p = err_from_is_err_and c.from_residual-in_err-write_lines-in-On.result c.from_residual-in_err-write_lines-in-On.ensures.1 in
    let event = c.in-Some.event in
    let read = subst (λ (o : Option Event). ReadsEvent left (g.S.Source.left c.next_event.new.source) done c.next_event.new.self (Ok o)) c.in-Some.is ((c.in_ok-event.ensures {u = tt}).reads left done stood.read) in
    let steps = steps_at stood _ read.0 event read.1 c.next_event.new.self read.2 within c.step.new.self (On c.in-On.lines)
    (subst (λ (s : Step). StepsAll c.args.self.now.world event c.step.new.self s) c.in-On.is (c.in_ok-lines.ensures {u = tt}).step) in
    let front = subst (λ (ls : List Line). (rest : List ℕ) × WritesFront (g.K.Sink.held c.args.output.now) (g.K.Sink.held c.write_lines.new.output) (text_of ls) rest × Unit {0}) c.as_slice.ensures.value c.in_err-write_lines-in-On.ensures.front in
    rw (p.1, p.2) (write_stopped stood _ c.in-On.lines _ _ _ c.in_err-write_lines-in-On.field-0.0
    (legal_on stood _ read.0 event read.1 c.next_event.new.self read.2 within c.step.new.self c.in-On.lines steps)
    c.in_err-write_lines-in-On.ensures.counts front)

pub returns-in-On-clause-turns : goal.returns-in-On-clause-turns
returns-in-On-clause-turns g c left held done lines stood within =
    let event = c.in-Some.event in
    let read = subst (λ (o : Option Event). ReadsEvent left (g.S.Source.left c.next_event.new.source) done c.next_event.new.self (Ok o)) c.in-Some.is ((c.in_ok-event.ensures {u = tt}).reads left done stood.read) in
    let steps = steps_at stood _ read.0 event read.1 c.next_event.new.self read.2 within c.step.new.self (On c.in-On.lines)
    (subst (λ (s : Step). StepsAll c.args.self.now.world event c.step.new.self s) c.in-On.is (c.in_ok-lines.ensures {u = tt}).step) in
    let front = subst (λ (ls : List Line). (rest : List ℕ) × WritesFront (g.K.Sink.held c.args.output.now) (g.K.Sink.held c.write_lines.new.output) (text_of ls) rest × rest ≡ []) c.as_slice.ensures.value (c.in_ok-write_lines-in-On.ensures {u = tt}).front in
    (read.0, c.in-On.lines, stands_on stood _ read.0 event read.1 c.next_event.new.self read.2 within c.step.new.self c.in-On.lines _ front.0 steps front.1 front.2)

pub returns-in-Ended-clause-turns : goal.returns-in-Ended-clause-turns
returns-in-Ended-clause-turns g c left held done lines stood within =
    let event = c.in-Some.event in
    let read = subst (λ (o : Option Event). ReadsEvent left (g.S.Source.left c.next_event.new.source) done c.next_event.new.self (Ok o)) c.in-Some.is ((c.in_ok-event.ensures {u = tt}).reads left done stood.read) in
    let steps = steps_at stood _ read.0 event read.1 c.next_event.new.self read.2 within c.step.new.self Ended
    (subst (λ (s : Step). StepsAll c.args.self.now.world event c.step.new.self s) c.in-Ended.is (c.in_ok-lines.ensures {u = tt}).step) in
    (stood.put, ends_here stood _ read.0 event read.1 c.next_event.new.self read.2 within c.step.new.self steps)

pub returns-clause-turns : goal.returns-clause-turns
returns-clause-turns g c left held done lines stood within =
    let event = c.in-Some.event in
    let read = subst (λ (o : Option Event). ReadsEvent left (g.S.Source.left c.next_event.new.source) done c.next_event.new.self (Ok o)) c.in-Some.is ((c.in_ok-event.ensures {u = tt}).reads left done stood.read) in
    let steps = steps_at stood _ read.0 event read.1 c.next_event.new.self read.2 within c.step.new.self Refused
    (subst (λ (s : Step). StepsAll c.args.self.now.world event c.step.new.self s) c.in-Refused.is (c.in_ok-lines.ensures {u = tt}).step) in
    (stood.put, refuses_here stood _ read.0 event read.1 c.next_event.new.self read.2 within c.step.new.self steps)
