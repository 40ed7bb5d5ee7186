use Rattle.std.proofs.Common.{[], Option, Some, Ok, subst}
use Rattle.std.proofs.lemmas.Result.{err_from_is_err_and}
use Rattle.event_text.specs.declared.event.Event.{Event}
use Rattle.sfs.specs.World.{Opens}
use Rattle.line_stream.specs.ScheduleReader.{ReadsEvent}
use Rattle.sfs.proofs.OpenLemmas.{unread, first_stopped, none_first, no_cluster, stands_first}
use Rattle.sfs.proofs.replay.Replay.open.Goals as goal

pub returns-in_err-event-clause-opens : goal.returns-in_err-event-clause-opens
returns-in_err-event-clause-opens g c =
    let p = err_from_is_err_and c.from_residual-in_err-event.result c.from_residual-in_err-event.ensures.1 in
    rw (p.1, p.2) (first_stopped _ _ c.next_event.new.self c.in_err-event.field-0.0 (c.in_err-event.ensures.reads _ [] (unread _ c.in_ok-reader.reader (c.in_ok-reader.ensures {u = tt}))))

pub returns-in_default-clause-opens : goal.returns-in_default-clause-opens
returns-in_default-clause-opens g c =
    none_first
    (subst (λ (o : Option Event). ReadsEvent (g.S.Source.left c.args.input.now) (g.S.Source.left c.next_event.new.source) [] c.next_event.new.self (Ok o)) c.in_default.is
    ((c.in_ok-event.ensures {u = tt}).reads _ [] (unread _ c.in_ok-reader.reader (c.in_ok-reader.ensures {u = tt}))))

pub returns-in_default-2-clause-opens : goal.returns-in_default-2-clause-opens
returns-in_default-2-clause-opens g c =
    let read =
    subst (λ (o : Option Event). ReadsEvent (g.S.Source.left c.args.input.now) (g.S.Source.left c.next_event.new.source) [] c.next_event.new.self (Ok o)) c.in-Some.is
    ((c.in_ok-event.ensures {u = tt}).reads _ [] (unread _ c.in_ok-reader.reader (c.in_ok-reader.ensures {u = tt}))) in
    no_cluster c.next_event.new.self read.0 c.in-Some.event read.1 read.2 (subst (Opens (Some c.in-Some.event)) c.in_default-2.is (c.in_ok-world.ensures {u = tt}))

pub returns-clause-opens : goal.returns-clause-opens
returns-clause-opens g c =
    let read =
    subst (λ (o : Option Event). ReadsEvent (g.S.Source.left c.args.input.now) (g.S.Source.left c.next_event.new.source) [] c.next_event.new.self (Ok o)) c.in-Some.is
    ((c.in_ok-event.ensures {u = tt}).reads _ [] (unread _ c.in_ok-reader.reader (c.in_ok-reader.ensures {u = tt}))) in
    (read.0, λ held. stands_first c.next_event.new.self read.0 c.in-Some.event c.in-Some-2.world read.1 read.2 (subst (Opens (Some c.in-Some.event)) c.in-Some-2.is (c.in_ok-world.ensures {u = tt})))
