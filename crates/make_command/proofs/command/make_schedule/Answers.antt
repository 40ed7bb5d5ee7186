use Rattle.std.proofs.Common.{◌≡◌, Bool, true, false, Ok, refl, subst}
use Rattle.std.proofs.lemmas.Result.{err_from_is_err_and}
use Rattle.schedule_maker.specs.Making.{schedule}
use Rattle.schedule_maker.proofs.MakingLemmas.{schedule_writable}
use Rattle.make_command.specs.Made.{made_text}
use Rattle.make_command.specs.Making.{Turns}
use Rattle.make_command.proofs.MakingLemmas.{begun, finished}
use Rattle.make_command.proofs.command.make_schedule.Goals as goal

pub loop-making-init : goal.loop-making-init
loop-making-init g c = record {
  stands = begun _ c.new-making.result (schedule c.args.seed c.args.count) c.new-making.ensures.generator c.new-making.ensures.text (schedule_writable c.args.seed c.args.count);
  count = refl;
}

pub returns-in_err-turn-clause-front : goal.returns-in_err-turn-clause-front
returns-in_err-turn-clause-front g c =
    let front = c.in_err-turn.ensures.turns (g.K.Sink.held c.args.output.now) (made_text c.args.seed c.args.count) c.loop-making.invariant.stands in
    let p = err_from_is_err_and c.from_residual.result c.from_residual.ensures.1 in
    rw p.1 (front.0, front.1, tt)

pub loop-making-smaller : goal.loop-making-smaller
loop-making-smaller g c =
    let turns = (c.in_ok-turn.ensures {u = tt}).turns (g.K.Sink.held c.args.output.now) (made_text c.args.seed c.args.count) c.loop-making.invariant.stands in
    let is : c.in_ok-turn.field-0 ≡ true = cc in
    (subst (λ (b : Bool). Turns (g.K.Sink.held c.args.output.now) (g.K.Sink.held c.turn.new.output) (made_text c.args.seed c.args.count) c.loop-making.making c.turn.new.self (Ok b)) is turns).1

pub returns-clause-front : goal.returns-clause-front
returns-clause-front g c =
    let turns = (c.in_ok-turn.ensures {u = tt}).turns (g.K.Sink.held c.args.output.now) (made_text c.args.seed c.args.count) c.loop-making.invariant.stands in
    let is : c.in_ok-turn.field-0 ≡ false = cc in
    let left = subst (λ (b : Bool). Turns (g.K.Sink.held c.args.output.now) (g.K.Sink.held c.turn.new.output) (made_text c.args.seed c.args.count) c.loop-making.making c.turn.new.self (Ok b)) is turns in
    let front = c.flush.ensures.front in
    (front.0, finished (g.K.Sink.held c.args.output.now) (g.K.Sink.held c.turn.new.output) (made_text c.args.seed c.args.count) c.turn.new.self c.turn.new.self left.0 (g.K.Sink.held c.flush.new.output) front.0 left.1 front.1, front.2)
