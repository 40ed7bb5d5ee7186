use Rattle.std.proofs.Common.{◌≡◌, ℕ, ◌<◌, Bool, true, length, Ok, sym, ap, subst}
use Rattle.std.proofs.lemmas.Result.{err_from_is_err_and}
use Rattle.event_text.specs.declared.event.Event.{Event}
use Rattle.make_command.specs.Making.{Pushed, Pushes}
use Rattle.make_command.proofs.MakingLemmas.{gathered, flushed, broken}
use Rattle.make_command.proofs.making.Making.turn.Goals as goal

pub returns-then-not-is_much-clause-turns : goal.returns-then-not-is_much-clause-turns
returns-then-not-is_much-clause-turns g c held whole so =
    let is : c.in_ok-push.field-0 ≡ true = cc in
    let pushed : Pushed c.args.self.now c.push.new.self = subst (λ (b : Bool). Pushes c.args.self.now c.push.new.self (Ok b)) is (c.in_ok-push.ensures {u = tt}) in
    gathered held (g.K.Sink.held c.args.output.now) whole c.args.self.now c.push.new.self so pushed

pub returns-in_err-flush-clause-turns : goal.returns-in_err-flush-clause-turns
returns-in_err-flush-clause-turns g c held whole so =
    let is : c.in_ok-push.field-0 ≡ true = cc in
    let pushed : Pushed c.args.self.now c.push.new.self = subst (λ (b : Bool). Pushes c.args.self.now c.push.new.self (Ok b)) is (c.in_ok-push.ensures {u = tt}) in
    let stands = (gathered held (g.K.Sink.held c.args.output.now) whole c.args.self.now c.push.new.self so pushed).0 in
    let p = err_from_is_err_and c.from_residual-in_err-flush.result c.from_residual-in_err-flush.ensures.1 in
    rw p.1 (broken held (g.K.Sink.held c.args.output.now) whole c.push.new.self c.push.new.self stands (g.K.Sink.held c.flush.new.output) c.in_err-flush.ensures.front.0 c.in_err-flush.ensures.front.1)

pub returns-clause-turns : goal.returns-clause-turns
returns-clause-turns g c held whole so =
    let is : c.in_ok-push.field-0 ≡ true = cc in
    let pushed : Pushed c.args.self.now c.push.new.self = subst (λ (b : Bool). Pushes c.args.self.now c.push.new.self (Ok b)) is (c.in_ok-push.ensures {u = tt}) in
    let more = gathered held (g.K.Sink.held c.args.output.now) whole c.args.self.now c.push.new.self so pushed in
    let did = c.in_ok-flush.ensures {u = tt} in (
      flushed held (g.K.Sink.held c.args.output.now) whole c.push.new.self c.flush.new.self more.0 (g.K.Sink.held c.flush.new.output) did.front.0 did.front.1 did.front.2 did.text did.generator,
      subst (λ (n : ℕ). n < length c.args.self.now.generator) (sym (ap (length {A = Event}) did.generator)) more.1,
    )
