use Rattle.std.proofs.Common.{◌≡◌, ◌+◌, ◌≤◌, ℕ, [], ◌∷◌, ◌++◌, length, Option, Ok, refl, subst, ◌∙◌, arith}
use Rattle.std.proofs.lemmas.List.{length_push}
use Rattle.std.proofs.lemmas.Result.{err_from_is_err_and}
use Rattle.line_words.specs.declared.limits.TheConstants.{MAX_LINES}
use Rattle.line_text.specs.declared.line.Line.TheVariants as line
use Rattle.schedule_text.proofs.StreamLemmas.{Puts-none}
use Rattle.sfs.specs.declared.ending.Ending.TheVariants as ending
use Rattle.sfs.specs.declared.replay.Replay.{Replay}
use Rattle.sfs.specs.declared.turn.Turn.{Turn}
use Rattle.sfs.specs.Legal.{text_of}
use Rattle.sfs.specs.Replay.{Finishes, OfSchedule, Opens, Turns}
use Rattle.sfs.proofs.ReplayLemmas.{refuses_past}
use Rattle.sfs.proofs.OpenLemmas.{open_stopped, closed}
use Rattle.sfs.proofs.replay.replay_schedule.Goals as goal

pub returns-in_err-replay-clause-replays : goal.returns-in_err-replay-clause-replays
returns-in_err-replay-clause-replays g c =
    let p = err_from_is_err_and c.from_residual.result c.from_residual.ensures.1 in
    rw (p.1, p.2) (open_stopped _ _ _ c.in_err-replay.field-0.0 c.in_err-replay.ensures.opens)

pub returns-in_default-clause-replays : goal.returns-in_default-clause-replays
unfolding text_of
returns-in_default-clause-replays g c =
    let finishes = subst (λ (o : Option Replay). Opens (g.S.Source.left c.args.input.now) (g.S.Source.left c.open.new.input) (Ok o)) c.in_default.is (c.in_ok-replay.ensures {u = tt}).opens in
    closed _ _ _ _ _ [] (line.Refused 1) ending.Refused _ _ c.close.result Puts-none finishes c.close.ensures.counts c.close.ensures.front c.close.ensures.ending
    (λ put. ([], 1, put, finishes))

pub loop-number-init : goal.loop-number-init
loop-number-init g c =
    let opens = subst (λ (o : Option Replay). Opens (g.S.Source.left c.args.input.now) (g.S.Source.left c.open.new.input) (Ok o)) c.in-Some.is (c.in_ok-replay.ensures {u = tt}).opens in
    (record { done = opens.0 ∷ []; lines = []; stood = opens.1 _; read = refl }, refl, refl)

pub returns-in_err-turn-clause-replays : goal.returns-in_err-turn-clause-replays
returns-in_err-turn-clause-replays g c =
    let p = err_from_is_err_and c.from_residual-in_err-turn.result c.from_residual-in_err-turn.ensures.1 in
    let r = c.loop-number.invariant.0 in
    rw (p.1, p.2) (c.in_err-turn.ensures.turns _ _ r.done r.lines r.stood (omega (arith, r.read, c.loop-number-test.true, c.loop-number.auto.number)))

pub returns-in-Ended-clause-replays : goal.returns-in-Ended-clause-replays
returns-in-Ended-clause-replays g c =
    let r = c.loop-number.invariant.0 in
    let ended = subst (λ (t : Turn). Turns (g.S.Source.left c.args.input.now) (g.S.Source.left c.turn.new.input) (g.K.Sink.held c.args.output.now) (g.K.Sink.held c.turn.new.output) r.done r.lines c.turn.new.self (Ok t)) c.in-Ended.is ((c.in_ok-turn.ensures {u = tt}).turns _ _ r.done r.lines r.stood (omega (arith, r.read, c.loop-number-test.true, c.loop-number.auto.number))) in
    closed _ _ _ _ _ r.lines line.End ending.Ended _ _ c.close-in-Ended.result ended.0 ended.1 c.close-in-Ended.ensures.counts c.close-in-Ended.ensures.front c.close-in-Ended.ensures.ending
    (λ put. (r.lines, put, ended.1))

pub returns-in-Refused-clause-replays : goal.returns-in-Refused-clause-replays
returns-in-Refused-clause-replays g c =
    let r = c.loop-number.invariant.0 in
    let refused = subst (λ (t : Turn). Turns (g.S.Source.left c.args.input.now) (g.S.Source.left c.turn.new.input) (g.K.Sink.held c.args.output.now) (g.K.Sink.held c.turn.new.output) r.done r.lines c.turn.new.self (Ok t)) c.in-Refused.is ((c.in_ok-turn.ensures {u = tt}).turns _ _ r.done r.lines r.stood (omega (arith, r.read, c.loop-number-test.true, c.loop-number.auto.number))) in
    let number : length r.done + 1 ≡ c.loop-number.number = omega (arith, r.read, c.loop-number.auto.number) in
    let finishes = subst (λ (n : ℕ). OfSchedule (g.S.Source.left c.args.input.now) (λ schedule. Finishes schedule r.lines (line.Refused n))) number refused.1 in
    closed _ _ _ _ _ r.lines (line.Refused c.loop-number.number) ending.Refused _ _ c.close-in-Refused.result refused.0 finishes c.close-in-Refused.ensures.counts c.close-in-Refused.ensures.front c.close-in-Refused.ensures.ending
    (λ put. (r.lines, c.loop-number.number, put, finishes))

pub loop-number-preserved : goal.loop-number-preserved
loop-number-preserved g c =
    let r = c.loop-number.invariant.0 in
    let on = subst (λ (t : Turn). Turns (g.S.Source.left c.args.input.now) (g.S.Source.left c.turn.new.input) (g.K.Sink.held c.args.output.now) (g.K.Sink.held c.turn.new.output) r.done r.lines c.turn.new.self (Ok t)) c.in-On.is ((c.in_ok-turn.ensures {u = tt}).turns _ _ r.done r.lines r.stood (omega (arith, r.read, c.loop-number-test.true, c.loop-number.auto.number))) in
    let counts = (c.in_ok-turn.ensures {u = tt}).counts in
    (record { done = r.done ++ on.0 ∷ []; lines = r.lines ++ on.1; stood = on.2; read = omega (arith, r.read, length_push r.done on.0, c.loop-number.auto.number) }, counts.0 ∙ c.loop-number.invariant.1, counts.1 ∙ c.loop-number.invariant.2)

pub returns-clause-replays : goal.returns-clause-replays
returns-clause-replays g c =
    let r = c.loop-number.invariant.0 in
    let beyond : MAX_LINES ≤ length r.done = omega (arith, r.read, c.loop-number-test.false) in
    let read : length r.done + 1 ≡ MAX_LINES + 1 = omega (arith, r.read, c.loop-number-test.false, c.loop-number.auto.number) in
    let finishes = subst (λ (n : ℕ). OfSchedule (g.S.Source.left c.args.input.now) (λ schedule. Finishes schedule r.lines (line.Refused n))) read (refuses_past r.stood beyond) in
    closed _ _ _ _ _ r.lines (line.Refused (MAX_LINES + 1)) ending.Refused _ _ c.close-2.result r.stood.put finishes c.close-2.ensures.counts c.close-2.ensures.front c.close-2.ensures.ending
    (λ put. (r.lines, MAX_LINES + 1, put, finishes))
