-- The events of a schedule have spellings.
use Rattle.std.proofs.Common.{◌≡◌, ℕ, zero, suc, ◌+◌, ◌<◌, ◌%◌, ◌/◌, ◌^◌, ◌==◌, Bool, true, false, cond, List, [], ◌∷◌, ◌++◌, Result, Ok, Err, refl, sym, ap, ◌∙◌, append_assoc, arith}
use Rattle.std.specs.Prelude.{OnOk}
use Rattle.event_text.specs.declared.event.Event.TheVariants as event
use Rattle.schedule_maker.specs.declared.turn_draws.TurnDraws.{TurnDraws}
use Rattle.std.specs.List.{AllByRecursion}
use Rattle.event_text.specs.declared.event.Event.{Event}
use Rattle.event_text.specs.Grammar.{IsWritableEvent}
use Rattle.schedule_maker.specs.Draws.{drawn, next_number}
use Rattle.schedule_maker.specs.Making.{arrival_of, draws_of, crash_events, fault_events, turn_events, after_turn, turns, last_events, schedule, call_of, datagram_of}
use Rattle.schedule_maker.specs.Left.{left_at, left_of}
use Rattle.schedule_maker.specs.declared.stage.Stage.TheVariants as stage
use Rattle.schedule_maker.specs.declared.turns.Turns.{Turns}
use Rattle.schedule_maker.proofs.AskingLemmas.{few_arguments, datagram_sized}

-- events and more events
both : (es more : List Event) → AllByRecursion IsWritableEvent es → AllByRecursion IsWritableEvent more → AllByRecursion IsWritableEvent (es ++ more)
both [] more first second = second
both (e ∷ es) more first second = (first.0, both es more first.1 second)

drawn_below : (x : ℕ) → drawn x 16 < 16
unfolding drawn
drawn_below x = omega arith

fault_writable : (fault x : ℕ) → AllByRecursion IsWritableEvent (fault_events fault x)
unfolding fault_events
fault_writable fault x = go (fault == 0)
  where
    go : (b : Bool) → AllByRecursion IsWritableEvent (cond b (crash_events (drawn (next_number x) 4)) [])
    go true = (tt, (tt, (tt, tt)))
    go false = tt

turn_writable : (i x : ℕ) → AllByRecursion IsWritableEvent (turn_events i x)
unfolding turn_events draws_of
turn_writable i x =
    let a = next_number x in
    let b = next_number a in
    let c = next_number b in
    let d = next_number c in
    let e = next_number d in
    (datagram_sized i (call_of (drawn b 8) (drawn c 16)) (few_arguments (drawn b 8) (drawn c 16) (drawn_below c)), (tt, fault_writable (drawn e 16) e))

turns_writable : (count i x : ℕ) → AllByRecursion IsWritableEvent (turns count i x)
unfolding turns
turns_writable zero i x = (tt, (tt, (tt, (tt, (tt, (tt, tt))))))
turns_writable (suc count) i x = both (turn_events i x) (turns count (i + 1) (after_turn x)) (turn_writable i x) (turns_writable count (i + 1) (after_turn x))

pub schedule_writable : (seed count : ℕ) → AllByRecursion IsWritableEvent (schedule seed count)
schedule_writable seed count = (tt, turns_writable count 1 seed)

-- ---- the next turn

-- the events of so many turns are those of the first and of the others
one_turn : (count i x : ℕ) → turns (suc count) i x ≡ turn_events i x ++ turns count (i + 1) (after_turn x)
unfolding turns
one_turn count i x = refl

-- a turn was taken
pub turn_taken : (old new : Turns) (events : List Event) → old.stage ≡ stage.Turns → new.stage ≡ old.stage → new.left + 1 ≡ old.left → new.made ≡ old.made + 1
    → events ≡ turn_events (old.made + 1) old.x → new.x ≡ after_turn old.x → left_of old ≡ events ++ left_of new
turn_taken old new events at stays less more is number =
    let count : old.left ≡ suc new.left = omega (arith, less) in
    ap (λ s. left_at s old.left (old.made + 1) old.x) at
    ∙ ap (λ (n : ℕ). turns n (old.made + 1) old.x) count
    ∙ one_turn new.left (old.made + 1) old.x
    ∙ ap (λ (es : List Event). es ++ turns new.left (old.made + 1 + 1) (after_turn old.x)) (sym is)
    ∙ ap (λ (n : ℕ). events ++ turns new.left (n + 1) (after_turn old.x)) (sym more)
    ∙ ap (λ (y : ℕ). events ++ turns new.left (new.made + 1) y) (sym number)
    ∙ ap (λ s. events ++ left_at s new.left (new.made + 1) new.x) (sym (stays ∙ at))

-- it has events
pub turn_some : (i x : ℕ) (events : List Event) (P : Type 0) → events ≡ turn_events i x → events ≡ [] → P
unfolding turn_events
turn_some i x events P is none = cc (is, none)

-- a turn was put behind other events
pub turn_pushed : {E : Type 0} (r : Result ℕ E) (old between now : List Event) (i x : ℕ) (a : Event) (t : TurnDraws) → t ≡ draws_of x → a ≡ arrival_of i t
    → between ≡ old ++ a ∷ event.Drain (t.drain + 1) ∷ [] → OnOk r (now ≡ between ++ fault_events t.fault t.last) → OnOk r (now ≡ old ++ turn_events i x)
unfolding turn_events
turn_pushed (Ok y) old between now i x a t draws arrives begun made =
    made ∙ ap (λ (es : List Event). es ++ fault_events t.fault t.last) begun
    ∙ append_assoc old (a ∷ event.Drain (t.drain + 1) ∷ []) (fault_events t.fault t.last)
    ∙ ap (λ (b : Event). old ++ b ∷ event.Drain (t.drain + 1) ∷ fault_events t.fault t.last) arrives
    ∙ ap (λ (d : TurnDraws). old ++ arrival_of i d ∷ event.Drain (d.drain + 1) ∷ fault_events d.fault d.last) draws
turn_pushed (Err e) old between now i x a t draws arrives begun made = tt
