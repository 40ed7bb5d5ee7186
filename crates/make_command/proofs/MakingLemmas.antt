-- The steps of writing a schedule.
use Rattle.std.proofs.Common.{◌≡◌, ℕ, ◌<◌, List, [], ◌∷◌, ◌++◌, length, Option, Some, Err, refl, sym, ap, subst, ◌∙◌, append_assoc, arith}
use Rattle.std.specs.List.{AllByRecursion}
use Rattle.std.proofs.lemmas.List.{append-nil}
use Rattle.schedule_text.proofs.StreamLemmas.{Puts-append, Puts-none}
use Rattle.event_text.specs.declared.event.Event.{Event}
use Rattle.event_text.specs.Grammar.{IsWritableEvent, spelling_of_event}
use Rattle.schedule_maker.specs.Making.{FirstOf}
use Rattle.line_stream.specs.Output.{WritesFront, CountsWrites}
use Rattle.line_stream.specs.declared.stop.Stop.{Stop}
use Rattle.line_stream.specs.declared.stop.Stop.TheVariants.{ReadFault, WriteFault, NoMemory}
use Rattle.make_command.specs.declared.making.Making.{Making}
use Rattle.make_command.specs.Made.{text_of}
use Rattle.make_command.specs.Making.{Stands, Pushed, BreaksOff}

-- the text of one more event
text_of-more : (e : Event) (es : List Event) → text_of (e ∷ es) ≡ (spelling_of_event e ++ 10 ∷ []) ++ text_of es
unfolding text_of
text_of-more e es = refl

-- the text of no event
text_of-none : text_of [] ≡ []
unfolding text_of
text_of-none = refl

-- the first of some events that all have spellings has one
pub first_writable : (old new : List Event) (e : Event) → FirstOf old new (Some e) → AllByRecursion IsWritableEvent old → IsWritableEvent e
first_writable old new e is each = (subst (AllByRecursion IsWritableEvent) is each).0

-- what was counted at a stop is that of an answer of any type, from an earlier moment with the same count on
pub still_counts : (X Y : Type 0) (first before now : ℕ) (s : Stop) → before ≡ first → CountsWrites {X = X} before now (Err s) → CountsWrites {X = Y} first now (Err s)
still_counts X Y first before now s same counts = subst (λ (n : ℕ). CountsWrites {X = Y} n now (Err s)) same (by_stop s counts)
  where
    by_stop : (s : Stop) → CountsWrites {X = X} before now (Err s) → CountsWrites {X = Y} before now (Err s)
    by_stop ReadFault h = h
    by_stop WriteFault h = h
    by_stop NoMemory h = h

-- before the first turn
pub begun : (held : Option (List ℕ)) (m : Making) (events : List Event) → m.generator ≡ events → m.text.items ≡ [] → AllByRecursion IsWritableEvent events
    → Stands held held (text_of events) m
begun held m events is none each = record {
  written = [];
  put = Puts-none;
  parts = ap text_of (sym is) ∙ ap (λ (t : List ℕ). t ++ text_of m.generator) (sym none);
  each = subst (AllByRecursion IsWritableEvent) (sym is) each;
}

module _ (before now : Option (List ℕ)) (whole : List ℕ) (old new : Making) (so : Stands before now whole old) where
  -- the line of the next event was gathered
  pub gathered : Pushed old new → Stands before now whole new × (length new.generator < length old.generator)
  gathered p =
      let line = spelling_of_event p.event ++ 10 ∷ [] in
      let each = subst (AllByRecursion IsWritableEvent) p.next so.each in (
        record {
          written = so.written;
          put = so.put;
          parts = so.parts ∙ ap (λ (es : List Event). so.written ++ (old.text.items ++ text_of es)) p.next
              ∙ ap (λ (t : List ℕ). so.written ++ (old.text.items ++ t)) (text_of-more p.event new.generator)
              ∙ ap (λ (t : List ℕ). so.written ++ t) (sym (append_assoc old.text.items line (text_of new.generator)))
              ∙ ap (λ (t : List ℕ). so.written ++ (t ++ text_of new.generator)) (sym p.text);
          each = each.1;
        },
        omega (arith, ap (length {A = Event}) p.next),
      )

  -- no event was left
  pub ended : (old.generator ≡ []) × (new.generator ≡ []) × (new.text.items ≡ old.text.items) → Stands before now whole new × (new.generator ≡ [])
  ended h = (
    record {
      written = so.written;
      put = so.put;
      parts = so.parts ∙ ap (λ (t : List ℕ). so.written ++ (t ++ text_of old.generator)) (sym h.2) ∙ ap (λ (es : List Event). so.written ++ (new.text.items ++ text_of es)) (h.0 ∙ sym h.1);
      each = subst (AllByRecursion IsWritableEvent) (h.0 ∙ sym h.1) so.each;
    },
    h.1,
  )

  -- where nothing more was written, a front of the whole text was
  pub stopped : BreaksOff before now whole
  stopped = (old.text.items ++ text_of old.generator, record { front = so.written; parts = so.parts; put = so.put })

  -- some of what is gathered was written
  pub flushed_front : (after : Option (List ℕ)) (rest : List ℕ) → WritesFront now after old.text.items rest
      → WritesFront before after whole (rest ++ text_of old.generator)
  flushed_front after rest w = record {
    front = so.written ++ w.front;
    parts = so.parts ∙ ap (λ (t : List ℕ). so.written ++ (t ++ text_of old.generator)) w.parts
        ∙ ap (λ (t : List ℕ). so.written ++ t) (append_assoc w.front rest (text_of old.generator))
        ∙ sym (append_assoc so.written w.front (rest ++ text_of old.generator));
    put = Puts-append so.put w.put;
  }

  -- a front of the whole text was
  pub broken : (after : Option (List ℕ)) (rest : List ℕ) → WritesFront now after old.text.items rest → BreaksOff before after whole
  broken after rest w = (rest ++ text_of old.generator, flushed_front after rest w)

  -- all of what is gathered was written
  pub flushed : (after : Option (List ℕ)) (rest : List ℕ) → WritesFront now after old.text.items rest → rest ≡ [] → new.text.items ≡ [] → new.generator ≡ old.generator
      → Stands before after whole new
  flushed after rest w none text same =
      let f = flushed_front after rest w in
      record {
        written = f.front;
        put = f.put;
        parts = f.parts ∙ ap (λ (t : List ℕ). f.front ++ (t ++ text_of old.generator)) (none ∙ sym text) ∙ ap (λ (es : List Event). f.front ++ (new.text.items ++ text_of es)) (sym same);
        each = subst (AllByRecursion IsWritableEvent) (sym same) so.each;
      }

  -- the last of it was written, where no event is left
  pub finished : (after : Option (List ℕ)) (rest : List ℕ) → old.generator ≡ [] → WritesFront now after old.text.items rest → WritesFront before after whole rest
  finished after rest none w =
      subst (WritesFront before after whole) (ap (λ (es : List Event). rest ++ text_of es) none ∙ ap (λ (t : List ℕ). rest ++ t) text_of-none ∙ append-nil rest) (flushed_front after rest w)
