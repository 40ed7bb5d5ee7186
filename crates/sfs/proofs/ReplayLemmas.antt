-- The turns of a replay: what each of them makes of the transcript.
use Rattle.std.proofs.Common.{◌≡◌, ℕ, zero, suc, ◌+◌, ◌<◌, ◌≤◌, Bool, true, false, cond, ltb, List, [], ◌∷◌, ◌++◌, length, map, Option, Some, None, Ok, Err, refl, sym, ap, subst, ◌∙◌, append_assoc, arith}
use Rattle.std.specs.Prelude.{slice_get, option_and_then, ◌==◌}
use Rattle.std.specs.List.{AllByRecursion}
use Rattle.std.proofs.lemmas.Bool.{le-ltb}
use Rattle.std.proofs.lemmas.List.{append-nil, length-map, length_push, map-append}
use Rattle.std.proofs.lemmas.List.Sums.{sum_by-append}
use Rattle.fs_rules.specs.declared.geometry.Geometry.{Geometry}
use Rattle.schedule_text.specs.Stream.{Puts}
use Rattle.event_text.specs.declared.event.Event.{Event}
use Rattle.event_text.specs.declared.event.Event.TheVariants as event
use Rattle.line_words.specs.declared.limits.TheConstants.{MAX_LINES}
use Rattle.line_text.specs.declared.line.Line.{Line}
use Rattle.line_text.specs.declared.line.Line.TheVariants as line
use Rattle.schedule_text.proofs.StreamLemmas.{Puts-append}
use Rattle.sfs.specs.declared.replay.Replay.{Replay}
use Rattle.line_stream.specs.declared.schedule_reader.ScheduleReader.{ScheduleReader}
use Rattle.sfs.specs.declared.step.Step.{Step}
use Rattle.sfs.specs.declared.step.Step.TheVariants.{On, Ended, Refused}
use Rattle.line_stream.specs.declared.stop.Stop.{Stop}
use Rattle.line_stream.specs.declared.stop.Stop.TheVariants.{ReadFault, WriteFault, NoMemory}
use Rattle.sfs.specs.declared.world.World.{World}
use Rattle.line_stream.specs.LineReader.{CountsReads}
use Rattle.line_stream.specs.Lines.{IsOneLine}
use Rattle.line_stream.specs.Output.{WritesFront}
use Rattle.sfs.specs.Schedule.{Schedule, event_in, schedule_of, cluster_of}
use Rattle.line_stream.specs.ScheduleReader.{unlines, HasRead, IsNoEvent, NoneFollows, FailsAfter, ReadsEvent}
use Rattle.sfs.specs.Book.{Book, come_from, next_event, opened, noted, book_after}
use Rattle.sfs.specs.Legal.{IsAllowed, IsLegal, IsLegalFrom, text_of}
use Rattle.sfs.specs.World.{Stands, GoesOn, Steps}
use Rattle.line_stream.specs.Output.{CountsWrites}
use Rattle.sfs.specs.Replay.{Counts, Follows, Stood, Finishes, FailsToRead, BreaksOff, Stopped, OfSchedule, AreAllUnder, book_of, line_ends}
use Rattle.sfs.proofs.BookLemmas.{book_after-append, legal-append, text-append}
use Rattle.line_stream.proofs.ScheduleLemmas.{told_lines, get_behind}

-- ---- the schedule behind the lines that were read

-- a text that is told goes on behind them
pub goes_behind : (before now : Option (List ℕ)) (done : List (List ℕ)) (r : ScheduleReader) (text : List ℕ) → HasRead before now done r → before ≡ Some text
    → (behind : Schedule) × (schedule_of text ≡ map event_in done ++ behind)
goes_behind before now done r text read is =
    let t = told_lines before now done r text read is in
    (map event_in t.0, ap (map event_in) t.1 ∙ map-append event_in done t.0)

-- the place behind the lines that were read
place_behind : (done : List (List ℕ)) (said : Option Event) (behind : Schedule) → slice_get (map event_in done ++ said ∷ behind) (length done) ≡ Some said
place_behind done said behind = ap (slice_get (map event_in done ++ said ∷ behind)) (sym (length-map done event_in)) ∙ get_behind (map event_in done) said behind

-- one line more that says an event
one_more : (done : List (List ℕ)) (l : List ℕ) (e : Event) (behind : Schedule) → event_in l ≡ Some e → map event_in done ++ Some e ∷ behind ≡ map event_in (done ++ l ∷ []) ++ behind
one_more done l e behind says =
    sym (ap (λ (s : Schedule). s ++ behind) (map-append event_in done (l ∷ [])) ∙ append_assoc (map event_in done) (event_in l ∷ []) behind
    ∙ ap (λ (o : Option Event). map event_in done ++ o ∷ behind) says)

-- ---- the last line of a transcript

last_is_legal : (schedule : Schedule) (lines : List Line) (last : Line) → IsLegal schedule lines → IsAllowed schedule (book_of schedule lines) last → IsLegal schedule (lines ++ last ∷ [])
unfolding IsLegalFrom
last_is_legal schedule lines last legal allowed = legal-append schedule (opened schedule) lines (last ∷ []) legal (allowed, tt)

-- `end`
pub ends : (schedule : Schedule) (count : ℕ) (lines : List Line) (w : World) → Follows schedule count lines w
    → next_event schedule (book_of schedule lines) ≡ Some event.End → Finishes schedule lines line.End
ends schedule count lines w f next = last_is_legal schedule lines line.End f.legal (record { rest = f.stands.rest; event = next })

-- `refused N`
pub refuses : (schedule : Schedule) (count : ℕ) (lines : List Line) (w : World) → Follows schedule count lines w
    → next_event schedule (book_of schedule lines) ≡ None → Finishes schedule lines (line.Refused (count + 1))
refuses schedule count lines w f next =
    last_is_legal schedule lines (line.Refused (count + 1)) f.legal
    (record { rest = f.stands.rest; number_is = ap (λ (n : ℕ). n + 1) (sym f.used); none = next })

-- where a place has no event, none comes
none_comes : (schedule : Schedule) (book : Book) → IsNoEvent (slice_get schedule book.lines) → next_event schedule book ≡ None
unfolding next_event
none_comes schedule book none = by_cluster (cluster_of schedule)
  where
    at_place : (g : Geometry) (o : Option (Option Event)) → IsNoEvent o → option_and_then (come_from g book) o ≡ None
    at_place g None h = refl
    at_place g (Some None) h = refl
    at_place g (Some (Some e)) h = absurd h

    either : (b : Bool) (o : Option Event) → o ≡ None → cond b o None ≡ None
    either true o is = is
    either false o is = refl

    by_cluster : (c : Option Geometry) → option_and_then (λ g. cond (ltb book.lines MAX_LINES) (option_and_then (come_from g book) (slice_get schedule book.lines)) None) c ≡ None
    by_cluster None = refl
    by_cluster (Some g) = either (ltb book.lines MAX_LINES) (option_and_then (come_from g book) (slice_get schedule book.lines)) (at_place g (slice_get schedule book.lines) none)

-- and none comes behind the limit
none_beyond : (schedule : Schedule) (book : Book) → MAX_LINES ≤ book.lines → next_event schedule book ≡ None
unfolding next_event
none_beyond schedule book beyond = by_cluster (cluster_of schedule)
  where
    by_cluster : (c : Option Geometry) → option_and_then (λ g. cond (ltb book.lines MAX_LINES) (option_and_then (come_from g book) (slice_get schedule book.lines)) None) c ≡ None
    by_cluster None = refl
    by_cluster (Some g) = ap (λ b. cond b (option_and_then (come_from g book) (slice_get schedule book.lines)) None) (le-ltb book.lines MAX_LINES beyond)

-- where no event stands behind the lines that were read
pub refuses_none : (done : List (List ℕ)) (behind : Schedule) (lines : List Line) (w : World) → Follows (map event_in done ++ behind) (length done) lines w
    → IsNoEvent (slice_get (map event_in done ++ behind) (length done)) → Finishes (map event_in done ++ behind) lines (line.Refused (length done + 1))
refuses_none done behind lines w f none =
    refuses (map event_in done ++ behind) (length done) lines w f
    (none_comes (map event_in done ++ behind) (book_of (map event_in done ++ behind) lines) (subst (λ (n : ℕ). IsNoEvent (slice_get (map event_in done ++ behind) n)) (sym f.used) none))

-- where the limit of lines is reached
pub refuses_beyond : (schedule : Schedule) (count : ℕ) (lines : List Line) (w : World) → Follows schedule count lines w → MAX_LINES ≤ count
    → Finishes schedule lines (line.Refused (count + 1))
refuses_beyond schedule count lines w f beyond =
    refuses schedule count lines w f (none_beyond schedule (book_of schedule lines) (omega (arith, beyond, f.used)))

-- where the schedule begins with no cluster
pub refuses_first : (schedule : Schedule) → cluster_of schedule ≡ None → Finishes schedule [] (line.Refused 1)
unfolding book_after next_event IsLegalFrom
refuses_first schedule none =
    last_is_legal schedule [] (line.Refused 1) tt (record {
      rest = record { ongoing = ap (λ (b : Book). b.closed) at_first; ended = ap (λ (b : Book). length b.ended) at_first ∙ sym (ap (λ (b : Book). length b.arrivals) at_first) };
      number_is = ap (λ (b : Book). b.lines + 1) (sym at_first);
      none = ap (option_and_then _) none;
    })
  where
    at_first : opened schedule ≡ record { lines = 0; arrivals = []; points = []; trees = []; ended = []; closed = false }
    at_first = ap (λ c. Rattle.sfs.specs.Book.opened_at c) none

-- ---- one event handled

-- its lines are legal behind the others
pub more_legal : (schedule : Schedule) (count : ℕ) (lines more : List Line) (w after : World) → Follows schedule count lines w
    → GoesOn schedule (book_of schedule lines) after more → IsLegal schedule (lines ++ more)
more_legal schedule count lines more w after f goes = legal-append schedule (opened schedule) lines more f.legal goes.legal

pub goes_on : (schedule : Schedule) (count : ℕ) (lines more : List Line) (w after : World) → Follows schedule count lines w
    → GoesOn schedule (book_of schedule lines) after more → Follows schedule (count + 1) (lines ++ more) after
goes_on schedule count lines more w after f goes = record {
  legal = more_legal schedule count lines more w after f goes;
  stands = subst (λ (b : Book). Stands schedule b after) (sym both) goes.stands;
  used = ap (λ (b : Book). b.lines) both ∙ goes.used ∙ ap (λ (n : ℕ). n + 1) f.used;
}
  where
    both : book_of schedule (lines ++ more) ≡ book_after schedule (book_of schedule lines) more
    both = book_after-append schedule (opened schedule) lines more

-- ---- where the source failed

ends-append : (xs ys : List ℕ) → line_ends (xs ++ ys) ≡ line_ends xs + line_ends ys
ends-append xs ys = sum_by-append (λ b. cond (b == 10) 1 0) xs ys

ends_of_line : (l : List ℕ) → IsOneLine l → line_ends l ≡ 0
ends_of_line [] whole = refl
ends_of_line (b ∷ l) whole = omega (arith, ends-append (b ∷ []) l, none b whole.0, ends_of_line l whole.1)
  where
    none : (b : ℕ) → (b == 10) ≡ false → line_ends (b ∷ []) ≡ 0
    none b is = ap (λ t. 0 + cond t 1 0) is

ends_of_lines : (done : List (List ℕ)) (rest : List ℕ) → AllByRecursion IsOneLine done → IsOneLine rest → line_ends (unlines done ++ rest) ≡ length done
unfolding unlines
ends_of_lines [] rest each whole = ends_of_line rest whole
ends_of_lines (l ∷ done) rest each whole =
    let apart = ends-append (unlines (l ∷ done)) rest in
    let line_apart = ends-append (l ++ 10 ∷ []) (unlines done) in
    let end_apart = ends-append l (10 ∷ []) in
    omega (arith, apart, line_apart, end_apart, ends-append (unlines done) rest, ends_of_line l each.0, ends_of_lines done rest each.1 whole)

-- so many lines end in what was taken
ends_taken : (left now : Option (List ℕ)) (done : List (List ℕ)) → AllByRecursion IsOneLine done → (failed : FailsAfter left now done) → line_ends failed.taken ≡ length done
ends_taken left now done each failed = ap line_ends failed.parts ∙ ends_of_lines done failed.rest each failed.unended

pub fails_to_read : (left now held held' : Option (List ℕ)) (done : List (List ℕ)) (lines : List Line) → AllByRecursion IsOneLine done → FailsAfter left now done → Puts held held' (text_of lines)
    → OfSchedule left (λ schedule. IsLegal schedule lines) → OfSchedule left (λ schedule. AreAllUnder schedule lines (length done)) → FailsToRead left now held held' lines
fails_to_read left now held held' done lines each failed put legal whole = record {
  put = put;
  legal = legal;
  taken = failed.taken;
  takes = failed.takes;
  whole = λ text told. subst (AreAllUnder (schedule_of text) lines) (sym (ends_taken left now done each failed)) (whole text told);
}

-- all lines under those that were read were written, where at least one was
pub all_under : (schedule : Schedule) (count : ℕ) (lines : List Line) (w : World) → Follows schedule count lines w → 1 ≤ count → AreAllUnder schedule lines count
all_under schedule zero lines w f some = absurd (omega (arith, some))
all_under schedule (suc count) lines w f some = record { over = f.stands.rest; behind = f.used }

-- ---- the counts and what was written

-- a read that was stopped leaves the sink's count
pub read_counts : (X Y : Type 0) (read read' written written' : ℕ) (stop : Stop) → CountsReads {X = X} read read' (Err stop) → written' ≡ written → Counts {X = Y} read read' written written' (Err stop)
read_counts X Y read read' written written' ReadFault counts same = (counts, same)
read_counts X Y read read' written written' WriteFault counts same = absurd counts
read_counts X Y read read' written written' NoMemory counts same = (counts, same)

-- a write that was stopped leaves the source's count
pub write_counts : (X Y : Type 0) (read read' written written' : ℕ) (stop : Stop) → CountsWrites {X = X} written written' (Err stop) → read' ≡ read → Counts {X = Y} read read' written written' (Err stop)
write_counts X Y read read' written written' ReadFault counts same = absurd counts
write_counts X Y read read' written written' WriteFault counts same = (same, counts)
write_counts X Y read read' written written' NoMemory counts same = (same, counts)

-- lines, and behind them a front of more
pub written : {held now after : Option (List ℕ)} (lines more : List Line) (rest : List ℕ) → Puts held now (text_of lines) → WritesFront now after (text_of more) rest
    → WritesFront held after (text_of (lines ++ more)) rest
written lines more rest put front = record {
  front = text_of lines ++ front.front;
  parts = text-append lines more ∙ ap (λ (t : List ℕ). text_of lines ++ t) front.parts ∙ sym (append_assoc (text_of lines) front.front rest);
  put = Puts-append put front.put;
}

-- and more in whole
pub written_whole : {held now after : Option (List ℕ)} (lines more : List Line) (rest : List ℕ) → Puts held now (text_of lines) → WritesFront now after (text_of more) rest → rest ≡ []
    → Puts held after (text_of (lines ++ more))
written_whole {held} {now} {after} lines more rest put front none =
    subst (Puts held after) (sym (text-append lines more ∙ ap (λ (t : List ℕ). text_of lines ++ t) (front.parts ∙ ap (λ (t : List ℕ). front.front ++ t) none ∙ append-nil front.front))) (Puts-append put front.put)

-- what a step makes of the world, in each schedule
abbrev pub StepsAll : World → Event → World → Step → Type 0
StepsAll before e after s =
    (schedule : Schedule) (book : Book) → Stands schedule book before → book.lines < MAX_LINES → slice_get schedule book.lines ≡ Some (Some e) → Steps schedule book after (Ok s)

-- ---- a turn

module _ {left now held held' : Option (List ℕ)} {done : List (List ℕ)} {lines : List Line} {p : Replay} (stood : Stood left now held held' done lines p) where
  -- what is legal for each schedule that goes on so is legal for the one of the text
  pub of_schedule : (P : Schedule → Type 0) → ((behind : Schedule) → P (map event_in done ++ behind)) → OfSchedule left P
  of_schedule P each text is =
      let b = goes_behind left now done p.reader text stood.read is in
      subst P (sym b.1) (each b.0)

  pub legal_so_far : OfSchedule left (λ schedule. IsLegal schedule lines)
  legal_so_far = of_schedule (λ schedule. IsLegal schedule lines) (λ behind. (stood.follows behind).legal)

  pub breaks_off : BreaksOff left held held' lines
  breaks_off = record {
    rest = [];
    front = record { front = text_of lines; parts = sym (append-nil (text_of lines)); put = stood.put };
    legal = legal_so_far;
  }

  pub fails : (after : Option (List ℕ)) → FailsAfter left after done → FailsToRead left after held held' lines
  fails after failed =
      fails_to_read left after held held' done lines stood.read.each failed stood.put legal_so_far
      (of_schedule (λ schedule. AreAllUnder schedule lines (length done)) (λ behind. all_under (map event_in done ++ behind) (length done) lines p.world (stood.follows behind) stood.some))

  pub none_follows : NoneFollows left done → OfSchedule left (λ schedule. Finishes schedule lines (line.Refused (length done + 1)))
  none_follows none text is =
      let b = goes_behind left now done p.reader text stood.read is in
      subst (λ (s : Schedule). Finishes s lines (line.Refused (length done + 1))) (sym b.1)
      (refuses_none done b.0 lines p.world (stood.follows b.0) (subst (λ (s : Schedule). IsNoEvent (slice_get s (length done))) b.1 (none text is)))

  pub refuses_past : MAX_LINES ≤ length done → OfSchedule left (λ schedule. Finishes schedule lines (line.Refused (length done + 1)))
  refuses_past beyond =
      of_schedule (λ schedule. Finishes schedule lines (line.Refused (length done + 1)))
      (λ behind. refuses_beyond (map event_in done ++ behind) (length done) lines p.world (stood.follows behind) beyond)

  -- reading the next event was stopped
  pub read_stopped : (after : Option (List ℕ)) (reader : ScheduleReader) (stop : Stop) → ReadsEvent left after done reader (Err stop) → Stopped left after held held' stop
  read_stopped after reader ReadFault reads = (lines, fails after reads)
  read_stopped after reader WriteFault reads = absurd reads
  read_stopped after reader NoMemory reads = (lines, breaks_off)

  -- writing the lines of an event was stopped
  pub write_stopped : (after : Option (List ℕ)) (more : List Line) (counted counted' : ℕ) (held'' : Option (List ℕ)) (stop : Stop) → OfSchedule left (λ schedule. IsLegal schedule (lines ++ more))
      → CountsWrites {X = Unit {0}} counted counted' (Err stop) → (rest : List ℕ) × WritesFront held' held'' (text_of more) rest × Unit {0} → Stopped left after held held'' stop
  write_stopped after more counted counted' held'' ReadFault legal counts front = absurd counts
  write_stopped after more counted counted' held'' WriteFault legal counts front = (lines ++ more, record { rest = front.0; front = written lines more front.0 stood.put front.1; legal = legal })
  write_stopped after more counted counted' held'' NoMemory legal counts front = (lines ++ more, record { rest = front.0; front = written lines more front.0 stood.put front.1; legal = legal })

  module _ (after : Option (List ℕ)) (l : List ℕ) (e : Event) (says : event_in l ≡ Some e) (reader : ScheduleReader) (read : HasRead left after (done ++ l ∷ []) reader) (within : length done < MAX_LINES) where
    -- the place of the event, in a schedule that goes on so
    pub event_there : (behind : Schedule) → let schedule = map event_in done ++ Some e ∷ behind in slice_get schedule (book_of schedule lines).lines ≡ Some (Some e)
    event_there behind =
        let schedule = map event_in done ++ Some e ∷ behind in
        ap (slice_get schedule) (stood.follows (Some e ∷ behind)).used ∙ place_behind done (Some e) behind

    -- what holds of each schedule in which the event follows holds of the one of the text
    pub with_event : (P : Schedule → Type 0) → ((behind : Schedule) → P (map event_in done ++ Some e ∷ behind)) → OfSchedule left P
    with_event P each text is =
        let b = goes_behind left after (done ++ l ∷ []) reader text read is in
        subst P (one_more done l e b.0 says ∙ sym b.1) (each b.0)

    -- what the event makes of the world, in a schedule that goes on so
    pub steps_at : (w : World) (s : Step)
        → StepsAll p.world e w s
        → (behind : Schedule) → let schedule = map event_in done ++ Some e ∷ behind in Steps schedule (book_of schedule lines) w (Ok s)
    steps_at w s steps behind =
        let schedule = map event_in done ++ Some e ∷ behind in
        let f = stood.follows (Some e ∷ behind) in
        steps schedule (book_of schedule lines) f.stands (omega (arith, f.used, within)) (event_there behind)

    -- it is handled, and its lines are written
    pub stands_on : (w : World) (more : List Line) (held'' : Option (List ℕ)) (rest : List ℕ)
        → ((behind : Schedule) → let schedule = map event_in done ++ Some e ∷ behind in Steps schedule (book_of schedule lines) w (Ok (On more)))
        → WritesFront held' held'' (text_of more) rest → rest ≡ [] → Stood left after held held'' (done ++ l ∷ []) (lines ++ more) (record { reader = reader; world = w })
    stands_on w more held'' rest steps front none = record {
      read = read;
      put = written_whole lines more rest stood.put front none;
      follows = λ behind.
          subst (λ (s : Schedule). Follows s (length (done ++ l ∷ [])) (lines ++ more) w) (one_more done l e behind says)
          (subst (λ (n : ℕ). Follows (map event_in done ++ Some e ∷ behind) n (lines ++ more) w) (sym (length_push done l))
          (goes_on (map event_in done ++ Some e ∷ behind) (length done) lines more p.world w (stood.follows (Some e ∷ behind)) (steps behind)));
      some = omega (arith, length_push done l);
    }

    -- its lines are legal behind the others
    pub legal_on : (w : World) (more : List Line) → ((behind : Schedule) → let schedule = map event_in done ++ Some e ∷ behind in Steps schedule (book_of schedule lines) w (Ok (On more)))
        → OfSchedule left (λ schedule. IsLegal schedule (lines ++ more))
    legal_on w more steps =
        with_event (λ schedule. IsLegal schedule (lines ++ more))
        (λ behind. more_legal (map event_in done ++ Some e ∷ behind) (length done) lines more p.world w (stood.follows (Some e ∷ behind)) (steps behind))

    -- it ends the schedule
    pub ends_here : (w : World) → ((behind : Schedule) → let schedule = map event_in done ++ Some e ∷ behind in Steps schedule (book_of schedule lines) w (Ok Ended))
        → OfSchedule left (λ schedule. Finishes schedule lines line.End)
    ends_here w steps =
        with_event (λ schedule. Finishes schedule lines line.End)
        (λ behind. ends (map event_in done ++ Some e ∷ behind) (length done) lines p.world (stood.follows (Some e ∷ behind)) (steps behind))

    -- it may not come
    pub refuses_here : (w : World) → ((behind : Schedule) → let schedule = map event_in done ++ Some e ∷ behind in Steps schedule (book_of schedule lines) w (Ok Refused))
        → OfSchedule left (λ schedule. Finishes schedule lines (line.Refused (length done + 1)))
    refuses_here w steps =
        with_event (λ schedule. Finishes schedule lines (line.Refused (length done + 1)))
        (λ behind. refuses (map event_in done ++ Some e ∷ behind) (length done) lines p.world (stood.follows (Some e ∷ behind)) (steps behind))
