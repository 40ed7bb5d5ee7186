-- The first line of a schedule, and the world that it opens.
use Rattle.std.proofs.Common.{◌≡◌, ℕ, true, false, List, [], ◌∷◌, ◌++◌, Option, Some, None, Result, Ok, Err, refl, sym, ap, subst, ◌∙◌, arith}
use Rattle.std.specs.Prelude.{slice_get, OnOk, IfOk}
use Rattle.fs_rules.specs.Fresh.{fresh}
use Rattle.fs_rules.specs.declared.geometry.Geometry.{Geometry}
use Rattle.schedule_text.specs.Stream.{Puts}
use Rattle.schedule_text.proofs.StreamLemmas.{Takes-none, Puts-none}
use Rattle.event_text.specs.declared.event.Event.{Event}
use Rattle.line_text.specs.declared.line.Line.{Line}
use Rattle.line_text.specs.declared.line.Line.TheVariants as line
use Rattle.sfs.specs.declared.ending.Ending.{Ending}
use Rattle.line_stream.specs.declared.schedule_reader.ScheduleReader.{ScheduleReader}
use Rattle.line_stream.specs.declared.stop.Stop.{Stop}
use Rattle.line_stream.specs.declared.stop.Stop.TheVariants.{ReadFault, WriteFault, NoMemory}
use Rattle.sfs.specs.declared.world.World.{World}
use Rattle.sfs.specs.Schedule.{Schedule, event_in, schedule_of, cluster_in, cluster_of}
use Rattle.line_stream.specs.ScheduleReader.{unlines, IsUnread, HasRead, IsNoEvent, NoneFollows, ReadsEvent}
use Rattle.sfs.specs.Book.{Book, opened, opened_at, book_after}
use Rattle.sfs.specs.Legal.{IsAtRest, IsLegalFrom, text_of}
use Rattle.sfs.specs.World.{Stands, Opens as OpensWorld}
use Rattle.line_stream.specs.Output.{CountsWrites}
use Rattle.sfs.specs.Replay.{Came, Follows, Stood, Stopped, Finishes, OfSchedule, Opens, Replays}
use Rattle.line_stream.specs.Output.{WritesFront}
use Rattle.sfs.proofs.ReplayLemmas.{goes_behind, refuses_first, fails_to_read, written, written_whole}

-- a reader that has read nothing
pub unread : (left : Option (List ℕ)) (r : ScheduleReader) → IsUnread r → HasRead left left [] r
unfolding unlines
unread left r none = record {
  taken = [];
  takes = Takes-none;
  each = tt;
  ongoing = λ is. sym none.0;
  closed = λ is. absurd (true_is_not_false is);
}
  where
    true_is_not_false : r.ended ≡ true → ⊥
    true_is_not_false is = grind (arith, is, none.1)

-- reading it was stopped
pub first_stopped : (left now : Option (List ℕ)) (r : ScheduleReader) (stop : Stop) → ReadsEvent left now [] r (Err stop) → Opens left now (Err stop)
first_stopped left now r ReadFault reads = reads
first_stopped left now r WriteFault reads = reads
first_stopped left now r NoMemory reads = reads

-- a schedule without a first event names no cluster
no_first : (schedule : Schedule) → IsNoEvent (slice_get schedule 0) → cluster_of schedule ≡ None
no_first [] none = refl
no_first (None ∷ lines) none = refl
no_first (Some e ∷ lines) none = absurd none

-- the first line is missing or says nothing
pub none_first : {left : Option (List ℕ)} → NoneFollows left [] → OfSchedule left (λ schedule. Finishes schedule [] (line.Refused 1))
none_first none text is = refuses_first (schedule_of text) (no_first (schedule_of text) (none text is))

-- the first event of a text that is told
first_is : {left now : Option (List ℕ)} (r : ScheduleReader) (l : List ℕ) (e : Event) → event_in l ≡ Some e → HasRead left now ([] ++ l ∷ []) r → (text : List ℕ) → left ≡ Some text
    → (behind : Schedule) × (schedule_of text ≡ Some e ∷ behind)
first_is {left} {now} r l e says read text is =
    let b = goes_behind left now ([] ++ l ∷ []) r text read is in
    (b.0, b.1 ∙ ap (λ (o : Option Event). o ∷ b.0) says)

-- it names no cluster
pub no_cluster : {left now : Option (List ℕ)} (r : ScheduleReader) (l : List ℕ) (e : Event) → event_in l ≡ Some e → HasRead left now ([] ++ l ∷ []) r → cluster_in (Some e) ≡ None
    → OfSchedule left (λ schedule. Finishes schedule [] (line.Refused 1))
no_cluster r l e says read none text is =
    let first = first_is r l e says read text is in
    refuses_first (schedule_of text) (ap cluster_of first.1 ∙ none)

-- it names a cluster, and its world is open
follows_first : (e : Event) (behind : Schedule) (w : World) → OpensWorld (Some e) (Some w) → Follows (Some e ∷ behind) 1 [] w
unfolding book_after IsLegalFrom
follows_first e behind w opens = record {
  legal = tt;
  stands = subst (λ (b : Book). Stands (Some e ∷ behind) b w) (sym at_first) (record {
    cluster = opens.0;
    rest = record { ongoing = refl; ended = refl };
    arrivals = opens.1;
    points = opens.2;
    trees = refl;
    last = ap Some (sym opens.3);
    changed = λ k d below. absurd (omega (arith, below));
    ended = λ k d below. absurd (omega (arith, below));
  });
  used = ap (λ (b : Book). b.lines) at_first;
}
  where
    at_first : opened (Some e ∷ behind) ≡ record { lines = 1; arrivals = []; points = []; trees = fresh w.tree.geometry ∷ []; ended = []; closed = false }
    at_first = ap opened_at opens.0

pub stands_first : {left now held : Option (List ℕ)} (r : ScheduleReader) (l : List ℕ) (e : Event) (w : World) → event_in l ≡ Some e → HasRead left now ([] ++ l ∷ []) r
    → OpensWorld (Some e) (Some w) → Stood left now held held (l ∷ []) [] (record { reader = r; world = w })
unfolding text_of
stands_first r l e w says read opens = record {
  read = read;
  put = Puts-none;
  follows = λ behind. subst (λ (o : Option Event). Follows (o ∷ behind) 1 [] w) (sym says) (follows_first e behind w opens);
  some = omega arith;
}

-- ---- from the first line to the last

-- nothing is due before the first line
opened_rests : (c : Option Geometry) → IsAtRest (opened_at c)
opened_rests None = record { ongoing = refl; ended = refl }
opened_rests (Some g) = record { ongoing = refl; ended = refl }

-- opening was stopped
pub open_stopped : (left now held : Option (List ℕ)) (stop : Stop) → Opens left now (Err stop) → Stopped left now held held stop
unfolding text_of IsLegalFrom book_after
open_stopped left now held ReadFault failed = ([], fails_to_read left now held held [] [] tt failed Puts-none (λ text is. tt) (λ text is. record { over = opened_rests (cluster_of (schedule_of text)); behind = refl }))
open_stopped left now held WriteFault failed = absurd failed
open_stopped left now held NoMemory failed = ([], record { rest = []; front = record { front = []; parts = refl; put = Puts-none }; legal = λ text is. tt })

-- the last line was written, or that was stopped
pub closed : (left now held held' held'' : Option (List ℕ)) (lines : List Line) (last : Line) (ending : Ending) (counted counted' : ℕ) (result : Result Ending Stop)
    → Puts held held' (text_of lines) → OfSchedule left (λ schedule. Finishes schedule lines last)
    → CountsWrites counted counted' result → (rest : List ℕ) × WritesFront held' held'' (text_of (last ∷ [])) rest × OnOk result (rest ≡ []) → IfOk result (λ e. e ≡ ending)
    → (Puts held held'' (text_of (lines ++ last ∷ [])) → Came left held held'' ending) → Replays left now held held'' result
closed left now held held' held'' lines last ending counted counted' (Ok e) put finishes counts front is came =
    subst (Came left held held'') (sym is) (came (written_whole lines (last ∷ []) front.0 put front.1 front.2))
closed left now held held' held'' lines last ending counted counted' (Err ReadFault) put finishes counts front is came = absurd counts
closed left now held held' held'' lines last ending counted counted' (Err WriteFault) put finishes counts front is came =
    (lines ++ last ∷ [], record { rest = front.0; front = written lines (last ∷ []) front.0 put front.1; legal = λ text told. finishes text told })
closed left now held held' held'' lines last ending counted counted' (Err NoMemory) put finishes counts front is came =
    (lines ++ last ∷ [], record { rest = front.0; front = written lines (last ∷ []) front.0 put front.1; legal = λ text told. finishes text told })
