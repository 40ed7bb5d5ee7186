-- Lines of a text one after another, and the events that they spell.
use Rattle.std.proofs.Common.{◌≡◌, ℕ, suc, ◌<◌, ◌≤◌, Bool, true, false, cond, List, [], ◌∷◌, ◌++◌, length, map, Option, Some, None, Ok, Err, refl, sym, ap, subst, ◌∙◌, append_assoc, arith}
use Rattle.std.specs.Prelude.{slice_get, nat_le}
use Rattle.std.specs.List.{AllByRecursion}
use Rattle.std.proofs.lemmas.Grind.{flat_map-append}
use Rattle.std.proofs.lemmas.List.{append-nil, length-map, map-append}
use Rattle.std.proofs.lemmas.Option.{slice_get_past}
use Rattle.schedule_text.specs.Stream.{Takes}
use Rattle.schedule_text.proofs.StreamLemmas.{Takes-append}
use Rattle.event_text.specs.declared.event.Event.{Event}
use Rattle.event_text.specs.Reading.{event_of}
use Rattle.line_stream.specs.declared.schedule_reader.ScheduleReader.{ScheduleReader}
use Rattle.line_stream.specs.declared.stop.Stop.{Stop}
use Rattle.line_stream.specs.declared.stop.Stop.TheVariants.{ReadFault, WriteFault, NoMemory}
use Rattle.line_stream.specs.Lines.{lines_of, onto, IsOneLine}
use Rattle.line_stream.specs.LineReader.{IsFront, IsAll, IsTooLong, TakesAll, Finds}
use Rattle.line_stream.specs.Reading.{Reading}
use Rattle.line_stream.specs.Schedule.{Schedule, event_in, schedule_of}
use Rattle.line_stream.specs.ScheduleReader.{unlines, HasRead, IsNoEvent, NoneFollows, FailsAfter, ReadsLine, ReadsEvent}

-- ---- the lines of a text

-- a line, its end, and more
pub lines_of-line : (line rest : List ℕ) → IsOneLine line → lines_of (line ++ 10 ∷ rest) ≡ line ∷ lines_of rest
unfolding lines_of
lines_of-line [] rest whole = refl
lines_of-line (b ∷ line) rest whole =
    ap (λ t. cond t ([] ∷ lines_of (line ++ 10 ∷ rest)) (onto b (lines_of (line ++ 10 ∷ rest)))) whole.0 ∙ ap (onto b) (lines_of-line line rest whole.1)

-- a line that the text ends with
pub lines_of-last : (line : List ℕ) → IsOneLine line → 0 < length line → lines_of line ≡ line ∷ []
unfolding lines_of
lines_of-last [] whole some = absurd (omega arith)
lines_of-last (b ∷ []) whole some = ap (λ t. cond t ([] ∷ lines_of []) (onto b (lines_of []))) whole.0
lines_of-last (b ∷ c ∷ line) whole some =
    ap (λ t. cond t ([] ∷ lines_of (c ∷ line)) (onto b (lines_of (c ∷ line)))) whole.0 ∙ ap (onto b) (lines_of-last (c ∷ line) whole.1 (omega arith))

-- a byte at the front of the first of some lines
first_longer : (b : ℕ) (n : ℕ) (lines : List (List ℕ)) → (first : List ℕ) × (others : List (List ℕ)) × (lines ≡ first ∷ others) × (n ≤ length first)
    → (first : List ℕ) × (others : List (List ℕ)) × (onto b lines ≡ first ∷ others) × (suc n ≤ length first)
first_longer b n lines h = (b ∷ h.0, h.1, ap (onto b) h.2, omega (arith, h.3))

-- the front of a line is the front of the first line
pub lines_of-front : (front rest : List ℕ) → IsOneLine front → 0 < length front
    → (first : List ℕ) × (others : List (List ℕ)) × (lines_of (front ++ rest) ≡ first ∷ others) × (length front ≤ length first)
unfolding lines_of
lines_of-front [] rest whole some = absurd (omega arith)
lines_of-front (b ∷ []) rest whole some =
    let tested = ap (λ t. cond t ([] ∷ lines_of rest) (onto b (lines_of rest))) whole.0 in
    let one = put b (lines_of rest) in
    (one.0, one.1, tested ∙ one.2, one.3)
  where
    put : (b : ℕ) (lines : List (List ℕ)) → (first : List ℕ) × (others : List (List ℕ)) × (onto b lines ≡ first ∷ others) × (1 ≤ length first)
    put b [] = (b ∷ [], [], refl, omega arith)
    put b (line ∷ lines) = (b ∷ line, lines, refl, omega arith)
lines_of-front (b ∷ c ∷ front) rest whole some =
    let tested = ap (λ t. cond t ([] ∷ lines_of (c ∷ front ++ rest)) (onto b (lines_of (c ∷ front ++ rest)))) whole.0 in
    let more = first_longer b (length (c ∷ front)) (lines_of (c ∷ front ++ rest)) (lines_of-front (c ∷ front) rest whole.1 (omega arith)) in
    (more.0, more.1, tested ∙ more.2, more.3)

-- lines with their ends, and more
pub lines_of-unlines : (done : List (List ℕ)) (rest : List ℕ) → AllByRecursion IsOneLine done → lines_of (unlines done ++ rest) ≡ done ++ lines_of rest
unfolding unlines
lines_of-unlines [] rest each = refl
lines_of-unlines (line ∷ done) rest each =
    ap lines_of (append_assoc (line ++ 10 ∷ []) (unlines done) rest ∙ append_assoc line (10 ∷ []) (unlines done ++ rest))
    ∙ lines_of-line line (unlines done ++ rest) each.0 ∙ ap (λ (ls : List (List ℕ)). line ∷ ls) (lines_of-unlines done rest each.1)

-- one line more
pub unlines-push : (done : List (List ℕ)) (line : List ℕ) → unlines (done ++ line ∷ []) ≡ unlines done ++ (line ++ 10 ∷ [])
unfolding unlines
unlines-push done line = flat_map-append (λ (l : List ℕ). l ++ 10 ∷ []) done (line ∷ []) ∙ ap (λ (r : List ℕ). unlines done ++ r) (append-nil (line ++ 10 ∷ []))

-- each of some lines and of one more
pub each-push : (done : List (List ℕ)) (line : List ℕ) → AllByRecursion IsOneLine done → IsOneLine line → AllByRecursion IsOneLine (done ++ line ∷ [])
each-push [] line each whole = (whole, tt)
each-push (d ∷ done) line each whole = (each.0, each-push done line each.1 whole)

-- ---- what was read of a text that is told

-- the text begins with the lines that were read
pub told_lines : (before now : Option (List ℕ)) (done : List (List ℕ)) (r : ScheduleReader) (text : List ℕ) → HasRead before now done r → before ≡ Some text
    → (more : List (List ℕ)) × (lines_of text ≡ done ++ more)
told_lines before now done r text read is = by_end r.ended refl
  where
    by_end : (ended : Bool) → r.ended ≡ ended → (more : List (List ℕ)) × (lines_of text ≡ done ++ more)
    by_end true e = ([], read.closed e text is ∙ sym (append-nil done))
    by_end false e =
        let t = read.takes.told text is in
        let whole : text ≡ unlines done ++ (r.lines.pending ++ t.0) =
        t.2 ∙ ap (λ (b : List ℕ). b ++ t.0) (read.ongoing e) ∙ append_assoc (unlines done) r.lines.pending t.0 in
        (lines_of (r.lines.pending ++ t.0), ap lines_of whole ∙ lines_of-unlines done (r.lines.pending ++ t.0) read.each)

-- ---- the place behind some lines

-- the element behind others
pub get_behind : {X : Type 0} (xs : List X) (y : X) (ys : List X) → slice_get (xs ++ y ∷ ys) (length xs) ≡ Some y
get_behind [] y ys = refl
get_behind (x ∷ xs) y ys = get_behind xs y ys

-- what stands in a schedule behind the lines that were read
pub said_behind : (done : List (List ℕ)) (line : List ℕ) (more : List (List ℕ)) → slice_get (map event_in (done ++ line ∷ more)) (length done) ≡ Some (event_in line)
said_behind done line more =
    ap (λ (s : Schedule). slice_get s (length done)) (map-append event_in done (line ∷ more))
    ∙ ap (slice_get (map event_in done ++ event_in line ∷ map event_in more)) (sym (length-map done event_in))
    ∙ get_behind (map event_in done) (event_in line) (map event_in more)

-- and where no line stands behind them
pub nothing_behind : (done : List (List ℕ)) → slice_get (map event_in done) (length done) ≡ None
nothing_behind done = slice_get_past (map event_in done) (length done) (omega (arith, length-map done event_in))

-- a place that is said to have no event has none
pub no_event_at : (o p : Option (Option Event)) → o ≡ p → IsNoEvent p → IsNoEvent o
no_event_at o p same none = subst IsNoEvent (sym same) none

-- ---- one line more

module _ (before left now : Option (List ℕ)) (done : List (List ℕ)) (r : ScheduleReader) (new : Reading) (taken : List ℕ) (read : HasRead before left done r) (takes : Takes left now taken) (ongoing : r.ended ≡ false) where
  -- all that was taken
  all_taken : read.taken ++ taken ≡ unlines done ++ (r.lines.pending ++ taken)
  all_taken = ap (λ (b : List ℕ). b ++ taken) (read.ongoing ongoing) ∙ append_assoc (unlines done) r.lines.pending taken

  -- the whole text, where it is told
  whole_text : (text : List ℕ) → before ≡ Some text → (rest : List ℕ) × (text ≡ unlines done ++ ((r.lines.pending ++ taken) ++ rest))
  whole_text text is =
      let t = (Takes-append read.takes takes).told text is in
      (t.0, t.2 ∙ ap (λ (b : List ℕ). b ++ t.0) all_taken ∙ append_assoc (unlines done) (r.lines.pending ++ taken) t.0)

  -- the same, where nothing is left of it
  ended_text : TakesAll left taken → (text : List ℕ) → before ≡ Some text → text ≡ unlines done ++ (r.lines.pending ++ taken)
  ended_text all text is =
      let t = read.takes.told text is in
      t.2 ∙ ap (λ (b : List ℕ). read.taken ++ b) (all t.0 t.1) ∙ all_taken

  pub read_more : IsFront (r.lines.pending ++ taken) new.line new.pending → HasRead before now (done ++ new.line ∷ []) (record { lines = new; ended = r.ended }) × (length new.line ≤ 140000)
  read_more front = (
    record {
      taken = read.taken ++ taken;
      takes = Takes-append read.takes takes;
      each = each-push done new.line read.each front.unended;
      ongoing = λ _.
          all_taken ∙ ap (λ (b : List ℕ). unlines done ++ b) (front.parts ∙ sym (append_assoc new.line (10 ∷ []) new.pending))
          ∙ sym (append_assoc (unlines done) (new.line ++ 10 ∷ []) new.pending) ∙ ap (λ (b : List ℕ). b ++ new.pending) (sym (unlines-push done new.line));
      closed = λ ended. absurd (let both : true ≡ false = sym ended ∙ ongoing in cc both);
    },
    front.fits,
  )

  pub read_last : IsAll (r.lines.pending ++ taken) new.line new.pending → 0 < length new.line → TakesAll left taken
      → HasRead before now (done ++ new.line ∷ []) (record { lines = new; ended = true }) × (length new.line ≤ 140000)
  read_last whole some all = (
    record {
      taken = read.taken ++ taken;
      takes = Takes-append read.takes takes;
      each = each-push done new.line read.each whole.unended;
      ongoing = λ ended. absurd (cc ended);
      closed = λ _ text is.
          ap lines_of (ended_text all text is ∙ ap (λ (b : List ℕ). unlines done ++ b) whole.parts) ∙ lines_of-unlines done new.line read.each
          ∙ ap (λ (ls : List (List ℕ)). done ++ ls) (lines_of-last new.line whole.unended some);
    },
    whole.fits,
  )

  pub read_end : IsAll (r.lines.pending ++ taken) [] new.pending → TakesAll left taken → NoneFollows before done
  unfolding lines_of
  read_end whole all text is =
      let lines : lines_of text ≡ done =
      ap lines_of (ended_text all text is ∙ ap (λ (b : List ℕ). unlines done ++ b) whole.parts) ∙ lines_of-unlines done [] read.each ∙ append-nil done in
      no_event_at (slice_get (schedule_of text) (length done)) None (ap (λ (ls : List (List ℕ)). slice_get (map event_in ls) (length done)) lines ∙ nothing_behind done) tt

  pub read_too_long : IsTooLong (r.lines.pending ++ taken) → NoneFollows before done
  read_too_long long text is =
      let t = whole_text text is in
      let front = lines_of-front long.front (long.rest ++ t.0) long.unended (omega (arith, long.long)) in
      let behind : lines_of ((r.lines.pending ++ taken) ++ t.0) ≡ front.0 ∷ front.1 =
      ap (λ (b : List ℕ). lines_of (b ++ t.0)) long.parts ∙ ap lines_of (append_assoc long.front long.rest t.0) ∙ front.2 in
      let lines : lines_of text ≡ done ++ front.0 ∷ front.1 =
      ap lines_of t.1 ∙ lines_of-unlines done ((r.lines.pending ++ taken) ++ t.0) read.each ∙ ap (λ (ls : List (List ℕ)). done ++ ls) behind in
      let none : event_in front.0 ≡ None = ap (λ b. cond b (event_of front.0) None) (above (length front.0) 140000 (omega (arith, long.long, front.3))) in
      no_event_at (slice_get (schedule_of text) (length done)) (Some None)
      (ap (λ (ls : List (List ℕ)). slice_get (map event_in ls) (length done)) lines ∙ said_behind done front.0 front.1 ∙ ap Some none) tt
    where
      above : (n m : ℕ) → m < n → nat_le n m ≡ false
      above n m h = grind arith

  pub read_fault : IsOneLine (r.lines.pending ++ taken) → FailsAfter before now done
  read_fault unended = record {
    taken = read.taken ++ taken;
    takes = Takes-append read.takes takes;
    rest = r.lines.pending ++ taken;
    parts = all_taken;
    unended = unended;
  }

-- the text has ended
pub read_nothing : (before left : Option (List ℕ)) (done : List (List ℕ)) (r : ScheduleReader) → HasRead before left done r → r.ended ≡ true → NoneFollows before done
read_nothing before left done r read ended text is =
    no_event_at (slice_get (schedule_of text) (length done)) None
    (ap (λ (ls : List (List ℕ)). slice_get (map event_in ls) (length done)) (read.closed ended text is) ∙ nothing_behind done) tt

-- ---- the event of a line

-- a line that is not too long says what it spells
pub event_said : (line : List ℕ) (said : Option Event) → length line ≤ 140000 → event_of line ≡ said → event_in line ≡ said
event_said line said fits is = ap (λ b. cond b (event_of line) None) (within (length line) 140000 fits) ∙ is
  where
    within : (n m : ℕ) → n ≤ m → nat_le n m ≡ true
    within n m h = grind arith

-- a line that says nothing is no event
pub nothing_said : (before now : Option (List ℕ)) (done : List (List ℕ)) (line : List ℕ) (r : ScheduleReader) → HasRead before now (done ++ line ∷ []) r → event_in line ≡ None
    → NoneFollows before done
nothing_said before now done line r read none text is =
    let t = told_lines before now (done ++ line ∷ []) r text read is in
    no_event_at (slice_get (schedule_of text) (length done)) (Some None)
    (ap (λ (ls : List (List ℕ)). slice_get (map event_in ls) (length done)) (t.1 ∙ append_assoc done (line ∷ []) t.0) ∙ said_behind done line t.0 ∙ ap Some none) tt

-- ---- where reading on was stopped

pub line_stopped : (before left now : Option (List ℕ)) (done : List (List ℕ)) (r after : ScheduleReader) (new : Reading) (taken : List ℕ) (ended : Type 0) (stop : Stop)
    → HasRead before left done r → Takes left now taken → r.ended ≡ false → Finds (r.lines.pending ++ taken) new ended (Err stop) → ReadsLine before now done after (Err stop)
line_stopped before left now done r after new taken ended ReadFault read takes ongoing found = read_fault before left now done r new taken read takes ongoing found
line_stopped before left now done r after new taken ended WriteFault read takes ongoing found = found
line_stopped before left now done r after new taken ended NoMemory read takes ongoing found = tt

pub event_stopped : (before now : Option (List ℕ)) (done : List (List ℕ)) (r after : ScheduleReader) (stop : Stop) → ReadsLine before now done r (Err stop) → ReadsEvent before now done after (Err stop)
event_stopped before now done r after ReadFault reads = reads
event_stopped before now done r after WriteFault reads = reads
event_stopped before now done r after NoMemory reads = reads

-- what the line says, where it was read
pub event_read : (before now : Option (List ℕ)) (done : List (List ℕ)) (r : ScheduleReader) (said : Option Event)
    → HasRead before now (done ++ r.lines.line ∷ []) r × (length r.lines.line ≤ 140000) → event_of r.lines.line ≡ said → ReadsEvent before now done r (Ok said)
event_read before now done r (Some e) read is = (r.lines.line, event_said r.lines.line (Some e) read.1 is, read.0)
event_read before now done r None read is = nothing_said before now done r.lines.line r read.0 (event_said r.lines.line None read.1 is)
