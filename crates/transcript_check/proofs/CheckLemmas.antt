-- Lines that are legal one after another, and where they end.
use Rattle.std.proofs.Common.{inl, inr, ◌≡◌, ℕ, zero, suc, ◌+◌, ◌-◌, ◌<◌, ◌≤◌, true, false, cond, List, [], ◌∷◌, ◌++◌, length, take, drop, get_or, Option, Some, None, refl, sym, ap, ◌∙◌, subst, arith}
use Rattle.std.specs.Prelude.{Bool, option_map, option_and_then, if◌then◌else◌, ◌==◌, ◌⊎◌, ◌&&◌, nat_le}
use Rattle.std.specs.Option.{option_map_or}
use Rattle.std.proofs.lemmas.Bool.{eqb-true, eq-eqb, and_parts, leb-true}
use Rattle.std.proofs.lemmas.List.{take-append-drop}
use Rattle.mini_tx.specs.declared.actor.Actor.{Actor}
use Rattle.event_text.specs.declared.event.Event.{Event}
use Rattle.event_text.specs.declared.event.Event.TheVariants as event
use Rattle.line_text.specs.declared.line.Line.{Line}
use Rattle.line_text.specs.declared.line.Line.TheVariants as line
use Rattle.fs_rules.specs.declared.geometry.Geometry.{Geometry}
use Rattle.fs_rules.specs.Geometry.{IsWithinLimits, is_within, within_limits}
use Rattle.transcript_next.specs.Nexts.{scheduled}
use Rattle.transcript_rules.specs.Opening.{Opening, Schedule, checked, cluster_in, cluster_of, fresh_opening}
use Rattle.nfs_service.specs.Reply.{Effect}
use Rattle.transcript_rules.specs.Book.{Book, opened, numbered, with_numbered, points_of, tree_at, response}
use Rattle.transcript_rules.specs.Next.{Next, next, noted, told, begun, with_next, with_point, book_after, changed}
use Rattle.transcript_rules.specs.Legal.{IsAllowed, IsLegal, IsLegalFrom, IsLegalFor, IsRefusedAtOnce, IsTranscript}
use Rattle.transcript_facts.specs.declared.facts.Facts.{Facts}
use Rattle.transcript_facts.specs.Facts.{AreFacts}
use Rattle.transcript_check.specs.declared.verdict.Verdict.{Verdict}
use Rattle.transcript_check.specs.declared.verdict.Verdict.TheVariants as verdict
use Rattle.transcript_check.specs.Verdicts.{is_last, ends, is_first_refused, at_once, refused_at_once, IsWhole, FailsAt, IsVerdict, ending}

-- ---- one line behind others

pub book_behind : (o : Opening) (schedule : Schedule) (book : Book) (ls : List Line) (l : Line) → book_after o schedule book (ls ++ l ∷ []) ≡ noted o schedule (book_after o schedule book ls) l
unfolding book_after
book_behind o schedule book [] l = refl
book_behind o schedule book (m ∷ ls) l = book_behind o schedule (noted o schedule book m) ls l

pub legal_behind : (o : Opening) (schedule : Schedule) (book : Book) (ls : List Line) (l : Line) → IsLegalFrom o schedule book ls → IsAllowed o schedule (book_after o schedule book ls) l
    → IsLegalFrom o schedule book (ls ++ l ∷ [])
unfolding book_after IsLegalFrom
legal_behind o schedule book [] l legal allowed = (allowed, tt)
legal_behind o schedule book (m ∷ ls) l legal allowed = (legal.0, legal_behind o schedule (noted o schedule book m) ls l legal.1 allowed)

pub last_allowed : (o : Opening) (schedule : Schedule) (book : Book) (ls : List Line) (l : Line) → IsLegalFrom o schedule book (ls ++ l ∷ []) → IsAllowed o schedule (book_after o schedule book ls) l
unfolding book_after IsLegalFrom
last_allowed o schedule book [] l legal = legal.0
last_allowed o schedule book (m ∷ ls) l legal = last_allowed o schedule (noted o schedule book m) ls l legal.1

pub front_legal : (o : Opening) (schedule : Schedule) (book : Book) (ls more : List Line) → IsLegalFrom o schedule book (ls ++ more) → IsLegalFrom o schedule book ls
unfolding IsLegalFrom
front_legal o schedule book [] more legal = tt
front_legal o schedule book (l ∷ ls) more legal = (legal.0, front_legal o schedule (noted o schedule book l) ls more legal.1)

-- ---- the last line

pub ends_behind : (ls : List Line) (l : Line) → ends (ls ++ l ∷ []) ≡ is_last l
unfolding ends
ends_behind [] l = refl
ends_behind (m ∷ []) l = refl
ends_behind (m ∷ k ∷ ls) l = ends_behind (k ∷ ls) l

begun_closed : (book : Book) (e : Event) → (begun book e).closed ≡ book.closed
unfolding begun
begun_closed book (event.Arrive node sec usec bytes) = refl
begun_closed book (event.Deliver k stop) = refl
begun_closed book (event.Lose k) = refl
begun_closed book (event.Crash who) = refl
begun_closed book (event.Start who choice) = refl
begun_closed book event.Backup = refl
begun_closed book (event.Cluster nodes memories blocks inodes) = refl
begun_closed book (event.Drain count) = refl
begun_closed book (event.GiveUp who) = refl
begun_closed book (event.Resend who) = refl
begun_closed book (event.Sweep memory) = refl
begun_closed book (event.Checkpoint memory) = refl
begun_closed book (event.Show number) = refl
begun_closed book event.End = refl

next_closed : (book : Book) (x : Next) → (with_next book x).closed ≡ book.closed
next_closed book x = by x.comes where
  by : (c : Option Event) → (with_next book (record { taken = x.taken; drained = x.drained; comes = c })).closed ≡ book.closed
  by None = refl
  by (Some e) = begun_closed (record book { taken = x.taken; drained = x.drained; now = Some e; under = book.under + 1; said = [] }) e

changed_closed : (book : Book) (point number : ℕ) → (changed book point number).closed ≡ book.closed
changed_closed book point number = by (option_and_then (λ a. option_and_then (response a number) (tree_at book (points_of book))) (numbered book.arrivals number)) where
  by : (x : Option Effect)
      → (option_map_or (λ (e : Effect). record book { trees = book.trees ++ e.tree ∷ []; arrivals = with_numbered book.arrivals number (with_point point) }) x book).closed ≡ book.closed
  by None = refl
  by (Some e) = refl

pub closed_behind : (o : Opening) (schedule : Schedule) (book : Book) (l : Line) → book.closed ≡ false → (noted o schedule book l).closed ≡ is_last l
unfolding noted told
closed_behind o schedule book (line.DoArrive arrival node) goes = next_closed book (next o schedule book) ∙ goes
closed_behind o schedule book (line.DoEvent e) goes = next_closed book (next o schedule book) ∙ goes
closed_behind o schedule book (line.Point point arrival made) goes = changed_closed book point arrival ∙ goes
closed_behind o schedule book (line.Refused number) goes = refl
closed_behind o schedule book line.End goes = refl
closed_behind o schedule book (line.Lost k) goes = goes
closed_behind o schedule book (line.Down who why) goes = goes
closed_behind o schedule book (line.Sent k from to words) goes = goes
closed_behind o schedule book (line.Reply arrival at bytes) goes = goes
closed_behind o schedule book (line.Retry arrival why) goes = goes
closed_behind o schedule book (line.Dropped arrival why) goes = goes
closed_behind o schedule book (line.Cut number at) goes = goes
closed_behind o schedule book (line.BackupDone number) goes = goes
closed_behind o schedule book (line.RetryBackup number why) goes = goes
closed_behind o schedule book (line.Mounted number lines) goes = goes
closed_behind o schedule book (line.Listed text) goes = goes
closed_behind o schedule book (line.MountFailed number) goes = goes
closed_behind o schedule book (line.MountBad number) goes = goes

-- ---- verdicts

-- the transcripts of a cluster are its legal lines
pub of_cluster : (schedule : Schedule) (g : Geometry) (ls : List Line) → cluster_of schedule ≡ Some g → IsLegal (fresh_opening g) schedule ls → IsTranscript schedule ls
of_cluster schedule g ls is legal = subst (λ (c : Option Geometry). IsLegalFor (option_map fresh_opening c) schedule ls) (sym is) legal

pub as_cluster : (schedule : Schedule) (g : Geometry) (ls : List Line) → cluster_of schedule ≡ Some g → IsTranscript schedule ls → IsLegal (fresh_opening g) schedule ls
as_cluster schedule g ls is transcript = subst (λ (c : Option Geometry). IsLegalFor (option_map fresh_opening c) schedule ls) is transcript

-- lines that were judged
pub record AreJudged (schedule : Schedule) (g : Geometry) (lines : List Line) (i : ℕ) (book : Book) : Type 0 where
  pub legal : IsLegal (fresh_opening g) schedule (take i lines)
  pub is : book ≡ book_after (fresh_opening g) schedule (opened (fresh_opening g)) (take i lines)
  pub closed : book.closed ≡ ends (take i lines)

take_one : (ls : List Line) (i : ℕ) (d : Line) → i < length ls → take (i + 1) ls ≡ take i ls ++ get_or ls i d ∷ []
take_one [] i d below = absurd (omega (arith, below))
take_one (l ∷ ls) zero d below = refl
take_one (l ∷ ls) (suc i) d below = ap (λ (n : ℕ). take n (l ∷ ls)) (one_on i) ∙ ap (λ (ms : List Line). l ∷ ms) (take_one ls i d (omega (arith, below))) where
  one_on : (k : ℕ) → suc k + 1 ≡ suc (k + 1)
  one_on k = omega arith

pub none_judged : (schedule : Schedule) (g : Geometry) (lines : List Line) → AreJudged schedule g lines 0 (opened (fresh_opening g))
unfolding IsLegalFrom book_after ends
none_judged schedule g lines = record { legal = tt; is = refl; closed = refl }

pub one_judged : (schedule : Schedule) (g : Geometry) (lines : List Line) (i : ℕ) (book : Book) (d : Line) → i < length lines → AreJudged schedule g lines i book
    → IsAllowed (fresh_opening g) schedule book (get_or lines i d) → AreJudged schedule g lines (i + 1) (noted (fresh_opening g) schedule book (get_or lines i d))
one_judged schedule g lines i book d below are allowed =
    let o = fresh_opening g in
    let l = get_or lines i d in
    let more = take_one lines i d below in record {
      legal = rw more (legal_behind o schedule (opened o) (take i lines) l are.legal (subst (λ (b : Book). IsAllowed o schedule b l) are.is allowed));
      is = ap (λ (b : Book). noted o schedule b l) are.is ∙ sym (book_behind o schedule (opened o) (take i lines) l) ∙ ap (book_after o schedule (opened o)) (sym more);
      closed = closed_behind o schedule book l allowed.ongoing ∙ sym (ends_behind (take i lines) l) ∙ ap ends (sym more);
    }

pub fails_here : (schedule : Schedule) (g : Geometry) (lines : List Line) (i : ℕ) (book : Book) (d : Line) → cluster_of schedule ≡ Some g → i < length lines → AreJudged schedule g lines i book
    → (IsAllowed (fresh_opening g) schedule book (get_or lines i d) → ⊥) → FailsAt schedule lines (i + 1)
fails_here schedule g lines i book d cluster below are not_allowed =
    let o = fresh_opening g in
    let l = get_or lines i d in record {
      first = omega arith;
      before = rw (same_front i) (of_cluster schedule g (take i lines) cluster are.legal);
      fails = inl (
        omega (arith, below),
        λ transcript.
            not_allowed (rw are.is (last_allowed o schedule (opened o) (take i lines) l
            (subst (λ (ls : List Line). IsLegal o schedule ls) (take_one lines i d below) (as_cluster schedule g (take (i + 1) lines) cluster transcript)))),
      );
    }
  where
    same_front : (n : ℕ) → take (n + 1 - 1) lines ≡ take n lines
    same_front n = ap (λ (m : ℕ). take m lines) (omega arith)

-- of the line at this place
pub one_more : (schedule : Schedule) (g : Geometry) (lines : List Line) (i : ℕ) (book : Book) (l : Line) → i < length lines → l ≡ get_or lines i l → AreJudged schedule g lines i book
    → IsAllowed (fresh_opening g) schedule book l → AreJudged schedule g lines (i + 1) (noted (fresh_opening g) schedule book l)
one_more schedule g lines i book l below is are allowed =
    subst (λ (x : Line). AreJudged schedule g lines (i + 1) (noted (fresh_opening g) schedule book x)) (sym is)
    (one_judged schedule g lines i book l below are (subst (λ (x : Line). IsAllowed (fresh_opening g) schedule book x) is allowed))

pub fails_one : (schedule : Schedule) (g : Geometry) (lines : List Line) (i : ℕ) (book : Book) (l : Line) → cluster_of schedule ≡ Some g → i < length lines → l ≡ get_or lines i l → AreJudged schedule g lines i book
    → (IsAllowed (fresh_opening g) schedule book l → ⊥) → FailsAt schedule lines (i + 1)
fails_one schedule g lines i book l cluster below is are not_allowed =
    fails_here schedule g lines i book l cluster below are (λ allowed. not_allowed (subst (λ (x : Line). IsAllowed (fresh_opening g) schedule book x) (sym is) allowed))

take_all : (ls : List Line) → take (length ls) ls ≡ ls
take_all [] = refl
take_all (l ∷ ls) = ap (λ (ms : List Line). l ∷ ms) (take_all ls)

take_past : (ls : List Line) (i : ℕ) → length ls ≤ i → take i ls ≡ take (length ls) ls
take_past [] zero past = refl
take_past [] (suc i) past = refl
take_past (l ∷ ls) zero past = absurd (omega (arith, past))
take_past (l ∷ ls) (suc i) past = ap (λ (ms : List Line). l ∷ ms) (take_past ls i (omega (arith, past)))

pub all_judged : (schedule : Schedule) (g : Geometry) (lines : List Line) (book : Book) → cluster_of schedule ≡ Some g → AreJudged schedule g lines (length lines) book
    → IsVerdict schedule lines (ending book.closed (length lines))
all_judged schedule g lines book cluster are = by book.closed (are.closed ∙ ap ends (take_all lines)) where
  whole : IsTranscript schedule lines
  whole = of_cluster schedule g lines cluster (subst (λ (ls : List Line). IsLegal (fresh_opening g) schedule ls) (take_all lines) are.legal)

  front : take (length lines + 1 - 1) lines ≡ lines
  front = ap (λ (m : ℕ). take m lines) (omega arith) ∙ take_all lines

  by : (b : Bool) → b ≡ ends lines → IsVerdict schedule lines (ending b (length lines))
  by true is = record { legal = whole; ended = sym is }
  by false is = record { first = omega arith; before = rw front whole; fails = inr (refl, sym is) }

-- where no line is left
pub ended : (schedule : Schedule) (g : Geometry) (lines : List Line) (i : ℕ) (book : Book) (f : Facts) (v : Verdict) → cluster_of schedule ≡ Some g → length lines ≤ i → AreJudged schedule g lines i book → AreFacts book f
    → v ≡ ending f.closed (length lines) → IsVerdict schedule lines v
ended schedule g lines i book f v cluster past are facts is =
    let closed : book.closed ≡ f.closed = ap (λ (b : Book). b.closed) facts.is in
    rw (is ∙ ap (λ (b : Bool). ending b (length lines)) (sym closed)) (all_judged schedule g lines book cluster (record {
      legal = rw (sym (take_past lines i past)) are.legal;
      is = are.is ∙ ap (λ (ls : List Line). book_after (fresh_opening g) schedule (opened (fresh_opening g)) ls) (take_past lines i past);
      closed = are.closed ∙ ap ends (take_past lines i past);
    }))

-- ---- a schedule without a cluster

of_none : (schedule : Schedule) (ls : List Line) → cluster_of schedule ≡ None → IsRefusedAtOnce ls → IsTranscript schedule ls
of_none schedule ls is refused = subst (λ (c : Option Geometry). IsLegalFor (option_map fresh_opening c) schedule ls) (sym is) refused

as_none : (schedule : Schedule) (ls : List Line) → cluster_of schedule ≡ None → IsTranscript schedule ls → IsRefusedAtOnce ls
as_none schedule ls is transcript = subst (λ (c : Option Geometry). IsLegalFor (option_map fresh_opening c) schedule ls) is transcript

refuses_first : (l : Line) → is_first_refused l ≡ true → l ≡ line.Refused 1
refuses_first (line.Refused number) is = ap line.Refused (eqb-true number 1 is)
refuses_first (line.DoArrive arrival node) is = absurd (cc is)
refuses_first (line.DoEvent e) is = absurd (cc is)
refuses_first (line.Lost k) is = absurd (cc is)
refuses_first (line.Down who why) is = absurd (cc is)
refuses_first (line.Point point arrival made) is = absurd (cc is)
refuses_first (line.Sent k from to words) is = absurd (cc is)
refuses_first (line.Reply arrival at bytes) is = absurd (cc is)
refuses_first (line.Retry arrival why) is = absurd (cc is)
refuses_first (line.Dropped arrival why) is = absurd (cc is)
refuses_first (line.Cut number at) is = absurd (cc is)
refuses_first (line.BackupDone number) is = absurd (cc is)
refuses_first (line.RetryBackup number why) is = absurd (cc is)
refuses_first (line.Mounted number lines) is = absurd (cc is)
refuses_first (line.Listed text) is = absurd (cc is)
refuses_first (line.MountFailed number) is = absurd (cc is)
refuses_first (line.MountBad number) is = absurd (cc is)
refuses_first line.End is = absurd (cc is)

not_first : (l : Line) (rest : List Line) → is_first_refused l ≡ false → IsRefusedAtOnce (l ∷ rest) → ⊥
not_first l rest fails (inl none) = cc none
not_first l rest fails (inr one) =
    let same : l ≡ line.Refused 1 = cc one in
    let yes_it : is_first_refused l ≡ true = ap is_first_refused same in
    cc (fails, yes_it)

two_refused : (l m : Line) (rest : List Line) → IsRefusedAtOnce (l ∷ m ∷ rest) → ⊥
two_refused l m rest (inl none) = cc none
two_refused l m rest (inr one) = cc one

two_not_one : (n : ℕ) → (suc (suc n) == 1) ≡ false
two_not_one n = by (suc (suc n) == 1) refl where
  by : (b : Bool) → (suc (suc n) == 1) ≡ b → b ≡ false
  by true e = absurd (let same = eqb-true (suc (suc n)) 1 e in omega (arith, same))
  by false e = refl

pub refused_verdict : (schedule : Schedule) (ls : List Line) → cluster_of schedule ≡ None → IsVerdict schedule ls (refused_at_once ls)
unfolding ends
refused_verdict schedule [] is = record { first = omega arith; before = of_none schedule [] is (inl refl); fails = inr (refl, refl) }
refused_verdict schedule (l ∷ []) is = by (is_first_refused l) refl where
  by : (b : Bool) → is_first_refused l ≡ b → IsVerdict schedule (l ∷ []) (at_once b 1)
  by true test =
      let same = refuses_first l test in record {
        legal = of_none schedule (l ∷ []) is (inr (ap (λ (x : Line). x ∷ []) same));
        ended = ap is_last same;
      }
  by false test = record {
    first = omega arith;
    before = of_none schedule [] is (inl refl);
    fails = inl (omega arith, λ transcript. not_first l [] test (as_none schedule (l ∷ []) is transcript));
  }
refused_verdict schedule (l ∷ m ∷ ls) is = by (is_first_refused l) refl where
  by : (b : Bool) → is_first_refused l ≡ b → IsVerdict schedule (l ∷ m ∷ ls) (at_once b (length (l ∷ m ∷ ls)))
  by true test =
      let same = refuses_first l test in
      rw (two_not_one (length ls)) (record {
        first = omega arith;
        before = of_none schedule (l ∷ []) is (inr (ap (λ (x : Line). x ∷ []) same));
        fails = inl (omega arith, λ transcript. two_refused l m [] (as_none schedule (l ∷ m ∷ []) is transcript));
      })
  by false test = record {
    first = omega arith;
    before = of_none schedule [] is (inl refl);
    fails = inl (omega arith, λ transcript. not_first l [] test (as_none schedule (l ∷ []) is transcript));
  }

front_refused : (ls more : List Line) → IsRefusedAtOnce (ls ++ more) → IsRefusedAtOnce ls
front_refused [] more refused = inl refl
front_refused (l ∷ []) [] refused = refused
front_refused (l ∷ []) (m ∷ more) refused = absurd (two_refused l m more refused)
front_refused (l ∷ m ∷ ls) more refused = absurd (two_refused l m (ls ++ more) refused)

-- what a transcript begins with is one
pub front_transcript : (schedule : Schedule) (ls more : List Line) → IsTranscript schedule (ls ++ more) → IsTranscript schedule ls
front_transcript schedule ls more transcript = by (cluster_of schedule) transcript where
  by : (c : Option Geometry) → IsLegalFor (option_map fresh_opening c) schedule (ls ++ more) → IsLegalFor (option_map fresh_opening c) schedule ls
  by (Some g) legal = front_legal (fresh_opening g) schedule (opened (fresh_opening g)) ls more legal
  by None refused = front_refused ls more refused

-- where a transcript is whole, no line fails
pub whole_holds : (schedule : Schedule) (lines : List Line) (v : Verdict) → IsVerdict schedule lines v → IsWhole schedule lines → v ≡ verdict.Holds
whole_holds schedule lines verdict.Holds is whole = refl
whole_holds schedule lines (verdict.Fails number) is whole = absurd (by is.fails) where
  by : ((number ≤ length lines) × (IsTranscript schedule (take number lines) → ⊥)) ⊎ ((number ≡ length lines + 1) × (ends lines ≡ false)) → ⊥
  by (inl t) =
      t.1 (front_transcript schedule (take number lines) (drop number lines)
      (subst (λ (ls : List Line). IsTranscript schedule ls) (sym (take-append-drop number lines)) whole.legal))
  by (inr t) = let fails = t.1 in let yes_it = whole.ended in cc (fails, yes_it)

-- ---- the cluster of a schedule

two_parts : (a limit : ℕ) → is_within limit a ≡ true → (1 ≤ a) × (a ≤ limit)
two_parts a limit is = let t = and_parts (nat_le 1 a) (nat_le a limit) is in (leb-true 1 a t.0, leb-true a limit t.1)

limits_of : (g : Geometry) → within_limits g ≡ true → IsWithinLimits g
limits_of g is =
    let t = and_parts (is_within 8 g.nodes) (is_within 8 g.memories && (is_within 16384 g.blocks && is_within 16384 g.inodes)) is in
    let u = and_parts (is_within 8 g.memories) (is_within 16384 g.blocks && is_within 16384 g.inodes) t.1 in
    let v = and_parts (is_within 16384 g.blocks) (is_within 16384 g.inodes) u.1 in
    record { nodes = two_parts g.nodes 8 t.0; memories = two_parts g.memories 8 u.0; blocks = two_parts g.blocks 16384 v.0; inodes = two_parts g.inodes 16384 v.1 }

checked_limits : (h g : Geometry) → checked h ≡ Some g → IsWithinLimits g
checked_limits h g is = by (within_limits h) refl is where
  by : (b : Bool) → within_limits h ≡ b → (if b then Some h else None) ≡ Some g → IsWithinLimits g
  by true test same = let there : h ≡ g = cc same in subst IsWithinLimits there (limits_of h test)
  by false test same = absurd (cc same)

event_limits : (e : Event) (g : Geometry) → cluster_in (Some e) ≡ Some g → IsWithinLimits g
event_limits (event.Cluster nodes memories blocks inodes) g is = checked_limits (record { nodes = nodes; memories = memories; blocks = blocks; inodes = inodes }) g is
event_limits (event.Arrive node sec usec bytes) g is = absurd (cc is)
event_limits (event.Deliver k stop) g is = absurd (cc is)
event_limits (event.Drain count) g is = absurd (cc is)
event_limits (event.Lose k) g is = absurd (cc is)
event_limits (event.GiveUp who) g is = absurd (cc is)
event_limits (event.Resend who) g is = absurd (cc is)
event_limits (event.Crash who) g is = absurd (cc is)
event_limits (event.Start who choice) g is = absurd (cc is)
event_limits (event.Sweep memory) g is = absurd (cc is)
event_limits (event.Checkpoint memory) g is = absurd (cc is)
event_limits event.Backup g is = absurd (cc is)
event_limits (event.Show number) g is = absurd (cc is)
event_limits event.End g is = absurd (cc is)

pub cluster_limits : (events : List Event) (g : Geometry) → cluster_of (scheduled events) ≡ Some g → IsWithinLimits g
cluster_limits [] g is = absurd (cc is)
cluster_limits (e ∷ events) g is = event_limits e g is

pub some_event : (events : List Event) (g : Geometry) → cluster_of (scheduled events) ≡ Some g → 1 ≤ length events
some_event [] g is = absurd (cc is)
some_event (e ∷ events) g is = omega arith

pub no_event : (events : List Event) → length events ≡ 0 → cluster_of (scheduled events) ≡ None
no_event [] none = refl
no_event (e ∷ events) none = absurd (omega (arith, none))
