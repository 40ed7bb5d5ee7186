-- What a judgement says.
use Rattle.std.proofs.Common.{◌≡◌, ℕ, ◌+◌, ◌≤◌, true, false, List, [], ◌∷◌, ◌++◌, length, drop, Option, Some, None, Result, Ok, Err, refl, sym, ap, ◌∙◌, subst}
use Rattle.std.specs.Prelude.{Bool, ◌&&◌, ◌==◌, not, if◌then◌else◌}
use Rattle.sfs_base.specs.declared.no_memory.NoMemory.{NoMemory}
use Rattle.fs_rules.specs.declared.geometry.Geometry.{Geometry}
use Rattle.event_text.specs.declared.event.Event.{Event}
use Rattle.event_text.specs.declared.event.Event.TheVariants as event
use Rattle.line_text.specs.declared.line.Line.{Line}
use Rattle.line_text.specs.declared.line.Line.TheVariants as line
use Rattle.transcript_rules.specs.Opening.{Opening, Schedule}
use Rattle.transcript_rules.specs.Book.{Book}
use Rattle.transcript_rules.specs.Next.{Next, next, noted, with_next}
use Rattle.transcript_rules.specs.Place.{IsOver}
use Rattle.transcript_rules.specs.Legal.{IsAllowed}
use Rattle.transcript_facts.specs.declared.facts.Facts.{Facts}
use Rattle.transcript_judges.specs.Tests.{is_none}
use Rattle.transcript_judges.specs.Rules.{Decides}
use Rattle.transcript_next.specs.declared.next.Next.{Next as Found}
use Rattle.transcript_next.specs.Nexts.{IsNext, next_by, scheduled, coming_of}
use Rattle.transcript_next.specs.Overs.{is_over_by}
use Rattle.transcript_telling.specs.Tellings.{Notes}
use Rattle.transcript_telling.proofs.TellingLemmas.{is_plain, noted_facts}
use Rattle.transcript_checker.specs.declared.checker.Checker.{Checker}
use Rattle.transcript_checker.specs.Standing.{Stands, Judges, is_elsewhere}
use Rattle.transcript_checker.specs.Plain.{may_stand_by}
use Rattle.transcript_checker.specs.Beginning.{Begins, arriving, is_coming, is_end_of}
use Rattle.transcript_checker.proofs.PlainLemmas.{may_stand_is}
use Rattle.transcript_checker.proofs.StandLemmas.{is_keeping, keeps_line, stands_kept}
use Rattle.transcript_checker.proofs.BeginLemmas.{found_is, over_of, ready_is, begun_stands, arriving_is, not_arriving, coming_is, begins_is, refused_is}

-- nothing is said of want of memory
pub judges_none : (o : Opening) (schedule : Schedule) (n : ℕ) (book : Book) (l : Line) (after : Checker) (r : Result Bool NoMemory) (e : NoMemory) → r ≡ Err e → Judges o schedule n book l after r
judges_none o schedule n book l after r e is = rw is tt

pub refuted : {P : Type 0} → (b : Bool) → Decides b P → b ≡ false → P → ⊥
refuted b decides fails p = let yes_it = decides.from p in cc (fails, yes_it)

plain_of : (l : Line) → is_elsewhere l ≡ false → (is_plain l ≡ true) × (is_keeping l ≡ true)
plain_of (line.DoArrive arrival node) is = absurd (cc is)
plain_of (line.DoEvent e) is = absurd (cc is)
plain_of (line.Refused number) is = absurd (cc is)
plain_of line.End is = absurd (cc is)
plain_of (line.Point point arrival made) is = absurd (cc is)
plain_of (line.Reply arrival at bytes) is = absurd (cc is)
plain_of (line.Cut number at) is = absurd (cc is)
plain_of (line.Mounted number lines) is = absurd (cc is)
plain_of (line.Listed text) is = absurd (cc is)
plain_of (line.Lost k) is = (refl, refl)
plain_of (line.Down who why) is = (refl, refl)
plain_of (line.Sent k from to words) is = (refl, refl)
plain_of (line.Retry arrival why) is = (refl, refl)
plain_of (line.Dropped arrival why) is = (refl, refl)
plain_of (line.BackupDone number) is = (refl, refl)
plain_of (line.RetryBackup number why) is = (refl, refl)
plain_of (line.MountFailed number) is = (refl, refl)
plain_of (line.MountBad number) is = (refl, refl)

-- a line that keeps what the checker stands on
pub noted_stands : (o : Opening) (schedule : Schedule) (n : ℕ) (book : Book) (c : Checker) (f : Facts) (l : Line) → Stands o schedule n book c → is_plain l ≡ true → is_keeping l ≡ true → Notes c.facts l f
    → Stands o schedule (n + 1) (noted o schedule book l) (record c { facts = f })
noted_stands o schedule n book c f l stands plain keeping notes =
    stands_kept o schedule n book (noted o schedule book l) c (record c { facts = f }) stands (keeps_line o schedule book l keeping) (noted_facts o schedule book c.facts f l stands.facts plain notes)
    refl refl refl stands.kept refl

pub plain_decides : (o : Opening) (schedule : Schedule) (n : ℕ) (book : Book) (c : Checker) (l : Line) → Stands o schedule n book c → book.closed ≡ false → is_elsewhere l ≡ false
    → Decides (may_stand_by c.geometry c.facts l) (IsAllowed o schedule book l)
plain_decides o schedule n book c l stands goes plain =
    subst (λ (g : Geometry). Decides (may_stand_by g c.facts l) (IsAllowed o schedule book l)) stands.cluster (may_stand_is o schedule book c.facts l stands.facts plain goes)

pub plain_judged : (o : Opening) (schedule : Schedule) (n : ℕ) (book : Book) (c : Checker) (f : Facts) (l : Line) → Stands o schedule n book c → book.closed ≡ false → is_elsewhere l ≡ false
    → may_stand_by c.geometry c.facts l ≡ true → Notes c.facts l f → Judges o schedule n book l (record c { facts = f }) (Ok true)
plain_judged o schedule n book c f l stands goes plain may notes =
    let kind = plain_of l plain in
    ((plain_decides o schedule n book c l stands goes plain).to may, noted_stands o schedule n book c f l stands kind.0 kind.1 notes)

-- ---- lines that begin an event

module _ (o : Opening) (events : List Event) (n : ℕ) (book : Book) (c : Checker) (stands : Stands o (scheduled events) n book c) (goes : book.closed ≡ false) where
  over_is_here : Decides (is_over_by c.geometry c.facts) (IsOver o book)
  over_is_here =
      subst (λ (g : Geometry). Decides (is_over_by g c.facts) (IsOver o book)) stands.cluster (over_of o events book c.facts stands.facts goes)

  pub comes_here : (found : Found) → IsNext (next_by c.geometry c.facts c.facts.taken c.facts.drained (drop c.facts.taken (scheduled events))) found → IsNext (next o (scheduled events) book) found
  comes_here found is = found_is o events book c.facts stands.facts c.geometry found stands.cluster is

  pub ready_here : (number : ℕ) → Decides (is_over_by c.geometry c.facts && (number == length c.facts.arrivals + 1)) (IsOver o book × (number ≡ length book.arrivals + 1))
  ready_here number =
      subst (λ (g : Geometry). Decides (is_over_by g c.facts && (number == length c.facts.arrivals + 1)) (IsOver o book × (number ≡ length book.arrivals + 1))) stands.cluster
      (ready_is o events book c.facts stands.facts number goes)

  same_checker : (f : Facts) → f ≡ c.facts → record c { facts = f } ≡ c
  same_checker f is = ap (λ (x : Facts). record c { facts = x }) is

  -- ---- `do arrive`

  pub not_ready : (number node : ℕ) → (is_over_by c.geometry c.facts && (number == length c.facts.arrivals + 1)) ≡ false → IsAllowed o (scheduled events) book (line.DoArrive number node) → ⊥
  not_ready number node fails r = refuted _ (ready_here number) fails (r.place.over, r.place.number)

  pub no_arrival : (number node : ℕ) (found : Found) → IsNext (next_by c.geometry c.facts c.facts.taken c.facts.drained (drop c.facts.taken (scheduled events))) found → arriving node (coming_of found.comes) ≡ None
      → IsAllowed o (scheduled events) book (line.DoArrive number node) → ⊥
  no_arrival number node found is none r = not_arriving node (coming_of found.comes) r.place.sec r.place.usec r.place.bytes none (sym (comes_here found is).comes ∙ r.place.comes)

  pub arrive_judged : (number node : ℕ) (found : Found) (e : Event) (f : Facts) (d : Checker) → (is_over_by c.geometry c.facts && (number == length c.facts.arrivals + 1)) ≡ true
      → IsNext (next_by c.geometry c.facts c.facts.taken c.facts.drained (drop c.facts.taken (scheduled events))) found → arriving node (coming_of found.comes) ≡ Some e → found.taken ≤ length (scheduled events)
      → f ≡ c.facts → Begins (record c { facts = f }) found.taken found.drained e d → Judges o (scheduled events) n book (line.DoArrive number node) d (Ok true)
  unfolding noted
  arrive_judged number node found e f d ready is comes within same begins =
      let next_is = comes_here found is in
      let t = arriving_is node (coming_of found.comes) e comes in
      let r = (ready_here number).to ready in
      let come : (next o (scheduled events) book).comes ≡ Some e = next_is.comes ∙ t.0 in (
        record {
          ongoing = goes;
          true_line = record { none = r.0.told };
          carried = tt;
          cause = tt;
          place = record { over = r.0; number = r.1; sec = t.1.0; usec = t.1.1; bytes = t.1.2; comes = come ∙ ap Some t.1.3 };
        },
        begun_stands o (scheduled events) n book c d (next o (scheduled events) book) e found.taken found.drained stands (subst (λ (x : Checker). Begins x found.taken found.drained e d) (same_checker f same) begins)
            come next_is.taken next_is.drained within,
      )

  -- ---- `do` with another event

  pub not_over : (e : Event) → is_over_by c.geometry c.facts ≡ false → IsAllowed o (scheduled events) book (line.DoEvent e) → ⊥
  not_over e fails r = refuted _ over_is_here fails r.place.over

  pub not_begun : (e : Event) (found : Found) → IsNext (next_by c.geometry c.facts c.facts.taken c.facts.drained (drop c.facts.taken (scheduled events))) found → (not (is_end_of e) && is_coming e (coming_of found.comes)) ≡ false
      → IsAllowed o (scheduled events) book (line.DoEvent e) → ⊥
  not_begun e found is fails r = refuted _ (begins_is e (coming_of found.comes)) fails (r.place.more, sym (comes_here found is).comes ∙ r.place.comes)

  pub event_judged : (found : Found) (e : Event) (f : Facts) (d : Checker) → is_over_by c.geometry c.facts ≡ true
      → IsNext (next_by c.geometry c.facts c.facts.taken c.facts.drained (drop c.facts.taken (scheduled events))) found → (not (is_end_of e) && is_coming e (coming_of found.comes)) ≡ true → found.taken ≤ length (scheduled events)
      → f ≡ c.facts → Begins (record c { facts = f }) found.taken found.drained e d → Judges o (scheduled events) n book (line.DoEvent e) d (Ok true)
  unfolding noted
  event_judged found e f d over is comes within same begins =
      let next_is = comes_here found is in
      let t = (begins_is e (coming_of found.comes)).to comes in
      let r = over_is_here.to over in
      let come : (next o (scheduled events) book).comes ≡ Some e = next_is.comes ∙ t.1 in (
        record { ongoing = goes; true_line = record { none = r.told }; carried = tt; cause = tt; place = record { over = r; comes = come; more = t.0 } },
        begun_stands o (scheduled events) n book c d (next o (scheduled events) book) e found.taken found.drained stands (subst (λ (x : Checker). Begins x found.taken found.drained e d) (same_checker f same) begins)
            come next_is.taken next_is.drained within,
      )

  -- ---- the last line

  pub end_not_over : is_over_by c.geometry c.facts ≡ false → IsAllowed o (scheduled events) book line.End → ⊥
  end_not_over fails r = refuted _ over_is_here fails r.place.over

  pub not_end_yet : (found : Found) → IsNext (next_by c.geometry c.facts c.facts.taken c.facts.drained (drop c.facts.taken (scheduled events))) found → is_coming event.End (coming_of found.comes) ≡ false
      → IsAllowed o (scheduled events) book line.End → ⊥
  not_end_yet found is fails r = refuted _ (coming_is event.End (coming_of found.comes)) fails (sym (comes_here found is).comes ∙ r.place.comes)

  pub end_judged : (found : Found) (f f' : Facts) → is_over_by c.geometry c.facts ≡ true → IsNext (next_by c.geometry c.facts c.facts.taken c.facts.drained (drop c.facts.taken (scheduled events))) found
      → is_coming event.End (coming_of found.comes) ≡ true → f ≡ c.facts → Notes f line.End f' → Judges o (scheduled events) n book line.End (record c { facts = f' }) (Ok true)
  end_judged found f f' over is comes same notes =
      let next_is = comes_here found is in
      let r = over_is_here.to over in (
        record { ongoing = goes; true_line = record { none = r.told }; carried = tt; cause = tt; place = record { over = r; comes = next_is.comes ∙ (coming_is event.End (coming_of found.comes)).to comes } },
        noted_stands o (scheduled events) n book c f' line.End stands refl refl (subst (λ (x : Facts). Notes x line.End f') same notes),
      )

  pub refusal_not_over : (number : ℕ) → is_over_by c.geometry c.facts ≡ false → IsAllowed o (scheduled events) book (line.Refused number) → ⊥
  refusal_not_over number fails r = refuted _ over_is_here fails r.place.over

  pub not_refused : (number : ℕ) (found : Found) → IsNext (next_by c.geometry c.facts c.facts.taken c.facts.drained (drop c.facts.taken (scheduled events))) found
      → (is_none (coming_of found.comes) && (number == found.taken + 1)) ≡ false → IsAllowed o (scheduled events) book (line.Refused number) → ⊥
  not_refused number found is fails r =
      let next_is = comes_here found is in
      refuted _ (refused_is (coming_of found.comes) found.taken number) fails (sym next_is.comes ∙ r.place.none, r.place.number_is ∙ ap (λ (m : ℕ). m + 1) next_is.taken)

  pub refusal_judged : (number : ℕ) (found : Found) (f f' : Facts) → is_over_by c.geometry c.facts ≡ true → IsNext (next_by c.geometry c.facts c.facts.taken c.facts.drained (drop c.facts.taken (scheduled events))) found
      → (is_none (coming_of found.comes) && (number == found.taken + 1)) ≡ true → f ≡ c.facts → Notes f (line.Refused number) f' → Judges o (scheduled events) n book (line.Refused number) (record c { facts = f' }) (Ok true)
  refusal_judged number found f f' over is comes same notes =
      let next_is = comes_here found is in
      let r = over_is_here.to over in
      let t = (refused_is (coming_of found.comes) found.taken number).to comes in (
        record {
          ongoing = goes;
          true_line = record { none = r.told };
          carried = tt;
          cause = tt;
          place = record { over = r; none = next_is.comes ∙ t.0; number_is = t.1 ∙ ap (λ (m : ℕ). m + 1) (sym next_is.taken) };
        },
        noted_stands o (scheduled events) n book c f' (line.Refused number) stands refl refl (subst (λ (x : Facts). Notes x (line.Refused number) f') same notes),
      )
