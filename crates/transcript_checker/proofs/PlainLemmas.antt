-- What the test of a line that needs no tree decides.
use Rattle.std.proofs.Common.{inl, inr, ◌≡◌, ◌≢◌, ℕ, ◌+◌, true, false, cond, not, List, [], ◌∷◌, length, Option, Some, None, refl, sym, ap, ◌∙◌, subst}
use Rattle.std.specs.Prelude.{Bool, ◌&&◌, if◌then◌else◌}
use Rattle.fs_rules.specs.declared.plain_tree.PlainTree.{PlainTree}
use Rattle.nfs_service.specs.Reply.{heard}
use Rattle.event_text.specs.declared.event.Event.{Event}
use Rattle.line_text.specs.declared.line.Line.{Line}
use Rattle.line_text.specs.declared.line.Line.TheVariants as line
use Rattle.line_text.specs.declared.down_why.DownWhy.TheVariants as down
use Rattle.transcript_rules.specs.declared.arrival.Arrival.{Arrival}
use Rattle.transcript_rules.specs.Opening.{Opening, Schedule}
use Rattle.transcript_rules.specs.Book.{Book, numbered, running_backup}
use Rattle.transcript_rules.specs.Next.{is_there}
use Rattle.transcript_rules.specs.Truth.{OwesNone, IsTrueRetry, IsTrueDrop, IsTrueDone, IsMounting}
use Rattle.transcript_rules.specs.Cause.{IsCausedRetry, IsCausedDrop, HasBackupCause}
use Rattle.transcript_rules.specs.Place.{IsUnder, IsPosting, IsLoss}
use Rattle.transcript_rules.specs.Legal.{IsAllowed}
use Rattle.transcript_book.specs.Sayings.{AreSaid}
use Rattle.transcript_facts.specs.declared.facts.Facts.{Facts}
use Rattle.transcript_facts.specs.Now.{now_of}
use Rattle.transcript_facts.specs.Facts.{AreFacts, book_of, is_nil}
use Rattle.transcript_judges.specs.Tests
use Rattle.transcript_judges.specs.Tests.{holds_of}
use Rattle.transcript_judges.specs.Rules.{Decides}
use Rattle.transcript_judges.proofs.Deciding.{both, as_of, as_test}
use Rattle.transcript_judges.proofs.KindLemmas.{nil_is}
use Rattle.transcript_judges.proofs.TestLemmas.{under_is, posts_is, loses_is, falls_is, retries_is, drops_is, ends_is, fails_is, mounts_is}
use Rattle.transcript_checker.specs.Plain.{has_place, may_tell_by, may_stand_by}
use Rattle.transcript_checker.specs.Standing.{is_elsewhere}

never : {P : Type 0} → (P → ⊥) → Decides false P
never no_way = record { to = λ e. absurd (cc e); from = λ p. absurd (no_way p) }

if_and : (a b : Bool) → (if a then b else false) ≡ (a && b)
if_and true b = refl
if_and false b = refl

-- where a first test fails, there is no second
pub both_if : {a b : Bool} {P Q : Type 0} → Decides a P → Decides b Q → Decides (if a then b else false) (P × Q)
both_if {a} {b} p q = as_test (if_and a b) (both p q)

-- of an arrival that there may be
pub of_arrival : (f : Arrival → Bool) (P : Type 0) (x : Option Arrival) → ((a : Arrival) → x ≡ Some a → Decides (f a) P) → (P → (a : Arrival) × (x ≡ Some a)) → Decides (holds_of f x) P
of_arrival f P None each came = never (λ p. cc ((came p).1))
of_arrival f P (Some a) each came = each a refl

module _ (o : Opening) (schedule : Schedule) (f : Facts) (e : Option Event) (said : List Line) (trees : List PlainTree) (now : f.event ≡ now_of e) (are : AreSaid said f.said) (points : length trees ≡ f.points + 1) where
  pub placed : (l : Line) → Decides (has_place f l) (OwesNone (book_of f e said trees) × IsUnder (book_of f e said trees) l)
  placed l = both (as_of (λ t. record { none = t }) (λ r. r.none) (nil_is f.owed)) (under_is o f e said trees now are points l)

  retry_told : (arrival : ℕ) (why : _) → Decides (holds_of (Tests.retries_well f arrival why) (numbered f.arrivals arrival)) (IsTrueRetry (book_of f e said trees) arrival × IsCausedRetry (book_of f e said trees) arrival why)
  retry_told arrival why =
      of_arrival (Tests.retries_well f arrival why) _ (numbered f.arrivals arrival) (λ a came. retries_is o f e said trees now are points arrival why a came) (λ t. (t.1.a, t.1.came))

  drop_told : (arrival : ℕ) (why : _)
      → Decides (holds_of (λ a. Tests.drops_well o.geometry f why a (heard a.bytes)) (numbered f.arrivals arrival)) (IsTrueDrop (book_of f e said trees) arrival why × IsCausedDrop o (book_of f e said trees) arrival why)
  drop_told arrival why =
      of_arrival (λ a. Tests.drops_well o.geometry f why a (heard a.bytes)) _ (numbered f.arrivals arrival) (λ a came. drops_is o f e said trees now are points arrival why a came)
      (λ t. (t.0.a, t.0.came))

  pub allowed_is : (l : Line) → is_elsewhere l ≡ false → f.closed ≡ false → Decides (may_stand_by o.geometry f l) (IsAllowed o schedule (book_of f e said trees) l)
  allowed_is (line.Lost k) plain goes =
      as_of (λ t. record { ongoing = goes; true_line = t.0.0; carried = tt; cause = tt; place = (t.0.1, t.1) }) (λ r. ((r.true_line, r.place.0), r.place.1))
      (both_if (placed (line.Lost k)) (loses_is o f e said trees now are points k))
  allowed_is (line.Down who why) plain goes =
      as_of (λ t. record { ongoing = goes; true_line = (t.0.0, t.1.0); carried = tt; cause = tt; place = (t.0.1, t.1.1) }) (λ r. ((r.true_line.0, r.place.0), (r.true_line.1, r.place.1)))
      (both_if (placed (line.Down who why)) (falls_is o f e said trees now are points who why))
  allowed_is (line.Sent k from to words) plain goes =
      as_of (λ t. record { ongoing = goes; true_line = t.0.0; carried = tt; cause = tt; place = (t.0.1, t.1) }) (λ r. ((r.true_line, r.place.0), r.place.1))
      (both_if (placed (line.Sent k from to words)) (posts_is o f e said trees now are points k from to words))
  allowed_is (line.Retry arrival why) plain goes =
      as_of (λ t. record { ongoing = goes; true_line = (t.0.0, t.1.0); carried = tt; cause = t.1.1; place = t.0.1 }) (λ r. ((r.true_line.0, r.place), (r.true_line.1, r.cause)))
      (both_if (placed (line.Retry arrival why)) (retry_told arrival why))
  allowed_is (line.Dropped arrival why) plain goes =
      as_of (λ t. record { ongoing = goes; true_line = (t.0.0, t.1.0); carried = tt; cause = t.1.1; place = t.0.1 }) (λ r. ((r.true_line.0, r.place), (r.true_line.1, r.cause)))
      (both_if (placed (line.Dropped arrival why)) (drop_told arrival why))
  allowed_is (line.BackupDone number) plain goes =
      as_of (λ t. record { ongoing = goes; true_line = (t.0.0, t.1); carried = tt; cause = tt; place = t.0.1 }) (λ r. ((r.true_line.0, r.place), r.true_line.1))
      (both_if (placed (line.BackupDone number)) (ends_is o f e said trees now are points number))
  allowed_is (line.RetryBackup number why) plain goes =
      as_of (λ t. record { ongoing = goes; true_line = (t.0.0, t.1.0); carried = tt; cause = t.1.1; place = t.0.1 }) (λ r. ((r.true_line.0, r.place), (r.true_line.1, r.cause)))
      (both_if (placed (line.RetryBackup number why)) (fails_is o f e said trees now are points number why))
  allowed_is (line.MountFailed number) plain goes =
      as_of (λ t. record { ongoing = goes; true_line = (t.0.0, t.1); carried = tt; cause = tt; place = t.0.1 }) (λ r. ((r.true_line.0, r.place), r.true_line.1))
      (both_if (placed (line.MountFailed number)) (mounts_is o f e said trees now are points number))
  allowed_is (line.MountBad number) plain goes =
      as_of (λ t. absurd (cc (t.1))) (λ r. absurd (r.true_line)) (both_if (placed (line.MountBad number)) (never (λ (p : false ≡ true). cc p)))
  allowed_is (line.DoArrive arrival node) plain goes = absurd (cc plain)
  allowed_is (line.DoEvent x) plain goes = absurd (cc plain)
  allowed_is (line.Refused number) plain goes = absurd (cc plain)
  allowed_is line.End plain goes = absurd (cc plain)
  allowed_is (line.Point point arrival made) plain goes = absurd (cc plain)
  allowed_is (line.Reply arrival at bytes) plain goes = absurd (cc plain)
  allowed_is (line.Cut number at) plain goes = absurd (cc plain)
  allowed_is (line.Mounted number lines) plain goes = absurd (cc plain)
  allowed_is (line.Listed text) plain goes = absurd (cc plain)

-- of a book that the facts are those of
pub closed_is : (book : Book) (f : Facts) → AreFacts book f → book.closed ≡ false → f.closed ≡ false
closed_is book f are goes = sym (ap (λ (b : Book). b.closed) are.is) ∙ goes

pub may_stand_is : (o : Opening) (schedule : Schedule) (book : Book) (f : Facts) (l : Line) → AreFacts book f → is_elsewhere l ≡ false → book.closed ≡ false
    → Decides (may_stand_by o.geometry f l) (IsAllowed o schedule book l)
may_stand_is o schedule book f l are plain goes =
    subst (λ (b : Book). Decides (may_stand_by o.geometry f l) (IsAllowed o schedule b l)) (sym are.is)
    (allowed_is o schedule f are.e are.said are.trees are.running are.are are.points l plain (closed_is book f are goes))
