-- What the tests of facts decide, of the book that the facts are those of.
use Rattle.std.proofs.Common.{inl, inr, ◌≡◌, ◌≢◌, ℕ, ◌+◌, ◌<◌, true, false, not, List, length, Option, Some, None, refl, ap, ◌∙◌, subst, arith}
use Rattle.std.specs.Prelude.{Bool, ◌&&◌, ◌==◌, nat_le, if◌then◌else◌, ◌⊎◌, is_some, count_by, option_and_then}
use Rattle.std.specs.List.{list_any}
use Rattle.fs_rules.specs.declared.plain_tree.PlainTree.{PlainTree}
use Rattle.mini_tx.specs.declared.actor.Actor.{Actor}
use Rattle.mini_tx.specs.declared.actor.Actor.TheVariants.{Node, Memory, Manager}
use Rattle.nfs_service.specs.Needs.{needs_files}
use Rattle.nfs_service.specs.Reply.{heard}
use Rattle.event_text.specs.declared.event.Event.{Event}
use Rattle.line_text.specs.declared.backup_why.BackupWhy.{BackupWhy}
use Rattle.line_text.specs.declared.backup_why.BackupWhy.TheVariants as backup
use Rattle.line_text.specs.declared.down_why.DownWhy.{DownWhy}
use Rattle.line_text.specs.declared.down_why.DownWhy.TheVariants as down
use Rattle.line_text.specs.declared.drop_why.DropWhy.{DropWhy}
use Rattle.line_text.specs.declared.drop_why.DropWhy.TheVariants as drop
use Rattle.line_text.specs.declared.line.Line.{Line}
use Rattle.line_text.specs.declared.retry_why.RetryWhy.{RetryWhy}
use Rattle.line_text.specs.declared.retry_why.RetryWhy.TheVariants as retry
use Rattle.line_text.specs.declared.sent_kind.SentKind.{SentKind}
use Rattle.line_text.specs.declared.sent_kind.SentKind.TheVariants as sent
use Rattle.transcript_rules.specs.declared.arrival.Arrival.{Arrival}
use Rattle.transcript_rules.specs.declared.backup.Backup.{Backup}
use Rattle.transcript_rules.specs.declared.post.Post.{Post}
use Rattle.transcript_rules.specs.Opening.{Opening}
use Rattle.transcript_rules.specs.Book.{numbered, is_actor, first_open, handled_now, points_of, running_backup}
use Rattle.transcript_rules.specs.Next.{is_there}
use Rattle.transcript_rules.specs.Truth.{may_change, may_drop, EndsInOrder, IsTrueRetry, IsTrueDrop, IsTrueCut, IsTrueDone, IsMounting}
use Rattle.transcript_rules.specs.Carried.{is_prepare, last_attempt, have_votes, RestsOnVote, RestsOnAll}
use Rattle.transcript_rules.specs.Cause.{is_refused_since, IsEighth, HasRetryCause, HasDropCause, IsHeardByManager, HasBackupCause, IsCausedRetry, IsCausedDrop}
use Rattle.transcript_rules.specs.Place.{rank, is_behind, answers, is_sent, is_sent_by_memory, IsUnder, IsSentBy, IsPosting, IsLoss}
use Rattle.transcript_book.specs.Sayings.{AreSaid}
use Rattle.transcript_facts.specs.declared.facts.Facts.{Facts}
use Rattle.transcript_facts.specs.Now.{now_of, delivered_in}
use Rattle.transcript_facts.specs.Facts.{book_of, running_in, running_by}
use Rattle.transcript_judges.specs.Tests
use Rattle.transcript_judges.specs.Tests.{holds_of, is_number, handled, words_between, is_down, is_from_one, is_whole, is_lost}
use Rattle.transcript_judges.specs.Rules.{Decides, Names, MayReply, MayPoint}
use Rattle.transcript_judges.proofs.Deciding.{both, either_of, as_of, as_test, it_is, it_is_not, same_numbers, is_below, is_at_most, only_if, found, is_this, is_nothing}
use Rattle.transcript_judges.proofs.KindLemmas.{same_actor, of_memory, prepares, grants, mismatches, locks, votes_held, forces, holds_locked, loses_cut, is_of_cut, silences, none_is, some_is, some_event, handed_by, delivered_by, tells_up, shows_one, memory_starts}

never : {P : Type 0} → (P → ⊥) → Decides false P
never no_way = record { to = λ e. absurd (cc e); from = λ p. absurd (no_way p) }

-- which backup runs
pub running_is : (backups : List Backup) → running_in backups ≡ option_and_then (λ (b : Backup). if b.over then None else Some (length backups)) (numbered backups (length backups))
running_is backups = by (numbered backups (length backups)) where
  by : (o : Option Backup) → running_by (length backups) o ≡ option_and_then (λ (b : Backup). if b.over then None else Some (length backups)) o
  by None = refl
  by (Some b) = refl

-- what is said between two actors
between : (f : SentKind → Bool) (P : SentKind → Type 0) → ((w : SentKind) → Decides (f w) (P w)) → (from to : Actor) (o : Option Post)
    → Decides (holds_of f (words_between from to o)) ((p : Post) × (o ≡ Some p) × (p.from ≡ from) × (p.to ≡ to) × P p.words)
between f P each from to None = never (λ t. cc (t.1))
between f P each from to (Some p) = as_of there back (only_between (is_actor p.from from && is_actor p.to to) p.words)
  where
    only_between : (b : Bool) (w : SentKind) → Decides (holds_of f (if b then Some w else None)) ((b ≡ true) × P w)
    only_between true w = as_of (λ x. (refl, x)) (λ t. t.1) (each w)
    only_between false w = never (λ t. cc (t.0))

    ends : Decides (is_actor p.from from && is_actor p.to to) ((p.from ≡ from) × (p.to ≡ to))
    ends = both (same_actor p.from from) (same_actor p.to to)

    there : ((is_actor p.from from && is_actor p.to to) ≡ true) × P p.words → (q : Post) × (Some p ≡ Some q) × (q.from ≡ from) × (q.to ≡ to) × P q.words
    there t = let e = ends.to t.0 in (p, refl, e.0, e.1, t.1)

    same_post : (q : Post) → Some p ≡ Some q → q ≡ p
    same_post q e = cc e

    back : (q : Post) × (Some p ≡ Some q) × (q.from ≡ from) × (q.to ≡ to) × P q.words → ((is_actor p.from from && is_actor p.to to) ≡ true) × P p.words
    back t = let same = same_post t.0 t.1 in (ends.from (subst (λ (q : Post). (q.from ≡ from) × (q.to ≡ to)) same (t.2, t.3)), subst (λ (q : Post). P q.words) same t.4)

module _ (o : Opening) (f : Facts) (e : Option Event) (said : List Line) (trees : List PlainTree) (now : f.event ≡ now_of e) (are : AreSaid said f.said) (points : length trees ≡ f.points + 1) where
  points_are : f.points ≡ points_of (book_of f e said trees)
  points_are = omega (arith, points)

  handed : handled f ≡ handled_now (book_of f e said trees)
  handed = ap (λ n. Tests.post_of f.mail (delivered_in n)) now ∙ handed_by f.mail e

  -- ---- places

  pub under_is : (l : Line) → Decides (Tests.is_under f l) (IsUnder (book_of f e said trees) l)
  under_is l = as_of (λ t. record { e = t.0.0; under = t.0.1; ordered = t.1 }) (λ r. ((r.e, r.under), r.ordered))
      (both (as_test (ap Tests.runs now) (some_event e)) (as_test (are.highest (rank l)) (it_is (is_behind l said))))

  sends : (from : Actor) (words : SentKind) → Decides (Tests.may_send f.said (handled f) from words) (IsSentBy (book_of f e said trees) from words)
  sends (Node n) words = as_test (ap not are.sent_by_memory) (it_is_not (list_any is_sent_by_memory said))
  sends (Memory m) words =
      as_of (λ t. record { p = t.0.0; handled = t.0.1; to = t.0.2.0; by_kind = t.0.2.1; only = t.1 }) (λ r. ((r.p, r.handled, (r.to, r.by_kind)), r.only))
      (both (as_test (ap (holds_of (Tests.answers_at m words)) handed)
      (found (Tests.answers_at m words) (λ p. (p.to ≡ Memory m) × (answers p.words words ≡ true)) (handled_now (book_of f e said trees))
      (λ p. both (same_actor p.to (Memory m)) (it_is (answers p.words words)))))
      (as_test (ap not are.sent) (it_is_not (list_any is_sent said))))
  sends Manager words = as_test (ap not are.sent_by_memory) (it_is_not (list_any is_sent_by_memory said))

  pub posts_is : (k : ℕ) (from to : Actor) (words : SentKind) → Decides (Tests.posts_well o.geometry f k from to words) (IsPosting o (book_of f e said trees) k from to words)
  posts_is k from to words =
      as_of (λ t. record { number = t.0.0.0; from_is_there = t.0.0.1; to_is_there = t.0.1; sender = t.1 }) (λ r. (((r.number, r.from_is_there), r.to_is_there), r.sender))
      (both (both (both (same_numbers k (length f.mail + 1)) (it_is (is_there o.geometry from))) (it_is (is_there o.geometry to))) (sends from words))

  not_up : (who : Actor) → Decides (is_down f who) (not (list_any (is_actor who) f.down) ≡ false)
  not_up who = record { to = λ t. ap not t; from = λ t. by (list_any (is_actor who) f.down) t } where
    by : (b : Bool) → not b ≡ false → b ≡ true
    by true t = refl
    by false t = absurd (cc t)

  pub loses_is : (k : ℕ) → Decides (Tests.loses_well f k) (IsLoss (book_of f e said trees) k)
  loses_is k =
      as_of (λ t. record { delivers = t.0.0; p = t.1.0; posted = t.1.1; down = t.1.2; first = t.0.1 }) (λ r. ((r.delivers, r.first), (r.p, r.posted, r.down)))
      (both (both (as_test (ap (is_number k) (ap delivered_in now ∙ delivered_by e)) (is_this k _)) (as_test are.none (none_is said)))
      (found (λ p. is_down f p.to) (λ p. not (list_any (is_actor p.to) f.down) ≡ false) (numbered f.mail k) (λ p. not_up p.to)))

  pub falls_is : (who : Actor) (why : DownWhy) → Decides (Tests.falls_well o.geometry who why) ((why ≢ down.Damaged) × (is_there o.geometry who ≡ true))
  falls_is who down.Damaged = never (λ t. t.0 refl)
  falls_is who why = as_of (λ t. ((λ z. cc z), t)) (λ t. t.1) (it_is (is_there o.geometry who))

  -- ---- arrivals

  ordered : (number : ℕ) (a : Arrival) → Decides (Tests.in_order f number a) (EndsInOrder (book_of f e said trees) number a)
  ordered number a = as_of (λ t. record { in_order = t }) (λ r. r.in_order) (only_if (is_below a.under f.under) (is_this number (first_open a.node 1 f.arrivals)))

  pub points_is : (point : ℕ) (a : Arrival) → Decides (Tests.points_well f point a) (MayPoint (book_of f e said trees) point a)
  points_is point a =
      as_of (λ t. record { number = t.0.0.0; first = t.0.0.1; may = t.0.1; under = t.1 }) (λ r. (((r.number, r.first), r.may), r.under))
      (both (both (both (as_test (ap (λ n. point == n + 1) points_are) (same_numbers point (points_of (book_of f e said trees) + 1))) (is_nothing a.point)) (it_is (may_change a.ended)))
      (either_of
      (as_of (λ t. record { p = t.0; handled = t.1; from = t.2.0; prepare = t.2.1 }) (λ r. (r.p, r.handled, (r.from, r.prepare)))
      (as_test (ap (holds_of (λ (p : Post). is_actor p.from (Node a.node) && is_prepare p.words)) handed)
      (found (λ (p : Post). is_actor p.from (Node a.node) && is_prepare p.words) (λ p. (p.from ≡ Node a.node) × (p.words ≡ sent.Prepare)) (handled_now (book_of f e said trees))
      (λ p. both (same_actor p.from (Node a.node)) (prepares p.words)))))
      (as_of (λ t. record { m = t.0; started = t.1 }) (λ r. (r.m, r.started)) (as_test (ap Tests.starts_one now) (memory_starts e)))))

  names_is : (at before : ℕ) (point : Option ℕ) → Decides (Tests.names_well f.points at before point) (Names (points_of (book_of f e said trees)) at before point)
  names_is at before None = as_test (ap (λ n. nat_le before at && nat_le at n) points_are) (both (is_at_most before at) (is_at_most at _))
  names_is at before (Some point) = same_numbers at point

  voted : (a : Arrival) → Decides (holds_of (Tests.votes_for a) (handled f)) (RestsOnVote (book_of f e said trees) a)
  voted a =
      as_of (λ t. record { p = t.0; m = t.2.0.0.0.0; handled = t.1; from = t.2.0.0.0.1; to = t.2.0.0.1; granted = t.2.0.1; after = t.2.1 })
      (λ r. (r.p, r.handled, ((((r.m, r.from), r.to), r.granted), r.after)))
      (as_test (ap (holds_of (Tests.votes_for a)) handed)
      (found (Tests.votes_for a) (λ p. (((((m : ℕ) × (p.from ≡ Memory m)) × (p.to ≡ Node a.node)) × (p.words ≡ sent.VoteOk)) × (a.under < p.under))) (handled_now (book_of f e said trees))
      (λ p. both (both (both (of_memory p.from) (same_actor p.to (Node a.node))) (grants p.words)) (is_below a.under p.under))))

  all_voted : (a : Arrival) → Decides (Tests.has_all_votes f a) (RestsOnAll (book_of f e said trees) a)
  all_voted a = as_of (λ t. record { all = λ point is. t (point, is) }) (λ r t. r.all t.0 t.1)
      (only_if (some_is a.point) (it_is (have_votes f.mail a.node (last_attempt a.node f.under f.mail))))

  pub replies_is : (number at : ℕ) (a : Arrival) → Decides (Tests.replies_well o.geometry f number at a (heard a.bytes)) (MayReply o (book_of f e said trees) number at a)
  replies_is number at a =
      as_of (λ t. record { runs = t.0.0.0.0.0; order = t.0.0.0.0.1; names = t.0.0.0.1; at_once = t.0.0.1; later = t.0.1; whole = t.1 })
      (λ r. (((((r.runs, r.order), r.names), r.at_once), r.later), r.whole))
      (both (both (both (both (both (is_nothing a.ended) (ordered number a)) (names_is at a.points a.point))
      (only_if (same_numbers a.under f.under) (both (it_is (not (is_down f (Node a.node)))) (it_is_not (needs_files o.geometry (heard a.bytes))))))
      (only_if (is_below a.under f.under) (both (it_is (needs_files o.geometry (heard a.bytes))) (voted a))))
      (all_voted a))

  eighth : (kind : SentKind → Bool) (vote : SentKind) → ((w : SentKind) → Decides (kind w) (w ≡ vote)) → (a : Arrival) (m : ℕ)
      → Decides (Tests.is_eighth f a m kind) (IsEighth (book_of f e said trees) a m vote)
  eighth kind vote each a m =
      as_of (λ t. record { p = t.0.0; handled = t.0.1; from = t.0.2; to = t.0.3; vote_is = t.0.4; others = t.1 }) (λ r. ((r.p, r.handled, r.from, r.to, r.vote_is), r.others))
      (both (as_test (ap (λ x. holds_of kind (words_between (Memory m) (Node a.node) x)) handed) (between kind (λ w. w ≡ vote) each (Memory m) (Node a.node) (handled_now (book_of f e said trees))))
      (is_at_most 8 (count_by (is_refused_since a.node a.under) f.mail)))

  retry_caused : (number : ℕ) (a : Arrival) (why : RetryWhy) → Decides (Tests.has_retry_cause f number a why) (HasRetryCause (book_of f e said trees) number a why)
  retry_caused number a (retry.Mismatch memory at) = eighth Tests.is_mismatch sent.VoteMismatch mismatches a memory
  retry_caused number a (retry.Locked memory holder) = eighth Tests.is_locked sent.VoteLocked locks a memory
  retry_caused number a (retry.Held memory cut) = as_of (λ t. (t.0, record { held = t.1 })) (λ t. (t.0, t.1.held)) (both (eighth Tests.is_vote_held sent.VoteHeld votes_held a memory) (it_is _))
  retry_caused number a (retry.Forced memory) = as_of (λ t. (t.0, record { forced = t.1 })) (λ t. (t.0, t.1.forced)) (both (eighth Tests.is_forced sent.VoteForced forces a memory) (it_is _))
  retry_caused number a retry.Unreached =
      as_of (λ t. record { told = t.0; runs = t.1 }) (λ r. (r.told, r.runs))
      (both (as_test (ap (λ n. Tests.gives_up n (Node a.node)) now) (tells_up e (Node a.node))) (is_this number (first_open a.node 1 f.arrivals)))

  pub retries_is : (number : ℕ) (why : RetryWhy) (a : Arrival) → numbered f.arrivals number ≡ Some a
      → Decides (Tests.retries_well f number why a) (IsTrueRetry (book_of f e said trees) number × IsCausedRetry (book_of f e said trees) number why)
  retries_is number why a came =
      as_of (λ t. (record { a = a; runs = record { came = came; runs = t.0.0 }; order = t.0.1 }, record { a = a; came = came; cause = t.1 })) back
      (both (both (is_nothing a.ended) (ordered number a)) (retry_caused number a why))
    where
      back : IsTrueRetry (book_of f e said trees) number × IsCausedRetry (book_of f e said trees) number why
          → ((a.ended ≡ None) × EndsInOrder (book_of f e said trees) number a) × HasRetryCause (book_of f e said trees) number a why
      back t =
          let one : t.0.a ≡ a = cc (t.0.runs.came, came) in
          let two : t.1.a ≡ a = cc (t.1.came, came) in (
            subst (λ (x : Arrival). (x.ended ≡ None) × EndsInOrder (book_of f e said trees) number x) one (t.0.runs.runs, t.0.order),
            subst (λ (x : Arrival). HasRetryCause (book_of f e said trees) number x why) two t.1.cause,
          )

  drop_caused : (a : Arrival) (why : DropWhy) → Decides (Tests.has_drop_cause o.geometry f a (heard a.bytes) why) (((memory at : ℕ) → why ≡ drop.Damaged memory at → ⊥) × HasDropCause o (book_of f e said trees) a why)
  drop_caused a drop.Down = as_of (λ t. ((λ m at z. cc z), t)) (λ t. t.1) (not_up (Node a.node))
  drop_caused a drop.Silent = as_of (λ t. ((λ m at z. cc z), (record { up = t.0 }, t.1))) (λ t. (t.1.0.up, t.1.1)) (both (it_is (not (is_down f (Node a.node)))) (silences (heard a.bytes)))
  drop_caused a drop.Full =
      as_of (λ t. ((λ m at z. cc z), (record { up = t.0.0 }, t.0.1, t.1))) (λ t. ((t.1.0.up, t.1.1), t.1.2))
      (both (both (it_is (not (is_down f (Node a.node)))) (it_is (needs_files o.geometry (heard a.bytes)))) (is_at_most 33 _))
  drop_caused a (drop.Damaged memory at) = never (λ t. t.0 memory at refl)

  pub drops_is : (number : ℕ) (why : DropWhy) (a : Arrival) → numbered f.arrivals number ≡ Some a
      → Decides (Tests.drops_well o.geometry f why a (heard a.bytes)) (IsTrueDrop (book_of f e said trees) number why × IsCausedDrop o (book_of f e said trees) number why)
  drops_is number why a came =
      as_of (λ t. (record { a = a; came = came; may = t.0.0; whole = t.1.0 }, record { a = a; came = came; at_once = t.0.1; cause = t.1.1 })) back
      (both (both (it_is (may_drop a.ended)) (same_numbers a.under f.under)) (drop_caused a why))
    where
      back : IsTrueDrop (book_of f e said trees) number why × IsCausedDrop o (book_of f e said trees) number why
          → ((may_drop a.ended ≡ true) × (a.under ≡ f.under)) × (((memory at : ℕ) → why ≡ drop.Damaged memory at → ⊥) × HasDropCause o (book_of f e said trees) a why)
      back t =
          let one : t.0.a ≡ a = cc (t.0.came, came) in
          let two : t.1.a ≡ a = cc (t.1.came, came) in (
            (subst (λ (x : Arrival). may_drop x.ended ≡ true) one t.0.may, subst (λ (x : Arrival). x.under ≡ f.under) two t.1.at_once),
            (t.0.whole, subst (λ (x : Arrival). HasDropCause o (book_of f e said trees) x why) two t.1.cause),
          )

  -- ---- backups

  runs_is : (number : ℕ) → Decides (is_number number (running_in f.backups)) (running_backup (book_of f e said trees) ≡ Some number)
  runs_is number = as_test (ap (is_number number) (running_is f.backups)) (is_this number _)

  pub cuts_is : (number at : ℕ) → Decides (Tests.cuts_well f number at) (IsTrueCut (book_of f e said trees) number at)
  cuts_is number at =
      as_of (λ t. record { at_is = t.0.0; runs = t.0.1; b = t.1.0; there = t.1.1; first = t.1.2 }) (λ r. ((r.at_is, r.runs), (r.b, r.there, r.first)))
      (both (both (as_test (ap (λ n. at == n) points_are) (same_numbers at _)) (runs_is number))
      (found (λ (b : Backup). Tests.is_none b.cut) (λ b. b.cut ≡ None) (numbered f.backups number) (λ b. is_nothing b.cut)))

  pub ends_is : (number : ℕ) → Decides (Tests.ends_well f number) (IsTrueDone (book_of f e said trees) number)
  ends_is number =
      as_of (λ t. record { runs = t.0; b = t.1.0; there = t.1.1; at = t.1.2.0; cut = t.1.2.1 }) (λ r. (r.runs, (r.b, r.there, (r.at, r.cut))))
      (both (runs_is number)
      (found (λ (b : Backup). is_some b.cut) (λ b. (at : ℕ) × (b.cut ≡ Some at)) (numbered f.backups number) (λ b. some_is b.cut)))

  heard_is : (kind : SentKind → Bool) (word : SentKind) → ((w : SentKind) → Decides (kind w) (w ≡ word)) → (m : ℕ)
      → Decides (holds_of kind (words_between (Memory m) Manager (handled f))) (IsHeardByManager (book_of f e said trees) m word)
  heard_is kind word each m =
      as_of (λ t. record { p = t.0; handled = t.1; from = t.2; to = t.3; kind_is = t.4 }) (λ r. (r.p, r.handled, r.from, r.to, r.kind_is))
      (as_test (ap (λ x. holds_of kind (words_between (Memory m) Manager x)) handed) (between kind (λ w. w ≡ word) each (Memory m) Manager (handled_now (book_of f e said trees))))

  backup_caused : (why : BackupWhy) → Decides (Tests.has_backup_cause f why) (HasBackupCause (book_of f e said trees) why)
  backup_caused (backup.Locked memory holder) = heard_is Tests.is_held_locked sent.HeldLocked holds_locked memory
  backup_caused (backup.Lost memory) =
      as_of there back
      (as_test (ap (λ x. holds_of is_lost (words_between (Memory memory) Manager x)) handed)
      (between is_lost (λ w. (w ≡ sent.HeldPast) ⊎ (w ≡ sent.PieceNone)) loses_cut (Memory memory) Manager (handled_now (book_of f e said trees))))
    where
      split : (p : Post) → handled_now (book_of f e said trees) ≡ Some p → p.from ≡ Memory memory → p.to ≡ Manager → (p.words ≡ sent.HeldPast) ⊎ (p.words ≡ sent.PieceNone)
          → IsHeardByManager (book_of f e said trees) memory sent.HeldPast ⊎ IsHeardByManager (book_of f e said trees) memory sent.PieceNone
      split p is from to (inl w) = inl (record { p = p; handled = is; from = from; to = to; kind_is = w })
      split p is from to (inr w) = inr (record { p = p; handled = is; from = from; to = to; kind_is = w })

      there : (p : Post) × (handled_now (book_of f e said trees) ≡ Some p) × (p.from ≡ Memory memory) × (p.to ≡ Manager) × ((p.words ≡ sent.HeldPast) ⊎ (p.words ≡ sent.PieceNone))
          → IsHeardByManager (book_of f e said trees) memory sent.HeldPast ⊎ IsHeardByManager (book_of f e said trees) memory sent.PieceNone
      there t = split t.0 t.1 t.2 t.3 t.4

      back : IsHeardByManager (book_of f e said trees) memory sent.HeldPast ⊎ IsHeardByManager (book_of f e said trees) memory sent.PieceNone
          → (p : Post) × (handled_now (book_of f e said trees) ≡ Some p) × (p.from ≡ Memory memory) × (p.to ≡ Manager) × ((p.words ≡ sent.HeldPast) ⊎ (p.words ≡ sent.PieceNone))
      back (inl r) = (r.p, r.handled, r.from, r.to, inl r.kind_is)
      back (inr r) = (r.p, r.handled, r.from, r.to, inr r.kind_is)
  backup_caused backup.Vault =
      as_of there back
      (as_test (ap (holds_of (is_from_one is_whole)) handed)
      (found (is_from_one is_whole) (λ p. (((m : ℕ) × (p.from ≡ Memory m)) × (p.to ≡ Manager)) × ((p.words ≡ sent.HeldOk) ⊎ (p.words ≡ sent.Piece))) (handled_now (book_of f e said trees))
      (λ p. both (both (of_memory p.from) (same_actor p.to Manager)) (is_of_cut p.words))))
    where
      split : (p : Post) (m : ℕ) → handled_now (book_of f e said trees) ≡ Some p → p.from ≡ Memory m → p.to ≡ Manager → (p.words ≡ sent.HeldOk) ⊎ (p.words ≡ sent.Piece)
          → IsHeardByManager (book_of f e said trees) m sent.HeldOk ⊎ IsHeardByManager (book_of f e said trees) m sent.Piece
      split p m is from to (inl w) = inl (record { p = p; handled = is; from = from; to = to; kind_is = w })
      split p m is from to (inr w) = inr (record { p = p; handled = is; from = from; to = to; kind_is = w })

      there : (p : Post) × (handled_now (book_of f e said trees) ≡ Some p) × ((((m : ℕ) × (p.from ≡ Memory m)) × (p.to ≡ Manager)) × ((p.words ≡ sent.HeldOk) ⊎ (p.words ≡ sent.Piece)))
          → HasBackupCause (book_of f e said trees) backup.Vault
      there t = (t.2.0.0.0, split t.0 t.2.0.0.0 t.1 t.2.0.0.1 t.2.0.1 t.2.1)

      back_of : (m : ℕ) → IsHeardByManager (book_of f e said trees) m sent.HeldOk ⊎ IsHeardByManager (book_of f e said trees) m sent.Piece
          → (p : Post) × (handled_now (book_of f e said trees) ≡ Some p) × ((((m : ℕ) × (p.from ≡ Memory m)) × (p.to ≡ Manager)) × ((p.words ≡ sent.HeldOk) ⊎ (p.words ≡ sent.Piece)))
      back_of m (inl r) = (r.p, r.handled, (((m, r.from), r.to), inl r.kind_is))
      back_of m (inr r) = (r.p, r.handled, (((m, r.from), r.to), inr r.kind_is))

      back : HasBackupCause (book_of f e said trees) backup.Vault
          → (p : Post) × (handled_now (book_of f e said trees) ≡ Some p) × ((((m : ℕ) × (p.from ≡ Memory m)) × (p.to ≡ Manager)) × ((p.words ≡ sent.HeldOk) ⊎ (p.words ≡ sent.Piece)))
      back t = back_of t.0 t.1
  backup_caused backup.Unreached = as_test (ap (λ n. Tests.gives_up n Manager) now) (tells_up e Manager)

  pub fails_is : (number : ℕ) (why : BackupWhy) → Decides (Tests.fails_well f number why) ((running_backup (book_of f e said trees) ≡ Some number) × HasBackupCause (book_of f e said trees) why)
  fails_is number why = both (runs_is number) (backup_caused why)

  pub mounts_is : (number : ℕ) → Decides (Tests.mounts_well f number) (IsMounting (book_of f e said trees) number)
  mounts_is number =
      as_of (λ t. record { under = t.0; first = t.1 }) (λ r. (r.under, r.first))
      (both (as_test (ap (λ n. Tests.shows n number) now) (shows_one e number)) (as_test (ap not are.mounting) (it_is_not _)))
