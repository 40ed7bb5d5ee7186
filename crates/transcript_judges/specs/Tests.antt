-- The rules of a legal transcript as tests of what its lines told.
use Rattle.std.specs.Prelude.{ℕ, ◌+◌, ◌==◌, nat_lt, nat_le, Bool, true, false, ◌&&◌, ◌||◌, not, if◌then◌else◌, List, length, count_by, Option, Some, None, is_some}
use Rattle.std.specs.List.{list_any}
use Rattle.fs_rules.specs.declared.geometry.Geometry.{Geometry}
use Rattle.mini_tx.specs.declared.actor.Actor.{Actor}
use Rattle.mini_tx.specs.declared.actor.Actor.TheVariants.{Node, Memory, Manager}
use Rattle.nfs_service.specs.declared.request.Request.{Request}
use Rattle.nfs_service.specs.declared.request.Request.TheVariants as request
use Rattle.nfs_service.specs.Needs.{needs_files}
use Rattle.line_text.specs.declared.backup_why.BackupWhy.{BackupWhy}
use Rattle.line_text.specs.declared.backup_why.BackupWhy.TheVariants as backup
use Rattle.line_text.specs.declared.down_why.DownWhy.{DownWhy}
use Rattle.line_text.specs.declared.down_why.DownWhy.TheVariants as down
use Rattle.line_text.specs.declared.drop_why.DropWhy.{DropWhy}
use Rattle.line_text.specs.declared.drop_why.DropWhy.TheVariants as drop
use Rattle.line_text.specs.declared.line.Line.{Line}
use Rattle.line_text.specs.declared.retry_why.RetryWhy.{RetryWhy}
use Rattle.line_text.specs.declared.retry_why.RetryWhy.TheVariants as retry
use Rattle.line_text.specs.declared.sent_kind.SentKind.{SentKind}
use Rattle.line_text.specs.declared.sent_kind.SentKind.TheVariants as sent
use Rattle.transcript_rules.specs.declared.arrival.Arrival.{Arrival}
use Rattle.transcript_rules.specs.declared.post.Post.{Post}
use Rattle.transcript_rules.specs.Book.{numbered, is_actor, first_open}
use Rattle.transcript_rules.specs.Next.{is_there, is_memory}
use Rattle.transcript_rules.specs.Truth.{may_change, may_drop}
use Rattle.transcript_rules.specs.Carried.{is_prepare, is_granted, last_attempt, have_votes}
use Rattle.transcript_rules.specs.Cause.{is_refused_since, is_heard_since, is_hold, is_forcing, is_open_before}
use Rattle.transcript_rules.specs.Place.{rank, answers}
use Rattle.transcript_book.specs.declared.said.Said.{Said}
use Rattle.transcript_facts.specs.declared.facts.Facts.{Facts}
use Rattle.transcript_facts.specs.declared.now.Now.{Now}
use Rattle.transcript_facts.specs.declared.now.Now.TheVariants as now
use Rattle.transcript_facts.specs.Now.{delivered_in}
use Rattle.transcript_facts.specs.Facts.{running_in}

-- ---- what there may be

-- it is there, and passes a test
abbrev pub holds_of : {X : Type 0} → (X → Bool) → Option X → Bool
holds_of f None = false
holds_of f (Some x) = f x

-- it is this number
abbrev pub is_number : ℕ → Option ℕ → Bool
is_number n None = false
is_number n (Some m) = m == n

abbrev pub is_none : {X : Type 0} → Option X → Bool
is_none None = true
is_none (Some x) = false

-- ---- the event

-- there is one
abbrev pub runs : Now → Bool
runs now.Nothing = false
runs n = true

-- an actor is told to give up
abbrev pub gives_up : Now → Actor → Bool
gives_up (now.GiveUp w) who = is_actor w who
gives_up n who = false

abbrev pub starts_one : Now → Bool
starts_one (now.StartMemory m) = true
starts_one n = false

abbrev pub shows : Now → ℕ → Bool
shows (now.Show b) number = b == number
shows n number = false

-- the message that the event hands on
abbrev pub post_of : List Post → Option ℕ → Option Post
post_of posts None = None
post_of posts (Some k) = numbered posts k

abbrev pub handled : Facts → Option Post
handled f = post_of f.mail (delivered_in f.event)

-- a line may stand under the event
abbrev pub is_under : Facts → Line → Bool
is_under f l = runs f.event && nat_le f.said.highest (rank l)

abbrev pub is_down : Facts → Actor → Bool
is_down f who = list_any (is_actor who) f.down

-- ---- what a message says

abbrev pub is_mismatch : SentKind → Bool
is_mismatch sent.VoteMismatch = true
is_mismatch other = false

abbrev pub is_locked : SentKind → Bool
is_locked sent.VoteLocked = true
is_locked other = false

abbrev pub is_vote_held : SentKind → Bool
is_vote_held sent.VoteHeld = true
is_vote_held other = false

abbrev pub is_forced : SentKind → Bool
is_forced sent.VoteForced = true
is_forced other = false

abbrev pub is_held_locked : SentKind → Bool
is_held_locked sent.HeldLocked = true
is_held_locked other = false

abbrev pub is_lost : SentKind → Bool
is_lost sent.HeldPast = true
is_lost sent.PieceNone = true
is_lost other = false

abbrev pub is_whole : SentKind → Bool
is_whole sent.HeldOk = true
is_whole sent.Piece = true
is_whole other = false

-- what a message says that goes from one actor to another
abbrev pub words_between : Actor → Actor → Option Post → Option SentKind
words_between from to None = None
words_between from to (Some p) = if is_actor p.from from && is_actor p.to to then Some p.words else None

-- ---- messages

abbrev pub answers_at : ℕ → SentKind → Post → Bool
answers_at m words p = is_actor p.to (Memory m) && answers p.words words

-- an actor may post a message of this kind
abbrev pub may_send : Said → Option Post → Actor → SentKind → Bool
may_send said handed (Node n) words = not said.sent_by_memory
may_send said handed (Memory m) words = holds_of (answers_at m words) handed && not said.sent
may_send said handed Manager words = not said.sent_by_memory

abbrev pub posts_well : Geometry → Facts → ℕ → Actor → Actor → SentKind → Bool
posts_well g f k from to words = (((k == length f.mail + 1) && is_there g from) && is_there g to) && may_send f.said (handled f) from words

abbrev pub loses_well : Facts → ℕ → Bool
loses_well f k = (is_number k (delivered_in f.event) && f.said.none) && holds_of (λ p. is_down f p.to) (numbered f.mail k)

abbrev pub falls_well : Geometry → Actor → DownWhy → Bool
falls_well g who down.Damaged = false
falls_well g who why = is_there g who

-- ---- arrivals

-- it comes in its turn, where it came under an earlier event
abbrev pub in_order : Facts → ℕ → Arrival → Bool
in_order f number a = if nat_lt a.under f.under then is_number number (first_open a.node 1 f.arrivals) else true

-- a change may come of it
abbrev pub points_well : Facts → ℕ → Arrival → Bool
points_well f point a =
    (((point == f.points + 1) && is_none a.point) && may_change a.ended) && (holds_of (λ p. is_actor p.from (Node a.node) && is_prepare p.words) (handled f) || starts_one f.event)

-- the prefix that its reply may name, by what stood before it and the change that it made
abbrev pub names_well : ℕ → ℕ → ℕ → Option ℕ → Bool
names_well points at before None = nat_le before at && nat_le at points
names_well points at before (Some point) = at == point

-- a granted vote that was posted to its node after it came
abbrev pub votes_for : Arrival → Post → Bool
votes_for a p = ((is_memory p.from && is_actor p.to (Node a.node)) && is_granted p.words) && nat_lt a.under p.under

-- its reply rests on what was delivered
abbrev pub is_at_once : Geometry → Facts → Arrival → Request → Bool
is_at_once g f a r = if a.under == f.under then (not (is_down f (Node a.node)) && not (needs_files g r)) else true

abbrev pub is_later : Geometry → Facts → Arrival → Request → Bool
is_later g f a r = if nat_lt a.under f.under then (needs_files g r && holds_of (votes_for a) (handled f)) else true

abbrev pub has_all_votes : Facts → Arrival → Bool
has_all_votes f a = if is_some a.point then have_votes f.mail a.node (last_attempt a.node f.under f.mail) else true

abbrev pub replies_well : Geometry → Facts → ℕ → ℕ → Arrival → Request → Bool
replies_well g f number at a r =
    ((((is_none a.ended && in_order f number a) && names_well f.points at a.points a.point) && is_at_once g f a r) && is_later g f a r) && has_all_votes f a

-- the eighth vote that is not granted
abbrev pub is_eighth : Facts → Arrival → ℕ → (SentKind → Bool) → Bool
is_eighth f a m kind = holds_of kind (words_between (Memory m) (Node a.node) (handled f)) && nat_le 8 (count_by (is_refused_since a.node a.under) f.mail)

abbrev pub has_retry_cause : Facts → ℕ → Arrival → RetryWhy → Bool
has_retry_cause f number a (retry.Mismatch memory at) = is_eighth f a memory is_mismatch
has_retry_cause f number a (retry.Locked memory holder) = is_eighth f a memory is_locked
has_retry_cause f number a (retry.Held memory cut) = is_eighth f a memory is_vote_held && is_heard_since f.mail is_hold memory 0
has_retry_cause f number a (retry.Forced memory) = is_eighth f a memory is_forced && is_heard_since f.mail is_forcing memory a.under
has_retry_cause f number a retry.Unreached = gives_up f.event (Node a.node) && is_number number (first_open a.node 1 f.arrivals)

abbrev pub retries_well : Facts → ℕ → RetryWhy → Arrival → Bool
retries_well f number why a = (is_none a.ended && in_order f number a) && has_retry_cause f number a why

abbrev pub is_silent : Request → Bool
is_silent (request.Told reply) = false
is_silent request.Silent = true
is_silent (request.Asked xid call cred) = false

abbrev pub has_drop_cause : Geometry → Facts → Arrival → Request → DropWhy → Bool
has_drop_cause g f a r drop.Down = is_down f (Node a.node)
has_drop_cause g f a r drop.Silent = not (is_down f (Node a.node)) && is_silent r
has_drop_cause g f a r drop.Full = (not (is_down f (Node a.node)) && needs_files g r) && nat_le 33 (count_by (is_open_before a.node f.under) f.arrivals)
has_drop_cause g f a r (drop.Damaged memory at) = false

abbrev pub drops_well : Geometry → Facts → DropWhy → Arrival → Request → Bool
drops_well g f why a r = (may_drop a.ended && (a.under == f.under)) && has_drop_cause g f a r why

-- ---- backups

abbrev pub cuts_well : Facts → ℕ → ℕ → Bool
cuts_well f number at = ((at == f.points) && is_number number (running_in f.backups)) && holds_of (λ b. is_none b.cut) (numbered f.backups number)

abbrev pub ends_well : Facts → ℕ → Bool
ends_well f number = is_number number (running_in f.backups) && holds_of (λ b. is_some b.cut) (numbered f.backups number)

-- the manager hears a message of this kind from a memory node
abbrev pub is_from_one : (SentKind → Bool) → Post → Bool
is_from_one kind p = (is_memory p.from && is_actor p.to Manager) && kind p.words

abbrev pub has_backup_cause : Facts → BackupWhy → Bool
has_backup_cause f (backup.Locked memory holder) = holds_of is_held_locked (words_between (Memory memory) Manager (handled f))
has_backup_cause f (backup.Lost memory) = holds_of is_lost (words_between (Memory memory) Manager (handled f))
has_backup_cause f backup.Vault = holds_of (is_from_one is_whole) (handled f)
has_backup_cause f backup.Unreached = gives_up f.event Manager

abbrev pub fails_well : Facts → ℕ → BackupWhy → Bool
fails_well f number why = is_number number (running_in f.backups) && has_backup_cause f why

abbrev pub mounts_well : Facts → ℕ → Bool
mounts_well f number = shows f.event number && not f.said.mounting
