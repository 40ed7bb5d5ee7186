-- Cause: why an arrival or a backup ends without what was asked for.
use Rattle.std.specs.Prelude.{◌≡◌, ℕ, ◌+◌, ◌≤◌, nat_lt, Bool, true, false, ◌&&◌, List, count_by, Some, ◌⊎◌}
use Rattle.std.specs.List.{list_any}
use Rattle.mini_tx.specs.declared.actor.Actor.TheVariants.{Node, Memory, Manager}
use Rattle.nfs_service.specs.declared.request.Request.TheVariants as request
use Rattle.nfs_service.specs.Reply.{heard}
use Rattle.event_text.specs.declared.event.Event.TheVariants as event
use Rattle.line_text.specs.declared.backup_why.BackupWhy.{BackupWhy}
use Rattle.line_text.specs.declared.backup_why.BackupWhy.TheVariants as backup
use Rattle.line_text.specs.declared.drop_why.DropWhy.{DropWhy}
use Rattle.line_text.specs.declared.drop_why.DropWhy.TheVariants as drop
use Rattle.line_text.specs.declared.line.Line.{Line}
use Rattle.line_text.specs.declared.line.Line.TheVariants as line
use Rattle.line_text.specs.declared.retry_why.RetryWhy.{RetryWhy}
use Rattle.line_text.specs.declared.retry_why.RetryWhy.TheVariants as retry
use Rattle.line_text.specs.declared.sent_kind.SentKind.{SentKind}
use Rattle.line_text.specs.declared.sent_kind.SentKind.TheVariants as sent
use Rattle.transcript_rules.specs.declared.arrival.Arrival.{Arrival}
use Rattle.transcript_rules.specs.declared.post.Post.{Post}
use Rattle.transcript_rules.specs.Opening.{Opening}
use Rattle.transcript_rules.specs.Book.{Book, numbered, is_actor, is_open, is_up, handled_now, running_at}
use Rattle.transcript_rules.specs.Carried.{needs_files}

-- how often an arrival may fail, the last one with it
abbrev pub most_failures : ℕ
most_failures = 8

-- how many arrivals wait at a node beside the one that runs
abbrev pub most_waiting : ℕ
most_waiting = 32

-- ---- votes

-- a vote that is not granted
abbrev pub is_refusal : SentKind → Bool
is_refusal sent.VoteMismatch = true
is_refusal sent.VoteLocked = true
is_refusal sent.VoteForced = true
is_refusal sent.VoteHeld = true
is_refusal other = false

-- how many messages are votes to a node that are not granted and were delivered after that event
abbrev pub is_refused_since : ℕ → ℕ → Post → Bool
is_refused_since n since p = is_actor p.to (Node n) && is_refusal p.words && nat_lt since p.heard

abbrev pub refusals_since : List Post → ℕ → ℕ → ℕ
refusals_since posts n since = count_by (is_refused_since n since) posts

-- a message of this kind was delivered at a memory node after that event
abbrev pub is_heard_since : List Post → (Post → Bool) → ℕ → ℕ → Bool
is_heard_since posts kind m since = list_any (λ p. is_actor p.to (Memory m) && kind p && nat_lt since p.heard) posts

abbrev pub is_hold_word : SentKind → Bool
is_hold_word sent.Hold = true
is_hold_word other = false

abbrev pub is_forcing_word : SentKind → Bool
is_forcing_word sent.Ask = true
is_forcing_word sent.DecideAbort = true
is_forcing_word other = false

abbrev pub is_hold : Post → Bool
is_hold p = is_hold_word p.words

-- an `ask`, or the manager's decision to abort
abbrev pub is_forcing : Post → Bool
is_forcing p = is_forcing_word p.words && is_actor p.from Manager

-- the event delivers a vote of this kind from this memory node to the arrival's node, and seven others that are not granted were
-- delivered since the arrival came
pub record IsEighth (book : Book) (a : Arrival) (m : ℕ) (vote : SentKind) : Type 0 where
  pub p : Post
  pub handled : handled_now book ≡ Some p
  pub from : p.from ≡ Memory m
  pub to : p.to ≡ Node a.node
  pub vote_is : p.words ≡ vote
  pub others : most_failures ≤ refusals_since book.posts a.node a.under

-- ---- arrivals that end without a reply after they ran

-- of a vote that finds its memory node held, a `hold` was delivered there before
pub record WasHeld (book : Book) (m : ℕ) : Type 0 where
  pub held : is_heard_since book.posts is_hold m 0 ≡ true

-- of a vote that was forced, an `ask` or a decision of the manager to abort was delivered there since the arrival came
pub record WasForced (book : Book) (a : Arrival) (m : ℕ) : Type 0 where
  pub forced : is_heard_since book.posts is_forcing m a.under ≡ true

-- the node is told to give up what it runs
pub record IsGivenUp (book : Book) (arrival : ℕ) (a : Arrival) : Type 0 where
  pub told : book.now ≡ Some (event.GiveUp (Node a.node))
  pub runs : running_at book a.node ≡ Some arrival

abbrev pub HasRetryCause : Book → ℕ → Arrival → RetryWhy → Type 0
HasRetryCause book arrival a (retry.Mismatch memory at) = IsEighth book a memory sent.VoteMismatch
HasRetryCause book arrival a (retry.Locked memory holder) = IsEighth book a memory sent.VoteLocked
HasRetryCause book arrival a (retry.Held memory cut) = IsEighth book a memory sent.VoteHeld × WasHeld book memory
HasRetryCause book arrival a (retry.Forced memory) = IsEighth book a memory sent.VoteForced × WasForced book a memory
HasRetryCause book arrival a retry.Unreached = IsGivenUp book arrival a

-- ---- arrivals that are dropped in their own event, by the first rule that fits

-- an arrival runs or waits at a node and came before an event
abbrev pub is_open_before : ℕ → ℕ → Arrival → Bool
is_open_before n now a = is_open n a && nat_lt a.under now

-- how many others run or wait at the node
abbrev pub others_open : Book → ℕ → ℕ
others_open book n = count_by (is_open_before n book.under) book.arrivals

-- its node is up
pub record IsMet (book : Book) (a : Arrival) : Type 0 where
  pub up : is_up book (Node a.node) ≡ true

abbrev pub HasDropCause : Opening → Book → Arrival → DropWhy → Type 0
HasDropCause o book a drop.Down = is_up book (Node a.node) ≡ false
HasDropCause o book a drop.Silent = IsMet book a × (heard a.bytes ≡ request.Silent)
HasDropCause o book a drop.Full = IsMet book a × (needs_files o.geometry (heard a.bytes) ≡ true) × (most_waiting + 1 ≤ others_open book a.node)
HasDropCause o book a (drop.Damaged memory at) = ⊥

-- ---- backups

-- the event delivers a message of this kind from this memory node to the manager
pub record IsHeardByManager (book : Book) (m : ℕ) (kind : SentKind) : Type 0 where
  pub p : Post
  pub handled : handled_now book ≡ Some p
  pub from : p.from ≡ Memory m
  pub to : p.to ≡ Manager
  pub kind_is : p.words ≡ kind

abbrev pub HasBackupCause : Book → BackupWhy → Type 0
HasBackupCause book (backup.Locked memory holder) = IsHeardByManager book memory sent.HeldLocked
HasBackupCause book (backup.Lost memory) = IsHeardByManager book memory sent.HeldPast ⊎ IsHeardByManager book memory sent.PieceNone
HasBackupCause book backup.Vault = (m : ℕ) × (IsHeardByManager book m sent.HeldOk ⊎ IsHeardByManager book m sent.Piece)
HasBackupCause book backup.Unreached = book.now ≡ Some (event.GiveUp Manager)

-- ---- lines

-- `retry A ..`
pub record IsCausedRetry (book : Book) (arrival : ℕ) (why : RetryWhy) : Type 0 where
  pub a : Arrival
  pub came : numbered book.arrivals arrival ≡ Some a
  pub cause : HasRetryCause book arrival a why

-- `dropped A ..`: in A's own event
pub record IsCausedDrop (o : Opening) (book : Book) (arrival : ℕ) (why : DropWhy) : Type 0 where
  pub a : Arrival
  pub came : numbered book.arrivals arrival ≡ Some a
  pub at_once : a.under ≡ book.under
  pub cause : HasDropCause o book a why

-- a line has its cause
abbrev pub HasItsCause : Opening → Book → Line → Type 0
HasItsCause o book (line.Retry arrival why) = IsCausedRetry book arrival why
HasItsCause o book (line.Dropped arrival why) = IsCausedDrop o book arrival why
HasItsCause o book (line.RetryBackup number why) = HasBackupCause book why
HasItsCause o book other = Unit {0}
