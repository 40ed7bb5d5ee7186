-- Place: which lines stand under which events, and in which order.
use Rattle.std.specs.Prelude.{◌≡◌, ◌≢◌, ℕ, ◌+◌, nat_lt, nat_le, Bool, true, false, ◌&&◌, ◌||◌, not, if◌then◌else◌, List, [], length, Option, Some, None}
use Rattle.std.specs.List.{list_any, list_all}
use Rattle.std.specs.Option.{option_map_or}
use Rattle.mini_tx.specs.declared.actor.Actor.{Actor}
use Rattle.mini_tx.specs.declared.actor.Actor.TheVariants.{Node, Memory, Manager}
use Rattle.nfs_service.specs.Reply.{heard}
use Rattle.event_text.specs.declared.event.Event.{Event}
use Rattle.event_text.specs.declared.event.Event.TheVariants as event
use Rattle.line_text.specs.declared.line.Line.{Line}
use Rattle.line_text.specs.declared.line.Line.TheVariants as line
use Rattle.line_text.specs.declared.sent_kind.SentKind.{SentKind}
use Rattle.line_text.specs.declared.sent_kind.SentKind.TheVariants as sent
use Rattle.transcript_rules.specs.declared.ended.Ended.{Ended}
use Rattle.transcript_rules.specs.declared.ended.Ended.TheVariants.{Replied, Dropped, Retried, GivenUp, Lost}
use Rattle.transcript_rules.specs.declared.post.Post.{Post}
use Rattle.transcript_rules.specs.Opening.{Opening, Schedule}
use Rattle.transcript_rules.specs.Book.{Book, numbered, is_actor, is_up, delivered_now, handled_now}
use Rattle.transcript_rules.specs.Next.{next, is_memory, is_there}
use Rattle.transcript_rules.specs.Truth.{is_mounting_line}
use Rattle.transcript_rules.specs.Carried.{needs_files, is_granted}
use Rattle.transcript_rules.specs.Cause.{others_open, most_waiting, is_refusal}

-- ---- the order of the lines under one event

-- lost, down, point, cut and sent lines come in this order, and all others behind them
abbrev pub rank : Line → ℕ
rank (line.Lost k) = 0
rank (line.Down who why) = 1
rank (line.Point point arrival made) = 2
rank (line.Cut number at) = 3
rank (line.Sent k from to words) = 4
rank other = 5

-- a line comes behind all that stand under the event
abbrev pub is_behind : Line → List Line → Bool
is_behind l said = list_all (λ before. nat_le (rank before) (rank l)) said

-- there is an event that it stands under, and it stands there in order
pub record IsUnder (book : Book) (l : Line) : Type 0 where
  pub e : Event
  pub under : book.now ≡ Some e
  pub ordered : is_behind l book.said ≡ true

-- ---- messages

abbrev pub is_done : SentKind → Bool
is_done sent.Done = true
is_done other = false

abbrev pub is_kept : SentKind → Bool
is_kept sent.Kept = true
is_kept other = false

abbrev pub is_answer : SentKind → Bool
is_answer sent.AnswerOk = true
is_answer sent.AnswerAbort = true
is_answer other = false

abbrev pub is_held : SentKind → Bool
is_held sent.HeldOk = true
is_held sent.HeldLocked = true
is_held sent.HeldPast = true
is_held other = false

abbrev pub is_piece : SentKind → Bool
is_piece sent.Piece = true
is_piece sent.PieceNone = true
is_piece other = false

-- how a memory node answers a message of this kind
abbrev pub answers : SentKind → SentKind → Bool
answers sent.Prepare words = is_granted words || is_refusal words
answers sent.DecideCommit words = is_done words
answers sent.DecideAbort words = is_done words
answers sent.List words = is_kept words
answers sent.Ask words = is_answer words
answers sent.Hold words = is_held words
answers sent.Read words = is_piece words
answers other words = false

abbrev pub is_sent : Line → Bool
is_sent (line.Sent k from to words) = true
is_sent other = false

-- one of a memory node, beside which none stands
abbrev pub is_sent_by_memory : Line → Bool
is_sent_by_memory (line.Sent k from to words) = is_memory from
is_sent_by_memory other = false

-- a message of a memory node: it answers the one that was delivered to it, by its kind, and is the only one there
pub record IsAnswer (book : Book) (m : ℕ) (words : SentKind) : Type 0 where
  pub p : Post
  pub handled : handled_now book ≡ Some p
  pub to : p.to ≡ Memory m
  pub by_kind : answers p.words words ≡ true
  pub only : list_any is_sent book.said ≡ false

abbrev pub IsSentBy : Book → Actor → SentKind → Type 0
IsSentBy book (Node n) words = list_any is_sent_by_memory book.said ≡ false
IsSentBy book (Memory m) words = IsAnswer book m words
IsSentBy book Manager words = list_any is_sent_by_memory book.said ≡ false

-- `sent K FROM TO WORDS`: messages are numbered from 1 without gaps, and go from one actor of the cluster to another
pub record IsPosting (o : Opening) (book : Book) (k : ℕ) (from to : Actor) (words : SentKind) : Type 0 where
  pub number : k ≡ length book.posts + 1
  pub from_is_there : is_there o.geometry from ≡ true
  pub to_is_there : is_there o.geometry to ≡ true
  pub sender : IsSentBy book from words

-- `lost K`: the event delivers K, and its receiver is down; it stands once
pub record IsLoss (book : Book) (k : ℕ) : Type 0 where
  pub delivers : delivered_now book.now ≡ Some k
  pub p : Post
  pub posted : numbered book.posts k ≡ Some p
  pub down : is_up book p.to ≡ false
  pub first : book.said ≡ []

-- ---- what has to stand under an event

-- it is told how an arrival ended: what is lost with a node has no line
abbrev pub is_told : Option Ended → Bool
is_told None = false
is_told (Some Lost) = false
is_told (Some GivenUp) = true
is_told (Some Replied) = true
is_told (Some Dropped) = true
is_told (Some Retried) = true

-- of the last arrival
abbrev pub last_ended : Book → Bool
last_ended book = option_map_or (λ a. is_told a.ended) (numbered book.arrivals (length book.arrivals)) true

-- something ends an arrival at once: its node is down, its bytes are silence, its answer needs no file system, or too many wait
abbrev pub ends_at_once : Opening → Book → Bool
ends_at_once o book =
    option_map_or (λ a. if is_up book (Node a.node) then (if needs_files o.geometry (heard a.bytes) then nat_lt most_waiting (others_open book a.node) else true) else true)
    (numbered book.arrivals (length book.arrivals)) false

-- a line of that kind stands under the event
abbrev pub is_lost_line : Line → Bool
is_lost_line (line.Lost k) = true
is_lost_line other = false

abbrev pub is_retry_line : Line → Bool
is_retry_line (line.Retry arrival why) = true
is_retry_line (line.RetryBackup number why) = true
is_retry_line other = false

-- who was down when a message came: a memory node that went down in handling it was up
abbrev pub is_down_line_of : Actor → Line → Bool
is_down_line_of who (line.Down other why) = is_actor who other
is_down_line_of who other = false

abbrev pub is_down_at : Book → Actor → Bool
is_down_at book who = not (is_up book who) && not (list_any (is_down_line_of who) book.said)

-- what is due under an event stands: of an arrival that ends at once, its end; of a message to who is down, that it is lost; of
-- giving up, what it ends; of showing, what was mounted; of all others nothing
abbrev pub has_all : Opening → Book → Option Event → Bool
has_all o book (Some (event.Arrive node sec usec bytes)) = if ends_at_once o book then last_ended book else true
has_all o book (Some (event.Deliver k stop)) = if option_map_or (λ p. is_down_at book p.to) (numbered book.posts k) false then list_any is_lost_line book.said else true
has_all o book (Some (event.GiveUp who)) = list_any is_retry_line book.said
has_all o book (Some (event.Show number)) = list_any is_mounting_line book.said
has_all o book other = true

-- the event that runs is over: all that is due stands under it, no line of a listing is owed, and the transcript has not ended
pub record IsOver (o : Opening) (book : Book) : Type 0 where
  pub ongoing : book.closed ≡ false
  pub told : book.owed ≡ []
  pub due : has_all o book book.now ≡ true

-- ---- lines

-- `do arrive A n`: it is the next event of the schedule, and A the next arrival
pub record BeginsArrival (o : Opening) (schedule : Schedule) (book : Book) (arrival node : ℕ) : Type 0 where
  pub over : IsOver o book
  pub number : arrival ≡ length book.arrivals + 1
  pub sec : ℕ
  pub usec : ℕ
  pub bytes : List ℕ
  pub comes : (next o schedule book).comes ≡ Some (event.Arrive node sec usec bytes)

-- `do ..`: it is the next event of the schedule, a drain's delivery spelled out; the end is told otherwise
pub record BeginsEvent (o : Opening) (schedule : Schedule) (book : Book) (e : Event) : Type 0 where
  pub over : IsOver o book
  pub comes : (next o schedule book).comes ≡ Some e
  pub more : e ≢ event.End

-- `end`: it is the next event of the schedule
pub record Ends (o : Opening) (schedule : Schedule) (book : Book) : Type 0 where
  pub over : IsOver o book
  pub comes : (next o schedule book).comes ≡ Some event.End

-- `refused N`: line N is the next of the schedule, and is missing, outside the grammar, or excluded
pub record Refuses (o : Opening) (schedule : Schedule) (book : Book) (number : ℕ) : Type 0 where
  pub over : IsOver o book
  pub none : (next o schedule book).comes ≡ None
  pub number_is : number ≡ (next o schedule book).taken + 1

-- a line has its place
abbrev pub HasItsPlace : Opening → Schedule → Book → Line → Type 0
HasItsPlace o schedule book (line.DoArrive arrival node) = BeginsArrival o schedule book arrival node
HasItsPlace o schedule book (line.DoEvent e) = BeginsEvent o schedule book e
HasItsPlace o schedule book (line.Down who why) = IsUnder book (line.Down who why) × (is_there o.geometry who ≡ true)
HasItsPlace o schedule book (line.Lost k) = IsUnder book (line.Lost k) × IsLoss book k
HasItsPlace o schedule book (line.Sent k from to words) = IsUnder book (line.Sent k from to words) × IsPosting o book k from to words
HasItsPlace o schedule book (line.Refused number) = Refuses o schedule book number
HasItsPlace o schedule book line.End = Ends o schedule book
HasItsPlace o schedule book other = IsUnder book other
