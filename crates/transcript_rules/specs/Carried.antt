-- Carried: each change and each reply rests on messages that were delivered.
use Rattle.std.specs.Prelude.{◌≡◌, ℕ, ◌<◌, ◌==◌, nat_lt, Bool, true, false, ◌&&◌, not, if◌then◌else◌, List, [], ◌∷◌, Option, Some, None, ◌⊎◌}
use Rattle.std.specs.List.{list_any, list_all}
use Rattle.std.specs.Option.{option_map_or, option_or}
use Rattle.mini_tx.specs.declared.actor.Actor.{Actor}
use Rattle.mini_tx.specs.declared.actor.Actor.TheVariants.{Node, Memory}
use Rattle.nfs_service.specs.Reply.{heard}
pub use Rattle.nfs_service.specs.Needs.{needs_files}
use Rattle.event_text.specs.declared.event.Event.{Event}
use Rattle.event_text.specs.declared.event.Event.TheVariants as event
use Rattle.line_text.specs.declared.line.Line.{Line}
use Rattle.line_text.specs.declared.line.Line.TheVariants as line
use Rattle.line_text.specs.declared.sent_kind.SentKind.{SentKind}
use Rattle.line_text.specs.declared.sent_kind.SentKind.TheVariants as sent
use Rattle.transcript_rules.specs.declared.arrival.Arrival.{Arrival}
use Rattle.transcript_rules.specs.declared.post.Post.{Post}
use Rattle.transcript_rules.specs.Opening.{Opening}
use Rattle.transcript_rules.specs.Book.{Book, numbered, is_actor, is_up, handled_now}

-- ---- what kind of message or event it is

abbrev pub is_prepare : SentKind → Bool
is_prepare sent.Prepare = true
is_prepare other = false

abbrev pub is_granted : SentKind → Bool
is_granted sent.VoteOk = true
is_granted other = false

-- the memory node that starts
abbrev pub starts_memory : Option Event → Option ℕ
starts_memory (Some (event.Start (Memory m) choice)) = Some m
starts_memory other = None

-- ---- replies

-- a reply that is not made at once stands under the delivery of a granted vote that was posted to its node after it came
pub record RestsOnVote (book : Book) (a : Arrival) : Type 0 where
  pub p : Post
  pub m : ℕ
  pub handled : handled_now book ≡ Some p
  pub from : p.from ≡ Memory m
  pub to : p.to ≡ Node a.node
  pub granted : p.words ≡ sent.VoteOk
  pub after : a.under < p.under

-- the last of some messages that passes a test
unfoldable pub last_of : (Post → Bool) → List Post → Option Post
last_of f [] = None
last_of f (p ∷ rest) = option_or (last_of f rest) (if f p then Some p else None)

-- a prepare that a node posted before an event, and did not post again
abbrev pub is_attempt : ℕ → ℕ → Post → Bool
is_attempt n now p = is_actor p.from (Node n) && is_prepare p.words && nat_lt p.under now && not p.again

-- the last event before this one, posts of repeated messages aside, in which a node posted a prepare
abbrev pub last_attempt : ℕ → ℕ → List Post → ℕ
last_attempt n now posts = option_map_or (λ p. p.under) (last_of (is_attempt n now) posts) 0

-- a granted vote of this memory node to the node was posted after that event, and delivered after it
abbrev pub is_vote : ℕ → Actor → ℕ → Post → Bool
is_vote n memory e v = is_actor v.from memory && is_actor v.to (Node n) && is_granted v.words && nat_lt e v.under && nat_lt e v.heard

abbrev pub has_vote : List Post → ℕ → Actor → ℕ → Bool
has_vote posts n memory e = list_any (is_vote n memory e) posts

-- from every memory node to which the node posted one in that event
abbrev pub is_part : ℕ → ℕ → Post → Bool
is_part n e p = is_actor p.from (Node n) && is_prepare p.words && (p.under == e)

abbrev pub have_votes : List Post → ℕ → ℕ → Bool
have_votes posts n e = list_all (λ p. if is_part n e p then has_vote posts n p.to e else true) posts

-- an arrival that made a change is answered only where all took part in its last attempt
pub record RestsOnAll (book : Book) (a : Arrival) : Type 0 where
  pub all : (point : ℕ) → a.point ≡ Some point → have_votes book.posts a.node (last_attempt a.node book.under book.posts) ≡ true

-- `reply A ..`: of a node that is up, and in A's own event exactly where no file system is needed
pub record IsCarriedReply (o : Opening) (book : Book) (arrival : ℕ) : Type 0 where
  pub a : Arrival
  pub came : numbered book.arrivals arrival ≡ Some a
  pub at_once : a.under ≡ book.under → (is_up book (Node a.node) ≡ true) × (needs_files o.geometry (heard a.bytes) ≡ false)
  pub later : a.under < book.under → (needs_files o.geometry (heard a.bytes) ≡ true) × RestsOnVote book a
  pub whole : RestsOnAll book a

-- ---- changes

-- under the delivery of a prepare of the arrival's node
pub record IsPrepared (book : Book) (a : Arrival) : Type 0 where
  pub p : Post
  pub handled : handled_now book ≡ Some p
  pub from : p.from ≡ Node a.node
  pub prepare : p.words ≡ sent.Prepare

-- or under the start of a memory node
pub record IsStarted (book : Book) : Type 0 where
  pub m : ℕ
  pub started : starts_memory book.now ≡ Some m

-- `point P arrival A ..`
pub record IsCarriedPoint (book : Book) (arrival : ℕ) : Type 0 where
  pub a : Arrival
  pub came : numbered book.arrivals arrival ≡ Some a
  pub under : IsPrepared book a ⊎ IsStarted book

-- a line is carried
abbrev pub IsCarried : Opening → Book → Line → Type 0
IsCarried o book (line.Point point arrival made) = IsCarriedPoint book arrival
IsCarried o book (line.Reply arrival at bytes) = IsCarriedReply o book arrival
IsCarried o book other = Unit {0}
