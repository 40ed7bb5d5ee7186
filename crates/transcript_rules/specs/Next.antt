-- Which event comes next by the schedule, and what one line more makes of the book.
use Rattle.std.specs.Prelude.{ℕ, ◌+◌, ◌-◌, ◌^◌, nat_lt, nat_le, Bool, true, false, ◌&&◌, not, if◌then◌else◌, List, [], ◌∷◌, ◌++◌, length, map, drop, Option, Some, None, option_and_then, is_some}
use Rattle.std.specs.List.{list_any}
use Rattle.std.specs.Option.{option_map_or}
use Rattle.fs_rules.specs.declared.geometry.Geometry.{Geometry}
use Rattle.fs_listing.specs.Listing.{listing}
use Rattle.mini_tx.specs.declared.actor.Actor.{Actor}
use Rattle.mini_tx.specs.declared.actor.Actor.TheVariants.{Node, Memory, Manager}
use Rattle.event_text.specs.declared.event.Event.{Event}
use Rattle.event_text.specs.declared.event.Event.TheVariants as event
use Rattle.line_text.specs.declared.line.Line.{Line}
use Rattle.line_text.specs.declared.line.Line.TheVariants as line
use Rattle.line_text.specs.declared.retry_why.RetryWhy.{RetryWhy}
use Rattle.line_text.specs.declared.retry_why.RetryWhy.TheVariants as retry
use Rattle.transcript_rules.specs.declared.arrival.Arrival.{Arrival}
use Rattle.transcript_rules.specs.declared.backup.Backup.{Backup}
use Rattle.transcript_rules.specs.declared.ended.Ended.{Ended}
use Rattle.transcript_rules.specs.declared.ended.Ended.TheVariants.{Replied, Dropped, Retried, GivenUp, Lost}
use Rattle.transcript_rules.specs.declared.post.Post.{Post}
use Rattle.transcript_rules.specs.Opening.{Opening, Schedule}
use Rattle.transcript_rules.specs.Book.{Book, numbered, with_numbered, is_actor, is_up, is_open, points_of, tree_at, running_at, response, running_backup}

-- ---- whether an event may come

-- the actor is one of the cluster
abbrev pub is_there : Geometry → Actor → Bool
is_there g (Node n) = nat_lt n g.nodes
is_there g (Memory m) = nat_lt m g.memories
is_there g Manager = true

abbrev pub is_posted : Book → ℕ → Bool
is_posted book k = option_map_or (λ p. true) (numbered book.posts k) false

-- the receiver of a message is a memory node
abbrev pub is_memory : Actor → Bool
is_memory (Node n) = false
is_memory (Memory m) = true
is_memory Manager = false

abbrev pub goes_to_memory : Book → ℕ → Bool
goes_to_memory book k = option_map_or (λ p. is_memory p.to) (numbered book.posts k) false

-- at least 1, and at most a million
abbrev pub is_million : ℕ → Bool
is_million n = nat_le 1 n && nat_le n 1000000

abbrev pub is_backup_done : Book → ℕ → Bool
is_backup_done book b = option_map_or (λ x. x.done) (numbered book.backups b) false

-- an actor has something that it can give up
abbrev pub may_give_up : Geometry → Book → Actor → Bool
may_give_up g book (Node n) = nat_lt n g.nodes && is_up book (Node n) && is_some (running_at book n)
may_give_up g book (Memory m) = false
may_give_up g book Manager = is_up book Manager && is_some (running_backup book)

-- an event is not excluded; drains are spelled out before
unfoldable pub may_come : Geometry → Book → Event → Bool
may_come g book (event.Cluster nodes memories blocks inodes) = false
may_come g book (event.Arrive node sec usec bytes) = nat_lt node g.nodes && nat_lt (length book.arrivals) (2 ^ 32 - 1)
may_come g book (event.Deliver k None) = is_posted book k
may_come g book (event.Deliver k (Some calls)) = goes_to_memory book k && is_million calls
may_come g book (event.Drain count) = false
may_come g book (event.Lose k) = is_posted book k
may_come g book (event.GiveUp who) = may_give_up g book who
may_come g book (event.Resend who) = is_there g who && is_up book who
may_come g book (event.Crash who) = is_there g who && is_up book who
may_come g book (event.Start who choice) = is_there g who && not (is_up book who)
may_come g book (event.Sweep memory) = nat_lt memory g.memories && is_up book Manager
may_come g book (event.Checkpoint memory) = nat_lt memory g.memories && is_up book (Memory memory)
may_come g book event.Backup = is_up book Manager && not (is_some (running_backup book))
may_come g book (event.Show number) = is_backup_done book number
may_come g book event.End = true

-- ---- the next event

-- the least message from the k-th on that waits
unfoldable pub least_from : ℕ → List Post → Option ℕ
least_from k [] = None
least_from k (p ∷ rest) = if p.waits then Some k else least_from (k + 1) rest

abbrev pub least_undelivered : Book → Option ℕ
least_undelivered book = least_from 1 book.posts

-- the next event, and what is used up of the schedule with it; no event where the next line is refused
pub record Next : Type 0 where
  pub taken : ℕ
  pub drained : ℕ
  pub comes : Option Event

-- one delivery more of a drain that stands at this place, if there is a message, and else what comes behind the drain
abbrev pub drain_or : ℕ → ℕ → Option ℕ → Next → Next
drain_or taken drained (Some k) behind = record { taken = taken; drained = drained + 1; comes = Some (event.Deliver k None) }
drain_or taken drained None behind = behind

-- what comes by these lines of a schedule, before which so many are used up: a drain that has made all its deliveries, or
-- finds nothing to deliver, is stepped over
unfoldable pub next_in : Geometry → Book → ℕ → ℕ → Schedule → Next
next_in g book taken drained [] = record { taken = taken; drained = 0; comes = None }
next_in g book taken drained (None ∷ lines) = record { taken = taken; drained = 0; comes = None }
next_in g book taken drained (Some (event.Drain count) ∷ lines) =
    if is_million count
    then (if nat_lt drained count then drain_or taken drained (least_undelivered book) (next_in g book (taken + 1) 0 lines) else next_in g book (taken + 1) 0 lines)
    else record { taken = taken; drained = 0; comes = None }
next_in g book taken drained (Some e ∷ lines) =
    if may_come g book e then record { taken = taken + 1; drained = 0; comes = Some e } else record { taken = taken; drained = 0; comes = None }

abbrev pub next : Opening → Schedule → Book → Next
next o schedule book = next_in o.geometry book book.taken book.drained (drop book.taken schedule)

-- ---- one line more

-- a list without an actor
unfoldable pub without : Actor → List Actor → List Actor
without who [] = []
without who (a ∷ rest) = if is_actor who a then without who rest else a ∷ without who rest

-- an actor goes down; the manager's backup is over
abbrev pub backups_without : Actor → List Backup → List Backup
backups_without (Node n) backups = backups
backups_without (Memory m) backups = backups
backups_without Manager backups = with_numbered backups (length backups) (λ b. record b { over = true })

-- what a node was asked is lost with it
abbrev pub lost_at : ℕ → Arrival → Arrival
lost_at n a = if is_open n a then record a { ended = Some Lost } else a

abbrev pub arrivals_without : Actor → List Arrival → List Arrival
arrivals_without (Node n) arrivals = map (lost_at n) arrivals
arrivals_without (Memory m) arrivals = arrivals
arrivals_without Manager arrivals = arrivals

abbrev pub fallen : Book → Actor → Book
fallen book who = record book { down = who ∷ without who book.down; arrivals = arrivals_without who book.arrivals; backups = backups_without who book.backups }

-- a message is delivered: it is handled where its receiver is up
abbrev pub handed_on : ℕ → Bool → Post → Post
handed_on under up p = record p { waits = false; heard = if up then under else p.heard }

abbrev pub handed_among : List Actor → ℕ → Post → Post
handed_among down under p = handed_on under (not (list_any (is_actor p.to) down)) p

-- drains leave it out
abbrev pub left_out : Post → Post
left_out p = record p { waits = false }

-- what an event does by itself
unfoldable pub begun : Book → Event → Book
begun book (event.Arrive node sec usec bytes) =
    record book {
      arrivals = book.arrivals ++ (record {
        node = node;
        moment = record { sec = sec; usec = usec };
        bytes = bytes;
        points = points_of book;
        under = book.under;
        point = None;
        ended = None;
      }) ∷ [];
    }
begun book (event.Deliver k stop) = record book { posts = with_numbered book.posts k (handed_among book.down book.under) }
begun book (event.Lose k) = record book { posts = with_numbered book.posts k left_out }
begun book (event.Crash who) = fallen book who
begun book (event.Start who choice) = record book { down = without who book.down }
begun book event.Backup = record book { backups = book.backups ++ (record { cut = None; done = false; over = false }) ∷ [] }
begun book other = book

-- the next event begins
abbrev pub with_next : Book → Next → Book
with_next book n = option_map_or (λ e. begun (record book { taken = n.taken; drained = n.drained; now = Some e; under = book.under + 1; said = [] }) e) n.comes book

-- an arrival ends
abbrev pub with_end : Ended → Arrival → Arrival
with_end how a = record a { ended = Some how }

-- it made this change
abbrev pub with_point : ℕ → Arrival → Arrival
with_point point a = record a { point = Some point }

abbrev pub ended_as : Book → ℕ → Ended → Book
ended_as book number how = record book { arrivals = with_numbered book.arrivals number (with_end how) }

-- how an arrival ends that has no reply after it ran
abbrev pub retried_as : RetryWhy → Ended
retried_as retry.Unreached = GivenUp
retried_as other = Retried

-- a change: the tree that the arrival's call makes of the last one
abbrev pub changed : Book → ℕ → ℕ → Book
changed book point number =
    option_map_or (λ e. record book { trees = book.trees ++ e.tree ∷ []; arrivals = with_numbered book.arrivals number (with_point point) })
    (option_and_then (λ a. option_and_then (response a number) (tree_at book (points_of book))) (numbered book.arrivals number)) book

-- the lines of a listing of the tree of a backup
abbrev pub listing_of : Book → ℕ → List (List ℕ)
listing_of book number = option_map_or listing (option_and_then (tree_at book) (option_and_then (λ b. b.cut) (numbered book.backups number))) []

-- posts messages again
abbrev pub is_resend : Option Event → Bool
is_resend (Some (event.Resend who)) = true
is_resend other = false

-- what a line under an event tells
unfoldable pub told : Book → Line → Book
told book (line.Down who why) = fallen book who
told book (line.Point point arrival made) = changed book point arrival
told book (line.Sent k from to words) =
    record book { posts = book.posts ++ (record { from = from; to = to; words = words; under = book.under; again = is_resend book.now; waits = true; heard = 0 }) ∷ [] }
told book (line.Reply arrival at bytes) = ended_as book arrival Replied
told book (line.Retry arrival why) = ended_as book arrival (retried_as why)
told book (line.Dropped arrival why) = ended_as book arrival Dropped
told book (line.Cut number at) = record book { backups = with_numbered book.backups number (λ b. record b { cut = Some at }) }
told book (line.BackupDone number) = record book { backups = with_numbered book.backups number (λ b. record b { done = true; over = true }) }
told book (line.RetryBackup number why) = record book { backups = with_numbered book.backups number (λ b. record b { over = true }) }
told book (line.Mounted number lines) = record book { owed = listing_of book number }
told book (line.Listed text) = record book { owed = drop 1 book.owed }
told book (line.Refused number) = record book { closed = true }
told book line.End = record book { closed = true }
told book other = book

-- the book with one line more: a line that begins an event, or one under it
unfoldable pub noted : Opening → Schedule → Book → Line → Book
noted o schedule book (line.DoArrive arrival node) = with_next book (next o schedule book)
noted o schedule book (line.DoEvent e) = with_next book (next o schedule book)
noted o schedule book other = let after = told book other in record after { said = after.said ++ other ∷ [] }

-- more lines
unfoldable pub book_after : Opening → Schedule → Book → List Line → Book
book_after o schedule book [] = book
book_after o schedule book (l ∷ ls) = book_after o schedule (noted o schedule book l) ls
