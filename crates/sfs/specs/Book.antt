-- What the lines of a transcript say together: the arrivals, the changes and the trees after each of them.
use Rattle.std.specs.Prelude.{ℕ, zero, suc, ◌+◌, ◌-◌, ◌^◌, ◌==◌, nat_lt, Bool, true, false, ◌&&◌, if◌then◌else◌, List, [], ◌∷◌, ◌++◌, length, slice_get, position, option_map, option_and_then, Option, Some, None}
use Rattle.fs_rules.specs.declared.geometry.Geometry.{Geometry}
use Rattle.nfs_proto.specs.declared.stamp.Stamp.{Stamp}
use Rattle.fs_rules.specs.declared.plain_tree.PlainTree.{PlainTree}
use Rattle.fs_rules.specs.Fresh.{fresh}
use Rattle.event_text.specs.declared.event.Event.{Event}
use Rattle.event_text.specs.declared.event.Event.TheVariants as event
use Rattle.line_words.specs.declared.limits.TheConstants.{MAX_LINES}
use Rattle.line_text.specs.declared.line.Line.{Line}
use Rattle.line_text.specs.declared.line.Line.TheVariants as line
use Rattle.nfs_service.specs.Reply.{heard, Effect, effect}
use Rattle.sfs.specs.Schedule.{Schedule, cluster_of}

-- a datagram that came to a node, and how many changes stood before it
pub record Arrival : Type 0 where
  pub node : ℕ
  pub moment : Stamp
  pub bytes : List ℕ
  pub points : ℕ

pub record Book : Type 0 where
  pub lines : ℕ  -- the lines of the schedule that were taken
  pub arrivals : List Arrival
  pub points : List ℕ  -- the arrival of each change
  pub trees : List PlainTree  -- the opening tree, and the tree after each change
  pub ended : List ℕ  -- the arrivals that have their reply or were dropped
  pub closed : Bool  -- the last line stands

-- the element with this number, counted from 1
abbrev pub numbered : {X : Type 0} → List X → ℕ → Option X
numbered xs zero = None
numbered xs (suc k) = slice_get xs k

-- the number of the change that an arrival made
abbrev pub point_of : Book → ℕ → Option ℕ
point_of book arrival = option_map (λ k. k + 1) (position (λ a. a == arrival) book.points)

-- the tree as it is now
abbrev pub last_tree : Book → Option PlainTree
last_tree book = slice_get book.trees (length book.points)

-- before the first line, where the schedule begins with a cluster within the limits, and where it does not
abbrev pub opened_at : Option Geometry → Book
opened_at (Some g) = record { lines = 1; arrivals = []; points = []; trees = fresh g ∷ []; ended = []; closed = false }
opened_at None = record { lines = 0; arrivals = []; points = []; trees = []; ended = []; closed = false }

abbrev pub opened : Schedule → Book
opened schedule = opened_at (cluster_of schedule)

-- whether an event may come: an arrival whose node is there, and before which not too many came, or the end; the plain tree knows
-- no other
abbrev pub may_come : Geometry → Book → Event → Bool
may_come g book (event.Arrive node sec usec bytes) = nat_lt node g.nodes && nat_lt (length book.arrivals) (2 ^ 32 - 1)
may_come g book event.End = true
may_come g book other = false

-- the event of a line, if it may come
abbrev pub come_from : Geometry → Book → Option Event → Option Event
come_from g book None = None
come_from g book (Some e) = if may_come g book e then Some e else None

-- the event of the next line: none where the line is missing, outside the grammar, excluded or beyond the limit of lines,
-- or where there is no cluster
unfoldable pub next_event : Schedule → Book → Option Event
next_event schedule book = option_and_then (λ g. if nat_lt book.lines MAX_LINES then option_and_then (come_from g book) (slice_get schedule book.lines) else None) (cluster_of schedule)

-- what an arrival is answered in a tree
abbrev pub response : Book → ℕ → PlainTree → Option Effect
response book arrival t = option_and_then (λ a. effect t (heard a.bytes) arrival a.moment) (numbered book.arrivals arrival)

-- one more arrival
abbrev pub with_arrival : Book → Option Event → Book
with_arrival book None = book
with_arrival book (Some (event.Arrive node sec usec bytes)) =
    record book {
      lines = book.lines + 1;
      arrivals = book.arrivals ++ (record { node = node; moment = record { sec = sec; usec = usec }; bytes = bytes; points = length book.points }) ∷ [];
    }
with_arrival book (Some other) = book

-- one more change
abbrev pub with_point : Book → ℕ → Option Effect → Book
with_point book arrival None = book
with_point book arrival (Some e) = record book { points = book.points ++ arrival ∷ []; trees = book.trees ++ e.tree ∷ [] }

-- one more line
unfoldable pub noted : Schedule → Book → Line → Book
noted schedule book (line.DoArrive arrival node) = with_arrival book (next_event schedule book)
noted schedule book (line.Point point arrival made) = with_point book arrival (option_and_then (response book arrival) (last_tree book))
noted schedule book (line.Reply arrival at bytes) = record book { ended = book.ended ++ arrival ∷ [] }
noted schedule book (line.Dropped arrival why) = record book { ended = book.ended ++ arrival ∷ [] }
noted schedule book (line.Refused number) = record book { closed = true }
noted schedule book line.End = record book { closed = true }
noted schedule book other = book

-- more lines
unfoldable pub book_after : Schedule → Book → List Line → Book
book_after schedule book [] = book
book_after schedule book (l ∷ ls) = book_after schedule (noted schedule book l) ls
