-- Which transcripts are legal for a schedule: each line is judged by the schedule and the lines before it.
use Rattle.std.specs.Prelude.{◌≡◌, ◌≢◌, ℕ, ◌+◌, ◌-◌, ◌≤◌, false, List, [], ◌∷◌, ◌++◌, length, slice_get, Contains, Option, Some, None}
use Rattle.std.specs.List.{flat_map}
use Rattle.fs_rules.specs.declared.plain_tree.PlainTree.{PlainTree}
use Rattle.line_text.specs.declared.drop_why.DropWhy.{DropWhy}
use Rattle.line_text.specs.declared.drop_why.DropWhy.TheVariants as why
use Rattle.event_text.specs.declared.event.Event.TheVariants as event
use Rattle.line_text.specs.declared.line.Line.{Line}
use Rattle.line_text.specs.declared.line.Line.TheVariants as line
use Rattle.line_text.specs.Grammar.{spelling_of_line}
use Rattle.sfs.specs.Schedule.{Schedule}
use Rattle.nfs_service.specs.declared.request.Request.TheVariants as request
use Rattle.nfs_service.specs.Reply.{heard, Effect, effect}
use Rattle.sfs.specs.Book.{Book, Arrival, numbered, point_of, last_tree, opened, next_event, response, noted}

-- no line came that is the last, and every arrival so far has its reply or was dropped
pub record IsAtRest (book : Book) : Type 0 where
  pub ongoing : book.closed ≡ false
  pub ended : length book.ended ≡ length book.arrivals

-- no line came that is the last, and this arrival came and has no reply and was not dropped
pub record IsRunning (book : Book) (arrival : ℕ) (a : Arrival) : Type 0 where
  pub ongoing : book.closed ≡ false
  pub came : numbered book.arrivals arrival ≡ Some a
  pub runs : Contains book.ended arrival → ⊥

-- `do arrive A n`: it is the next arrival, and the next event of the schedule
pub record Arrives (schedule : Schedule) (book : Book) (arrival node : ℕ) : Type 0 where
  pub rest : IsAtRest book
  pub number : arrival ≡ length book.arrivals + 1
  pub sec : ℕ
  pub usec : ℕ
  pub bytes : List ℕ
  pub event : next_event schedule book ≡ Some (event.Arrive node sec usec bytes)

-- `point P arrival A made F G`: it is the next change, the arrival has made none before, and what its call is answered in
-- the tree so far changes that tree
pub record Changes (book : Book) (point arrival : ℕ) (made : Option (ℕ × ℕ)) : Type 0 where
  pub a : Arrival
  pub running : IsRunning book arrival a
  pub number : point ≡ length book.points + 1
  pub first : point_of book arrival ≡ None
  pub tree : PlainTree
  pub last : last_tree book ≡ Some tree
  pub e : Effect
  pub answered : response book arrival tree ≡ Some e
  pub differs : e.tree ≢ tree
  pub made_is : made ≡ e.made

-- the reply to an arrival that made this change is that in the tree before the change; one that made none is answered in
-- the tree after a number of changes that is not below the number before it came nor above the number so far, and its
-- call leaves that tree as it is
abbrev pub HoldsAt : Book → Arrival → Effect → ℕ → PlainTree → Option ℕ → Type 0
HoldsAt book a e at t (Some point) = (at ≡ point) × (slice_get book.trees (point - 1) ≡ Some t)
HoldsAt book a e at t None = (a.points ≤ at) × (at ≤ length book.points) × (slice_get book.trees at ≡ Some t) × (e.tree ≡ t)

-- `reply A at p HEX`: the bytes are those of the file system after the prefix that the reply names
pub record Replies (book : Book) (arrival at : ℕ) (bytes : List ℕ) : Type 0 where
  pub a : Arrival
  pub running : IsRunning book arrival a
  pub tree : PlainTree
  pub e : Effect
  pub answered : effect tree (heard a.bytes) arrival a.moment ≡ Some e
  pub holds : HoldsAt book a e at tree (point_of book arrival)
  pub is : bytes ≡ e.reply

-- `dropped A silent`: what came is silence
pub record Drops (book : Book) (arrival : ℕ) (reason : DropWhy) : Type 0 where
  pub a : Arrival
  pub running : IsRunning book arrival a
  pub heard_as : heard a.bytes ≡ request.Silent
  pub is : reason ≡ why.Silent

-- `refused N`: line N is the next of the schedule, and no event that may come
pub record Refuses (schedule : Schedule) (book : Book) (number : ℕ) : Type 0 where
  pub rest : IsAtRest book
  pub number_is : number ≡ book.lines + 1
  pub none : next_event schedule book ≡ None

-- `end`: it is the next event of the schedule
pub record Ends (schedule : Schedule) (book : Book) : Type 0 where
  pub rest : IsAtRest book
  pub event : next_event schedule book ≡ Some event.End

-- a line may come after those that the book tells
abbrev pub IsAllowed : Schedule → Book → Line → Type 0
IsAllowed schedule book (line.DoArrive arrival node) = Arrives schedule book arrival node
IsAllowed schedule book (line.Point point arrival made) = Changes book point arrival made
IsAllowed schedule book (line.Reply arrival at bytes) = Replies book arrival at bytes
IsAllowed schedule book (line.Dropped arrival reason) = Drops book arrival reason
IsAllowed schedule book (line.Refused number) = Refuses schedule book number
IsAllowed schedule book line.End = Ends schedule book
IsAllowed schedule book other = ⊥

-- these lines may come, one after another
unfoldable pub IsLegalFrom : Schedule → Book → List Line → Type 0
IsLegalFrom schedule book [] = Unit {0}
IsLegalFrom schedule book (l ∷ ls) = IsAllowed schedule book l × IsLegalFrom schedule (noted schedule book l) ls

-- a transcript is legal for a schedule
abbrev pub IsLegal : Schedule → List Line → Type 0
IsLegal schedule lines = IsLegalFrom schedule (opened schedule) lines

-- the bytes of a transcript: each line and its end
unfoldable pub text_of : List Line → List ℕ
text_of lines = flat_map (λ l. spelling_of_line l ++ 10 ∷ []) lines
