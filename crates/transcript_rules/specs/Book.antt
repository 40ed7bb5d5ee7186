-- What the lines of a transcript tell, read one after another. Nothing here judges a line.
use Rattle.std.specs.Prelude.{ℕ, zero, suc, ◌+◌, ◌-◌, ◌==◌, Bool, true, false, ◌&&◌, not, if◌then◌else◌, List, [], ◌∷◌, length, slice_get, Option, Some, None, option_and_then}
use Rattle.std.specs.List.{list_any}
use Rattle.std.specs.Option.{option_map_or}
use Rattle.fs_rules.specs.declared.plain_tree.PlainTree.{PlainTree}
use Rattle.mini_tx.specs.declared.actor.Actor.{Actor}
use Rattle.mini_tx.specs.declared.actor.Actor.TheVariants.{Node, Memory, Manager}
use Rattle.nfs_service.specs.Reply.{heard, Effect, effect}
use Rattle.event_text.specs.declared.event.Event.{Event}
use Rattle.event_text.specs.declared.event.Event.TheVariants as event
use Rattle.line_text.specs.declared.line.Line.{Line}
use Rattle.transcript_rules.specs.declared.arrival.Arrival.{Arrival}
use Rattle.transcript_rules.specs.declared.backup.Backup.{Backup}
use Rattle.transcript_rules.specs.declared.post.Post.{Post}
use Rattle.transcript_rules.specs.Opening.{Opening}

-- all that is told
pub record Book : Type 0 where
  pub taken : ℕ  -- the lines of the schedule that are used up
  pub drained : ℕ  -- the deliveries of the drain that runs
  pub now : Option Event  -- the event whose lines stand last; a drain is spelled out as deliveries
  pub under : ℕ  -- how many events there were
  pub said : List Line  -- the lines under this event so far
  pub arrivals : List Arrival  -- arrival A is the A-th
  pub trees : List PlainTree  -- the opening tree, and the tree after each change
  pub posts : List Post  -- message k is the k-th
  pub down : List Actor  -- who is down
  pub backups : List Backup  -- backup B is the B-th
  pub owed : List (List ℕ)  -- the lines of a listing that are still to come
  pub closed : Bool  -- the last line stands

-- before the first line: the first line of the schedule is used up
abbrev pub opened : Opening → Book
opened o = record {
  taken = 1;
  drained = 0;
  now = None;
  under = 0;
  said = [];
  arrivals = [];
  trees = o.tree ∷ [];
  posts = [];
  down = o.down;
  backups = [];
  owed = [];
  closed = false;
}

-- ---- what follows from it

-- the element with this number, counted from 1
abbrev pub numbered : {X : Type 0} → List X → ℕ → Option X
numbered xs zero = None
numbered xs (suc k) = slice_get xs k

-- the same list with another element in the place of the k-th
unfoldable pub with_numbered : {X : Type 0} → List X → ℕ → (X → X) → List X
with_numbered xs zero f = xs
with_numbered [] (suc k) f = []
with_numbered (x ∷ xs) (suc zero) f = f x ∷ xs
with_numbered (x ∷ xs) (suc (suc k)) f = x ∷ with_numbered xs (suc k) f

-- an actor is another
abbrev pub is_actor : Actor → Actor → Bool
is_actor (Node a) (Node b) = a == b
is_actor (Memory a) (Memory b) = a == b
is_actor Manager Manager = true
is_actor other another = false

-- an actor is up
abbrev pub is_up : Book → Actor → Bool
is_up book who = not (list_any (is_actor who) book.down)

-- how many changes there are, and the tree behind the last
abbrev pub points_of : Book → ℕ
points_of book = length book.trees - 1

abbrev pub tree_at : Book → ℕ → Option PlainTree
tree_at book p = slice_get book.trees p

-- an arrival came to a node, and runs or waits there: it has not ended, and its node did not go down since
abbrev pub is_open : ℕ → Arrival → Bool
is_open n a = (a.node == n) && option_map_or (λ e. false) a.ended true

-- the first of some arrivals that is open, by its number
unfoldable pub first_open : ℕ → ℕ → List Arrival → Option ℕ
first_open n k [] = None
first_open n k (a ∷ rest) = if is_open n a then Some k else first_open n (k + 1) rest

-- the arrival that runs at a node: the earliest that is open
abbrev pub running_at : Book → ℕ → Option ℕ
running_at book n = first_open n 1 book.arrivals

-- what an arrival is answered in a tree: a new file's number is searched from the memory node with the arrival's number on
abbrev pub response : Arrival → ℕ → PlainTree → Option Effect
response a number t = effect t (heard a.bytes) number a.moment

-- the backup that runs: the last one, where it is not over
abbrev pub running_backup : Book → Option ℕ
running_backup book = option_and_then (λ b. if b.over then None else Some (length book.backups)) (numbered book.backups (length book.backups))

-- the message that the event delivers
abbrev pub delivered_now : Option Event → Option ℕ
delivered_now (Some (event.Deliver k stop)) = Some k
delivered_now other = None

-- and the message itself
abbrev pub handled_now : Book → Option Post
handled_now book = option_and_then (numbered book.posts) (delivered_now book.now)
