-- Truth: the changes, the replies, and the cuts of backups are those of one file system.
use Rattle.std.specs.Prelude.{◌≡◌, ◌≢◌, ℕ, ◌+◌, ◌-◌, ◌≤◌, ◌<◌, Bool, true, false, List, [], ◌∷◌, length, Option, Some, None}
use Rattle.std.specs.List.{list_any}
use Rattle.fs_rules.specs.declared.plain_tree.PlainTree.{PlainTree}
use Rattle.nfs_service.specs.Reply.{Effect}
use Rattle.event_text.specs.declared.event.Event.TheVariants as event
use Rattle.line_text.specs.declared.drop_why.DropWhy.{DropWhy}
use Rattle.line_text.specs.declared.drop_why.DropWhy.TheVariants as drop
use Rattle.line_text.specs.declared.down_why.DownWhy.TheVariants as down
use Rattle.line_text.specs.declared.line.Line.{Line}
use Rattle.line_text.specs.declared.line.Line.TheVariants as line
use Rattle.transcript_rules.specs.declared.arrival.Arrival.{Arrival}
use Rattle.transcript_rules.specs.declared.backup.Backup.{Backup}
use Rattle.transcript_rules.specs.declared.ended.Ended.{Ended}
use Rattle.transcript_rules.specs.declared.ended.Ended.TheVariants.{Replied, Dropped, Retried, GivenUp, Lost}
use Rattle.transcript_rules.specs.Book.{Book, numbered, points_of, tree_at, response, running_at, running_backup}
use Rattle.transcript_rules.specs.Next.{listing_of}

-- a change may come of an arrival that has not ended, or that was given up or lost with its node
abbrev pub may_change : Option Ended → Bool
may_change None = true
may_change (Some GivenUp) = true
may_change (Some Lost) = true
may_change (Some Replied) = false
may_change (Some Dropped) = false
may_change (Some Retried) = false

-- an arrival may be dropped that has not ended, also where its node is down
abbrev pub may_drop : Option Ended → Bool
may_drop None = true
may_drop (Some Lost) = true
may_drop (Some GivenUp) = false
may_drop (Some Replied) = false
may_drop (Some Dropped) = false
may_drop (Some Retried) = false

-- `point P arrival A made F G`: it is the next change; A came, has made none before, and has no reply and was not dropped or
-- tried too often; what its call is answered in the last tree changes that tree, and makes this file
pub record IsTruePoint (book : Book) (point arrival : ℕ) (made : Option (ℕ × ℕ)) : Type 0 where
  pub number : point ≡ points_of book + 1
  pub a : Arrival
  pub came : numbered book.arrivals arrival ≡ Some a
  pub first : a.point ≡ None
  pub may : may_change a.ended ≡ true
  pub tree : PlainTree
  pub last : tree_at book (points_of book) ≡ Some tree
  pub e : Effect
  pub answered : response a arrival tree ≡ Some e
  pub differs : e.tree ≢ tree
  pub made_is : made ≡ e.made

-- the reply to an arrival that made a change is that of the tree before the change; that of one that made none is of the tree
-- after a number of changes, no fewer than stood before it came and no more than stand now, which its call leaves as it is
abbrev pub HoldsAt : Book → Arrival → Effect → ℕ → PlainTree → Option ℕ → Type 0
HoldsAt book a e at t (Some point) = (at ≡ point) × (tree_at book (point - 1) ≡ Some t)
HoldsAt book a e at t None = (a.points ≤ at) × (at ≤ points_of book) × (tree_at book at ≡ Some t) × (e.tree ≡ t)

-- the arrivals of one life of a node that do not end in their own event end in the order in which they came
pub record EndsInOrder (book : Book) (arrival : ℕ) (a : Arrival) : Type 0 where
  pub in_order : a.under < book.under → running_at book a.node ≡ Some arrival

-- the arrival has not ended, and its node did not crash since
pub record IsOpen (book : Book) (arrival : ℕ) (a : Arrival) : Type 0 where
  pub came : numbered book.arrivals arrival ≡ Some a
  pub runs : a.ended ≡ None

-- `reply A at p HEX`: A has no reply, and was not dropped, given up or tried too often; its node did not crash since; and the
-- bytes are those of the file system after the prefix that the reply names
pub record IsTrueReply (book : Book) (arrival at : ℕ) (bytes : List ℕ) : Type 0 where
  pub a : Arrival
  pub runs : IsOpen book arrival a
  pub order : EndsInOrder book arrival a
  pub tree : PlainTree
  pub e : Effect
  pub answered : response a arrival tree ≡ Some e
  pub holds : HoldsAt book a e at tree a.point
  pub is : bytes ≡ e.reply

-- `retry A ..`: A has not ended, and ends in its turn
pub record IsTrueRetry (book : Book) (arrival : ℕ) : Type 0 where
  pub a : Arrival
  pub runs : IsOpen book arrival a
  pub order : EndsInOrder book arrival a

-- `dropped A ..`: A may be dropped; bytes of a memory that stands for a tree are never damaged
pub record IsTrueDrop (book : Book) (arrival : ℕ) (why : DropWhy) : Type 0 where
  pub a : Arrival
  pub came : numbered book.arrivals arrival ≡ Some a
  pub may : may_drop a.ended ≡ true
  pub whole : (memory at : ℕ) → why ≡ drop.Damaged memory at → ⊥

-- `cut B at P`: P is the number of changes so far; B is the backup that runs, and has no cut yet
pub record IsTrueCut (book : Book) (number at : ℕ) : Type 0 where
  pub at_is : at ≡ points_of book
  pub runs : running_backup book ≡ Some number
  pub b : Backup
  pub there : numbered book.backups number ≡ Some b
  pub first : b.cut ≡ None

-- `backup B done`: B is the backup that runs, and its cut was made
pub record IsTrueDone (book : Book) (number : ℕ) : Type 0 where
  pub runs : running_backup book ≡ Some number
  pub b : Backup
  pub there : numbered book.backups number ≡ Some b
  pub at : ℕ
  pub cut : b.cut ≡ Some at

-- a line that says what an archive was mounted as
abbrev pub is_mounting_line : Line → Bool
is_mounting_line (line.Mounted number lines) = true
is_mounting_line (line.MountFailed number) = true
is_mounting_line other = false

-- what an archive was mounted as stands once under its event, and nowhere else
pub record IsMounting (book : Book) (number : ℕ) : Type 0 where
  pub under : book.now ≡ Some (event.Show number)
  pub first : list_any is_mounting_line book.said ≡ false

-- `mounted B N`: N lines follow, which are those of the tree of B's cut
pub record IsTrueMount (book : Book) (number lines : ℕ) : Type 0 where
  pub mounting : IsMounting book number
  pub many : lines ≡ length (listing_of book number)

-- a line of a listing: it is the next that is owed
pub record IsTrueListing (book : Book) (text : List ℕ) : Type 0 where
  pub rest : List (List ℕ)
  pub next : book.owed ≡ text ∷ rest

-- no line of a listing is owed
pub record OwesNone (book : Book) : Type 0 where
  pub none : book.owed ≡ []

-- a line is true, whatever it stands under: of a line that begins an event, of messages and of losses nothing is said here
abbrev pub IsTrueLine : Book → Line → Type 0
IsTrueLine book (line.Down who why) = OwesNone book × (why ≢ down.Damaged)
IsTrueLine book (line.Point point arrival made) = OwesNone book × IsTruePoint book point arrival made
IsTrueLine book (line.Reply arrival at bytes) = OwesNone book × IsTrueReply book arrival at bytes
IsTrueLine book (line.Retry arrival why) = OwesNone book × IsTrueRetry book arrival
IsTrueLine book (line.Dropped arrival why) = OwesNone book × IsTrueDrop book arrival why
IsTrueLine book (line.Cut number at) = OwesNone book × IsTrueCut book number at
IsTrueLine book (line.BackupDone number) = OwesNone book × IsTrueDone book number
IsTrueLine book (line.RetryBackup number why) = OwesNone book × (running_backup book ≡ Some number)
IsTrueLine book (line.Mounted number lines) = OwesNone book × IsTrueMount book number lines
IsTrueLine book (line.Listed text) = IsTrueListing book text
IsTrueLine book (line.MountFailed number) = OwesNone book × IsMounting book number
IsTrueLine book (line.MountBad number) = ⊥
IsTrueLine book other = OwesNone book
