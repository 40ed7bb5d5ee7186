-- The book that facts are those of.
use Rattle.std.specs.Prelude.{◌≡◌, ℕ, ◌+◌, Bool, true, false, if◌then◌else◌, List, [], ◌∷◌, length, Option, Some, None}
use Rattle.fs_rules.specs.declared.plain_tree.PlainTree.{PlainTree}
use Rattle.event_text.specs.declared.event.Event.{Event}
use Rattle.line_text.specs.declared.line.Line.{Line}
use Rattle.transcript_rules.specs.declared.backup.Backup.{Backup}
use Rattle.transcript_rules.specs.Book.{Book, numbered}
use Rattle.transcript_book.specs.Sayings.{AreSaid}
use Rattle.transcript_facts.specs.declared.facts.Facts.{Facts}
use Rattle.transcript_facts.specs.Now.{now_of}

-- a list has no element
abbrev pub is_nil : {X : Type 0} → List X → Bool
is_nil [] = true
is_nil (x ∷ xs) = false

-- a backup with its cut, done, or over
abbrev pub with_cut : ℕ → Backup → Backup
with_cut at b = record b { cut = Some at }

abbrev pub with_done : Backup → Backup
with_done b = record b { done = true; over = true }

abbrev pub with_over : Backup → Backup
with_over b = record b { over = true }

-- the backup that runs
abbrev pub running_by : ℕ → Option Backup → Option ℕ
running_by number None = None
running_by number (Some b) = if b.over then None else Some number

abbrev pub running_in : List Backup → Option ℕ
running_in backups = running_by (length backups) (numbered backups (length backups))

-- the book with these facts, where the event that runs, the lines under it, and the trees are these
abbrev pub book_of : Facts → Option Event → List Line → List PlainTree → Book
book_of f e said trees = record {
  taken = f.taken;
  drained = f.drained;
  now = e;
  under = f.under;
  said = said;
  arrivals = f.arrivals;
  trees = trees;
  posts = f.mail;
  down = f.down;
  backups = f.backups;
  owed = f.owed;
  closed = f.closed;
}

-- facts are those of a book
pub record AreFacts (book : Book) (f : Facts) : Type 0 where
  pub e : Option Event
  pub said : List Line
  pub trees : List PlainTree
  pub is : book ≡ book_of f e said trees
  pub running : f.event ≡ now_of e
  pub are : AreSaid said f.said
  pub points : length trees ≡ f.points + 1
