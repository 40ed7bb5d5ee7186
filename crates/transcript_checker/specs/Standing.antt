-- What a checker holds is what the lines so far tell; and what its judgement says.
use Rattle.std.specs.Prelude.{◌≡◌, ℕ, ◌+◌, ◌≤◌, ◌<◌, ◌^◌, Bool, true, false, List, [], ◌∷◌, length, slice_get, Option, None, Some, Result, Ok, Err}
use Rattle.std.specs.List.{All}
use Rattle.sfs_base.specs.declared.no_memory.NoMemory.{NoMemory}
use Rattle.line_text.specs.declared.line.Line.{Line}
use Rattle.line_text.specs.declared.line.Line.TheVariants as line
use Rattle.transcript_rules.specs.declared.arrival.Arrival.{Arrival}
use Rattle.transcript_rules.specs.declared.post.Post.{Post}
use Rattle.transcript_rules.specs.Opening.{Opening, Schedule}
use Rattle.transcript_rules.specs.Book.{Book, numbered}
use Rattle.transcript_rules.specs.Next.{noted}
use Rattle.transcript_rules.specs.Legal.{IsAllowed}
use Rattle.transcript_book.specs.Sayings.{AreSaid}
use Rattle.transcript_facts.specs.declared.facts.Facts.{Facts}
use Rattle.transcript_facts.specs.declared.now.Now.TheVariants as now
use Rattle.transcript_facts.specs.Facts.{AreFacts}
use Rattle.transcript_trees.specs.declared.trees.Trees.{Trees}
use Rattle.transcript_trees.specs.Trees.{AreKept}
use Rattle.transcript_trees.specs.Kept.{AreReplies, AreCuts}
use Rattle.transcript_checker.specs.declared.checker.Checker.{Checker}

-- no line stands yet
pub record IsNothing (f : Facts) : Type 0 where
  pub taken : f.taken ≡ 1
  pub drained : f.drained ≡ 0
  pub event : f.event ≡ now.Nothing
  pub under : f.under ≡ 0
  pub said : AreSaid [] f.said
  pub arrivals : f.arrivals ≡ []
  pub points : f.points ≡ 0
  pub mail : f.mail ≡ []
  pub down : f.down ≡ []
  pub backups : f.backups ≡ []
  pub owed : f.owed ≡ []
  pub closed : f.closed ≡ false

-- the tree that an arrival without a reply and without a change may name is kept
abbrev pub Reaches : List Arrival → ℕ → Type 0
Reaches arrivals oldest = (k : ℕ) (a : Arrival) → numbered arrivals k ≡ Some a → a.ended ≡ None → a.point ≡ None → oldest ≤ a.points

-- no message was posted in a later event
abbrev pub ArePosted : List Post → ℕ → Type 0
ArePosted posts under = (k : ℕ) (p : Post) → slice_get posts k ≡ Some p → p.under ≤ under

-- a checker is where these lines leave it, which were so many
pub record Stands (o : Opening) (schedule : Schedule) (n : ℕ) (book : Book) (c : Checker) : Type 0 where
  pub cluster : o.geometry ≡ c.geometry
  pub facts : AreFacts book c.facts
  pub events : c.facts.under ≤ n
  pub changes : c.facts.points ≤ n
  pub taken : c.facts.taken ≤ length schedule
  pub posts : ArePosted book.posts book.under
  pub kept : AreKept book.trees c.trees
  pub reach : Reaches book.arrivals c.trees.oldest
  pub replies : AreReplies book.trees book.arrivals c.replies
  pub cuts : AreCuts book.trees book.backups c.cuts.trees.items

-- a tree is kept, and their count is one of 64 bits
pub record HasTrees (t : Trees) : Type 0 where
  pub there : 0 < length t.kept.items
  pub small : t.oldest + length t.kept.items < 2 ^ 64

-- its counts go on, and its messages stand in order
pub record HasRoom (c : Checker) : Type 0 where
  pub trees : HasTrees c.trees
  pub under : c.facts.under + 1 < 2 ^ 64
  pub points : c.facts.points + 1 < 2 ^ 64
  pub posts : All (λ (p : Post). p.under ≤ c.facts.under) c.facts.mail

-- the line that was judged may stand exactly where the checker said so, and is taken then
abbrev pub Judges : Opening → Schedule → ℕ → Book → Line → Checker → Result Bool NoMemory → Type 0
Judges o schedule n book l after (Ok true) = IsAllowed o schedule book l × Stands o schedule (n + 1) (noted o schedule book l) after
Judges o schedule n book l after (Ok false) = IsAllowed o schedule book l → ⊥
Judges o schedule n book l after (Err e) = Unit {0}

-- lines that begin an event, end a transcript, or need a tree
abbrev pub is_elsewhere : Line → Bool
is_elsewhere (line.DoArrive arrival node) = true
is_elsewhere (line.DoEvent e) = true
is_elsewhere (line.Refused number) = true
is_elsewhere line.End = true
is_elsewhere (line.Point point arrival made) = true
is_elsewhere (line.Reply arrival at bytes) = true
is_elsewhere (line.Cut number at) = true
is_elsewhere (line.Mounted number lines) = true
is_elsewhere (line.Listed text) = true
is_elsewhere other = false
