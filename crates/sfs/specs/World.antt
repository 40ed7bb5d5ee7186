-- What the plain world is for a transcript, and what one event makes of it.
use Rattle.std.specs.Prelude.{◌≡◌, ℕ, ◌+◌, ◌≤◌, List, [], ◌∷◌, ◌++◌, length, All, Option, Some, None, Result, Ok, Err}
use Rattle.std.specs.List.{AllByRecursion}
use Rattle.sfs_base.specs.declared.no_memory.NoMemory.{NoMemory}
use Rattle.fs_rules.specs.Fresh.{fresh}
use Rattle.fs_tree.specs.declared.response.Change.{Change}
use Rattle.line_text.specs.declared.drop_why.DropWhy.TheVariants as why
use Rattle.event_text.specs.declared.event.Event.{Event}
use Rattle.event_text.specs.declared.event.Event.TheVariants as event
use Rattle.line_text.specs.declared.line.Line.{Line}
use Rattle.line_text.specs.Grammar.{IsWritableLine}
use Rattle.arrival_outcome.specs.declared.outcome.Outcome.{Outcome}
use Rattle.sfs.specs.declared.world.World.{World}
use Rattle.sfs.specs.declared.step.Step.{Step}
use Rattle.sfs.specs.declared.step.Step.TheVariants.{On, Ended, Refused}
use Rattle.sfs.specs.Schedule.{Schedule, cluster_of, cluster_in}
use Rattle.line_text.specs.declared.line.Line.TheVariants as line
use Rattle.sfs.specs.Book.{Book, last_tree, next_event, book_after}
use Rattle.sfs.specs.Legal.{IsAtRest, IsLegalFrom}

-- the world is where these lines of a transcript leave it
pub record Stands (schedule : Schedule) (book : Book) (w : World) : Type 0 where
  pub cluster : cluster_of schedule ≡ Some w.tree.geometry
  pub rest : IsAtRest book
  pub arrivals : w.arrivals ≡ length book.arrivals
  pub points : w.points ≡ length book.points
  pub trees : length book.trees ≡ length book.points + 1
  pub last : last_tree book ≡ Some w.tree
  pub changed : All (λ a. a ≤ length book.arrivals) book.points
  pub ended : All (λ a. a ≤ length book.arrivals) book.ended

-- the lines of one event were taken: they are legal, the world is where they leave it, and one line of the schedule was used up
pub record GoesOn (schedule : Schedule) (book : Book) (new : World) (lines : List Line) : Type 0 where
  pub legal : IsLegalFrom schedule book lines
  pub stands : Stands schedule (book_after schedule book lines) new
  pub used : (book_after schedule book lines).lines ≡ book.lines + 1

-- what one event makes of the world
abbrev pub Steps : Schedule → Book → World → Result Step NoMemory → Type 0
Steps schedule book new (Ok (On lines)) = GoesOn schedule book new lines
Steps schedule book new (Ok Ended) = next_event schedule book ≡ Some event.End
Steps schedule book new (Ok Refused) = next_event schedule book ≡ None
Steps schedule book new (Err e) = Unit {0}

-- the line that ends an arrival: its reply, or that it gets none
abbrev pub closing : ℕ → ℕ → Option (List ℕ) → Line
closing arrival at (Some bytes) = line.Reply arrival at bytes
closing arrival at None = line.Dropped arrival why.Silent

-- the line of a change, where there is one: it is the one with this number
abbrev pub change_lines : ℕ → ℕ → Option Change → List Line
change_lines arrival points None = []
change_lines arrival points (Some change) = line.Point points arrival change.made ∷ []

-- the lines of an arrival that came to this, after so many changes: that it came, its change, and how it ends
abbrev pub arrival_lines : ℕ → ℕ → ℕ → Outcome → List Line
arrival_lines arrival node points o = line.DoArrive arrival node ∷ (change_lines arrival points o.change ++ closing arrival points o.reply ∷ [])

-- the lines of a step have spellings
abbrev pub HasSpellings : Step → Type 0
HasSpellings (On lines) = AllByRecursion IsWritableLine lines
HasSpellings Ended = Unit {0}
HasSpellings Refused = Unit {0}

-- the world of a cluster opens before the first line
abbrev pub Opens : Option Event → Option World → Type 0
Opens line (Some w) = (cluster_in line ≡ Some w.tree.geometry) × (w.arrivals ≡ 0) × (w.points ≡ 0) × (w.tree ≡ fresh w.tree.geometry)
Opens line None = cluster_in line ≡ None
