-- What the command `tree` owes: what it wrote for what all bytes of its input say.
use Rattle.std.specs.Prelude.{◌≡◌, ℕ, List, [], ◌∷◌, codes, Option, Result, Ok, Err}
use Rattle.fs_listing.specs.Listing.{listing}
use Rattle.schedule_text.specs.Stream.{Puts}
use Rattle.tree_command.specs.declared.answer.Answer.{Answer}
use Rattle.tree_command.specs.declared.answer.Answer.TheVariants.{Listed, Faulty}
use Rattle.tree_command.specs.declared.ending.Ending.{Ending}
use Rattle.tree_command.specs.declared.ending.Ending.TheVariants as ending
use Rattle.tree_command.specs.declared.input_fault.InputFault.{InputFault}
use Rattle.tree_command.specs.declared.input_fault.InputFault.TheVariants.{Head, Short, Trailing, Tree}
use Rattle.tree_command.specs.declared.stop.Stop.{Stop}
use Rattle.tree_command.specs.declared.stop.Stop.TheVariants.{ReadFault, WriteFault, NoMemory}
use Rattle.tree_command.specs.Input.{IsAnswer}
use Rattle.tree_command.specs.Reading.{OfText}
use Rattle.tree_command.specs.Writing.{text_of, WritesFront}

-- the line of a fault
abbrev pub fault_line : InputFault → List ℕ
fault_line Head = codes "fault head"
fault_line Short = codes "fault short"
fault_line Trailing = codes "fault trailing"
fault_line Tree = codes "fault tree"

-- the lines that are due
abbrev pub lines_of : Answer → List (List ℕ)
lines_of (Listed t) = listing t
lines_of (Faulty fault) = fault_line fault ∷ []

abbrev pub ending_of : Answer → Ending
ending_of (Listed t) = ending.Listed
ending_of (Faulty fault) = ending.Refused

-- what the text says was written, and the command ended so
pub record WasTold (held held' : Option (List ℕ)) (ended : Ending) (text : List ℕ) : Type 0 where
  pub answer : Answer
  pub says : IsAnswer text answer
  pub put : Puts held held' (text_of (lines_of answer))
  pub ending : ended ≡ ending_of answer

-- the front of what the text says was written
pub record WasBegun (held held' : Option (List ℕ)) (text : List ℕ) : Type 0 where
  pub answer : Answer
  pub says : IsAnswer text answer
  pub rest : List ℕ
  pub front : WritesFront held held' (text_of (lines_of answer)) rest

-- what the command does
abbrev pub Tells : Option (List ℕ) → Option (List ℕ) → Option (List ℕ) → Result Ending Stop → Type 0
Tells left held held' (Ok ended) = OfText left (WasTold held held' ended)
Tells left held held' (Err ReadFault) = held' ≡ held
Tells left held held' (Err WriteFault) = OfText left (WasBegun held held')
Tells left held held' (Err NoMemory) = Unit {0}
