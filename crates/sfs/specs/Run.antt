-- What a run of the program owes: what it wrote, which status it ends in, and which fault that names.
use Rattle.std.specs.Prelude.{◌≡◌, ℕ, List, Option, Some, None}
use Rattle.sfs_base.specs.Fault.{Rose}
use Rattle.schedule_text.specs.Stream.{Puts}
use Rattle.line_stream.specs.Output.{WritesFront}
use Rattle.line_stream.specs.declared.stop.Stop.TheVariants as stop
use Rattle.make_command.specs.Made.{made_text}
use Rattle.check_input.specs.Whole.{OfText as OfInput}
use Rattle.check_command.specs.declared.found.Found.{Found}
use Rattle.check_command.specs.declared.found.Found.TheVariants as found
use Rattle.check_command.specs.Command.{WasTold as Finding, WasBegun as FindingBegun}
use Rattle.sfs.specs.declared.command.Command.{Command}
use Rattle.sfs.specs.declared.command.Command.TheVariants as command
use Rattle.sfs.specs.declared.ending.Ending.TheVariants as ending
use Rattle.sfs.specs.declared.status.Status.{Status}
use Rattle.sfs.specs.declared.status.Status.TheVariants as status
use Rattle.sfs.specs.Replay.{Came, Stopped}
use Rattle.tree_command.specs.declared.ending.Ending.TheVariants as listed
use Rattle.tree_command.specs.Command.{WasBegun, WasTold}
use Rattle.tree_command.specs.Reading.{OfText}

-- `replay`: what was written to a sink that tells it, for a source that tells its text: the lines of a legal transcript that
-- ends in `end` (Done) or in `refused N` (Refused), or else the front of those lines that a run was stopped at
abbrev pub Transcribes : Option (List ℕ) → Option (List ℕ) → Option (List ℕ) → Option (List ℕ) → Status → Type 0
Transcribes left left' held held' status.Done = Came left held held' ending.Ended
Transcribes left left' held held' status.Differs = ⊥
Transcribes left left' held held' status.Usage = ⊥
Transcribes left left' held held' status.Refused = Came left held held' ending.Refused
Transcribes left left' held held' status.ReadFault = Stopped left left' held held' stop.ReadFault
Transcribes left left' held held' status.WriteFault = Stopped left left' held held' stop.WriteFault
Transcribes left left' held held' status.NoMemory = Stopped left left' held held' stop.NoMemory
Transcribes left left' held held' status.DiskFault = ⊥
Transcribes left left' held held' status.PortFault = ⊥

-- `tree`: what was written to a sink that tells it, for a source that tells its bytes: the listing of the tree that these bytes stand
-- for (Done), or the line of the fault that is theirs (Refused); nothing where the source failed, and the front of what is due
-- where the sink did
abbrev pub TellsTree : Option (List ℕ) → Option (List ℕ) → Option (List ℕ) → Status → Type 0
TellsTree left held held' status.Done = OfText left (WasTold held held' listed.Listed)
TellsTree left held held' status.Differs = ⊥
TellsTree left held held' status.Usage = ⊥
TellsTree left held held' status.Refused = OfText left (WasTold held held' listed.Refused)
TellsTree left held held' status.ReadFault = held' ≡ held
TellsTree left held held' status.WriteFault = OfText left (WasBegun held held')
TellsTree left held held' status.NoMemory = Unit {0}
TellsTree left held held' status.DiskFault = ⊥
TellsTree left held held' status.PortFault = ⊥

-- `check`: what was written to a sink that tells it, for a source that tells its bytes: `holds` where the transcript is legal for
-- the schedule and ends (Done), `fails L` with its first line that may not stand (Differs), or `refused L` with the first line of
-- the input that is outside its grammar (Refused); nothing where the source failed, and the front of what is due where the sink did
abbrev pub Checks : Option (List ℕ) → Option (List ℕ) → Option (List ℕ) → Status → Type 0
Checks left held held' status.Done = OfInput left (Finding held held' found.Holds)
Checks left held held' status.Differs = (line : ℕ) × OfInput left (Finding held held' (found.Fails line))
Checks left held held' status.Usage = ⊥
Checks left held held' status.Refused = (line : ℕ) × OfInput left (Finding held held' (found.Refused line))
Checks left held held' status.ReadFault = held' ≡ held
Checks left held held' status.WriteFault = OfInput left (FindingBegun held held')
Checks left held held' status.NoMemory = held' ≡ held
Checks left held held' status.DiskFault = ⊥
Checks left held held' status.PortFault = ⊥

-- how a run ends that found this
abbrev pub status_of : Found → Status
status_of found.Holds = status.Done
status_of (found.Fails line) = status.Differs
status_of (found.Refused line) = status.Refused

-- `make`: the whole text was written (Done), or a front of it
abbrev pub Makes : List ℕ → Option (List ℕ) → Option (List ℕ) → Status → Type 0
Makes text held held' status.Done = Puts held held' text
Makes text held held' status.Differs = ⊥
Makes text held held' status.Usage = ⊥
Makes text held held' status.Refused = ⊥
Makes text held held' status.ReadFault = ⊥
Makes text held held' status.WriteFault = (rest : List ℕ) × WritesFront held held' text rest
Makes text held held' status.NoMemory = (rest : List ℕ) × WritesFront held held' text rest
Makes text held held' status.DiskFault = ⊥
Makes text held held' status.PortFault = ⊥

-- what a run did with its streams, by what was asked for; where that was nothing, it touched neither
abbrev pub Ran : Option Command → Option (List ℕ) → Option (List ℕ) → Option (List ℕ) → Option (List ℕ) → Status → Type 0
Ran None left left' held held' s = (s ≡ status.Usage) × (left' ≡ left) × (held' ≡ held)
Ran (Some command.Replay) left left' held held' s = Transcribes left left' held held' s
Ran (Some command.Tree) left left' held held' s = TellsTree left held held' s
Ran (Some command.Check) left left' held held' s = Checks left held held' s
Ran (Some (command.Make seed count)) left left' held held' s = (left' ≡ left) × Makes (made_text seed count) held held' s

-- a fault is answered where the count of its object rose in this run, and the other count stayed; else both stayed
abbrev pub Causes : ℕ → ℕ → ℕ → ℕ → Status → Type 0
Causes read read' written written' status.Done = (read' ≡ read) × (written' ≡ written)
Causes read read' written written' status.Differs = (read' ≡ read) × (written' ≡ written)
Causes read read' written written' status.Usage = (read' ≡ read) × (written' ≡ written)
Causes read read' written written' status.Refused = (read' ≡ read) × (written' ≡ written)
Causes read read' written written' status.ReadFault = Rose read read' × (written' ≡ written)
Causes read read' written written' status.WriteFault = (read' ≡ read) × Rose written written'
Causes read read' written written' status.NoMemory = (read' ≡ read) × (written' ≡ written)
Causes read read' written written' status.DiskFault = ⊥
Causes read read' written written' status.PortFault = ⊥
