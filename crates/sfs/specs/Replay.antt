-- Replaying a schedule: what was written at each moment, and how it ends.
use Rattle.std.specs.Prelude.{◌≡◌, ℕ, ◌+◌, ◌≤◌, ◌==◌, zero, suc, List, [], ◌∷◌, ◌++◌, length, map, count_by, Option, Some, None, Result, Ok, Err}
use Rattle.sfs_base.specs.Fault.{Rose}
use Rattle.schedule_text.specs.Stream.{Takes, Puts}
use Rattle.line_text.specs.declared.line.Line.{Line}
use Rattle.line_text.specs.declared.line.Line.TheVariants as line
use Rattle.sfs.specs.declared.ending.Ending.{Ending}
use Rattle.sfs.specs.declared.ending.Ending.TheVariants as ending
use Rattle.sfs.specs.declared.replay.Replay.{Replay}
use Rattle.line_stream.specs.declared.stop.Stop.{Stop}
use Rattle.line_stream.specs.declared.stop.Stop.TheVariants.{ReadFault, WriteFault, NoMemory}
use Rattle.sfs.specs.declared.turn.Turn.{Turn}
use Rattle.sfs.specs.declared.turn.Turn.TheVariants as turn
use Rattle.sfs.specs.declared.world.World.{World}
use Rattle.line_stream.specs.Output.{WritesFront}
use Rattle.sfs.specs.Schedule.{Schedule, event_in, schedule_of}
use Rattle.line_stream.specs.ScheduleReader.{HasRead, FailsAfter}
use Rattle.sfs.specs.Book.{Book, opened, book_after}
use Rattle.sfs.specs.Legal.{IsAtRest, IsLegal, text_of}
use Rattle.sfs.specs.World.{Stands}

-- the counts of the source and of the sink: the one whose fault is answered rose, and the other stayed
abbrev pub Counts : {X : Type 0} → ℕ → ℕ → ℕ → ℕ → Result X Stop → Type 0
Counts read read' written written' (Ok x) = (read' ≡ read) × (written' ≡ written)
Counts read read' written written' (Err ReadFault) = Rose read read' × (written' ≡ written)
Counts read read' written written' (Err WriteFault) = (read' ≡ read) × Rose written written'
Counts read read' written written' (Err NoMemory) = (read' ≡ read) × (written' ≡ written)

-- the book behind a transcript
abbrev pub book_of : Schedule → List Line → Book
book_of schedule lines = book_after schedule (opened schedule) lines

-- of a schedule so many lines were read: the transcript is legal, and the world is where it leaves it
pub record Follows (schedule : Schedule) (count : ℕ) (lines : List Line) (w : World) : Type 0 where
  pub legal : IsLegal schedule lines
  pub stands : Stands schedule (book_of schedule lines) w
  pub used : (book_of schedule lines).lines ≡ count

-- a replay stands here: these lines were read of what the source had left at first, and the transcript is what the sink took
pub record Stood (left left' held held' : Option (List ℕ)) (done : List (List ℕ)) (lines : List Line) (p : Replay) : Type 0 where
  pub read : HasRead left left' done p.reader
  pub put : Puts held held' (text_of lines)
  pub some : 1 ≤ length done
  pub follows : (behind : Schedule) → Follows (map event_in done ++ behind) (length done) lines p.world

-- where the source told its text, that holds of the schedule which it spells
abbrev pub OfSchedule : Option (List ℕ) → (Schedule → Type 0) → Type 0
OfSchedule left P = (text : List ℕ) → left ≡ Some text → P (schedule_of text)

-- the transcript is legal where it ends with this line
abbrev pub Finishes : Schedule → List Line → Line → Type 0
Finishes schedule lines last = IsLegal schedule (lines ++ last ∷ [])

-- how many lines end in some bytes
abbrev pub line_ends : List ℕ → ℕ
line_ends bytes = count_by (λ b. b == 10) bytes

-- the transcript is that of so many lines of the schedule: none where none was read, and else the book is at the place behind them
abbrev pub IsBehind : Schedule → List Line → ℕ → Type 0
IsBehind schedule lines zero = lines ≡ []
IsBehind schedule lines (suc count) = (book_of schedule lines).lines ≡ suc count

-- all of the lines under so many lines of a schedule: nothing is due, and no further line of the schedule was handled
pub record AreAllUnder (schedule : Schedule) (lines : List Line) (count : ℕ) : Type 0 where
  pub over : IsAtRest (book_of schedule lines)
  pub behind : IsBehind schedule lines count

-- the source failed: the lines of all whole lines that were read were written, and nothing else
pub record FailsToRead (left left' held held' : Option (List ℕ)) (lines : List Line) : Type 0 where
  pub put : Puts held held' (text_of lines)
  pub legal : OfSchedule left (λ schedule. IsLegal schedule lines)
  pub taken : List ℕ
  pub takes : Takes left left' taken
  pub whole : OfSchedule left (λ schedule. AreAllUnder schedule lines (line_ends taken))

-- a run ended before its time: a front of a legal transcript was written
pub record BreaksOff (left held held' : Option (List ℕ)) (lines : List Line) : Type 0 where
  pub rest : List ℕ
  pub front : WritesFront held held' (text_of lines) rest
  pub legal : OfSchedule left (λ schedule. IsLegal schedule lines)

-- what was read and written where a run was stopped
abbrev pub Stopped : Option (List ℕ) → Option (List ℕ) → Option (List ℕ) → Option (List ℕ) → Stop → Type 0
Stopped left left' held held' ReadFault = (lines : List Line) × FailsToRead left left' held held' lines
Stopped left left' held held' WriteFault = (lines : List Line) × BreaksOff left held held' lines
Stopped left left' held held' NoMemory = (lines : List Line) × BreaksOff left held held' lines

-- what was read and written where a run came to its end
abbrev pub Came : Option (List ℕ) → Option (List ℕ) → Option (List ℕ) → Ending → Type 0
Came left held held' ending.Ended =
    (lines : List Line) × Puts held held' (text_of (lines ++ line.End ∷ [])) × OfSchedule left (λ schedule. Finishes schedule lines line.End)
Came left held held' ending.Refused =
    (lines : List Line) × (number : ℕ) × Puts held held' (text_of (lines ++ line.Refused number ∷ [])) × OfSchedule left (λ schedule. Finishes schedule lines (line.Refused number))

-- all of a replay
abbrev pub Replays : Option (List ℕ) → Option (List ℕ) → Option (List ℕ) → Option (List ℕ) → Result Ending Stop → Type 0
Replays left left' held held' (Ok ending) = Came left held held' ending
Replays left left' held held' (Err stop) = Stopped left left' held held' stop

-- one turn: an event was handled, or the next line ends the schedule or is refused
abbrev pub Turns : Option (List ℕ) → Option (List ℕ) → Option (List ℕ) → Option (List ℕ) → List (List ℕ) → List Line → Replay → Result Turn Stop → Type 0
Turns left left' held held' done lines new (Ok turn.On) =
    (line : List ℕ) × (more : List Line) × Stood left left' held held' (done ++ line ∷ []) (lines ++ more) new
Turns left left' held held' done lines new (Ok turn.Ended) =
    Puts held held' (text_of lines) × OfSchedule left (λ schedule. Finishes schedule lines line.End)
Turns left left' held held' done lines new (Ok turn.Refused) =
    Puts held held' (text_of lines) × OfSchedule left (λ schedule. Finishes schedule lines (line.Refused (length done + 1)))
Turns left left' held held' done lines new (Err stop) = Stopped left left' held held' stop

-- the opening of a replay: the first line was read, and it names a cluster
abbrev pub Opens : Option (List ℕ) → Option (List ℕ) → Result (Option Replay) Stop → Type 0
Opens left left' (Ok (Some p)) = (line : List ℕ) × ((held : Option (List ℕ)) → Stood left left' held held (line ∷ []) [] p)
Opens left left' (Ok None) = OfSchedule left (λ schedule. Finishes schedule [] (line.Refused 1))
Opens left left' (Err ReadFault) = FailsAfter left left' []
Opens left left' (Err WriteFault) = ⊥
Opens left left' (Err NoMemory) = Unit {0}

-- a replay goes on: so many lines were read
pub record Replaying (left left' held held' : Option (List ℕ)) (count : ℕ) (p : Replay) : Type 0 where
  pub done : List (List ℕ)
  pub lines : List Line
  pub stood : Stood left left' held held' done lines p
  pub read : length done ≡ count
