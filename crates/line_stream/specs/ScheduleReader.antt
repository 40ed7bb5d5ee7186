-- Reading a schedule event by event.
use Rattle.std.specs.Prelude.{◌≡◌, ℕ, ◌≤◌, Bool, true, false, List, [], ◌∷◌, ◌++◌, length, slice_get, Option, Some, None, Result, Ok, Err}
use Rattle.std.specs.List.{flat_map, AllByRecursion}
use Rattle.sfs_base.specs.declared.no_memory.NoMemory.{NoMemory as OutOfMemory}
use Rattle.schedule_text.specs.Stream.{Takes}
use Rattle.event_text.specs.declared.event.Event.{Event}
use Rattle.event_text.specs.Reading.{event_of}
use Rattle.line_stream.specs.declared.schedule_reader.ScheduleReader.{ScheduleReader}
use Rattle.line_stream.specs.declared.stop.Stop.{Stop}
use Rattle.line_stream.specs.declared.stop.Stop.TheVariants.{ReadFault, WriteFault, NoMemory}
use Rattle.line_stream.specs.Lines.{lines_of, IsOneLine}
use Rattle.line_stream.specs.Schedule.{event_in, schedule_of}

-- lines, each with its end
unfoldable pub unlines : List (List ℕ) → List ℕ
unlines lines = flat_map (λ line. line ++ 10 ∷ []) lines

-- nothing was read
abbrev pub IsUnread : ScheduleReader → Type 0
IsUnread r = (r.lines.pending ≡ []) × (r.ended ≡ false)

-- these lines were read from what a source had left before, and handed out; while the text has not ended, all that was
-- taken is these lines with their ends, and what is pending
pub record HasRead (before now : Option (List ℕ)) (done : List (List ℕ)) (r : ScheduleReader) : Type 0 where
  pub taken : List ℕ
  pub takes : Takes before now taken
  pub each : AllByRecursion IsOneLine done
  pub ongoing : r.ended ≡ false → taken ≡ unlines done ++ r.lines.pending
  pub closed : r.ended ≡ true → (text : List ℕ) → before ≡ Some text → lines_of text ≡ done

-- a place of a schedule has no event: the line is missing, or outside the grammar
abbrev pub IsNoEvent : Option (Option Event) → Type 0
IsNoEvent None = Unit {0}
IsNoEvent (Some None) = Unit {0}
IsNoEvent (Some (Some e)) = ⊥

-- where the text was told, the line behind these is no event
abbrev pub NoneFollows : Option (List ℕ) → List (List ℕ) → Type 0
NoneFollows before done = (text : List ℕ) → before ≡ Some text → IsNoEvent (slice_get (schedule_of text) (length done))

-- the source failed: what was taken is these lines with their ends, and the front of one more
pub record FailsAfter (before now : Option (List ℕ)) (done : List (List ℕ)) : Type 0 where
  pub taken : List ℕ
  pub takes : Takes before now taken
  pub rest : List ℕ
  pub parts : taken ≡ unlines done ++ rest
  pub unended : IsOneLine rest

-- what going on to the next line does
abbrev pub ReadsLine : Option (List ℕ) → Option (List ℕ) → List (List ℕ) → ScheduleReader → Result Bool Stop → Type 0
ReadsLine before now done new (Ok true) = HasRead before now (done ++ new.lines.line ∷ []) new × (length new.lines.line ≤ 140000)
ReadsLine before now done new (Ok false) = NoneFollows before done
ReadsLine before now done new (Err ReadFault) = FailsAfter before now done
ReadsLine before now done new (Err WriteFault) = ⊥
ReadsLine before now done new (Err NoMemory) = Unit {0}

-- what the event of the next line is
abbrev pub ReadsEvent : Option (List ℕ) → Option (List ℕ) → List (List ℕ) → ScheduleReader → Result (Option Event) Stop → Type 0
ReadsEvent before now done new (Ok (Some e)) = (line : List ℕ) × (event_in line ≡ Some e) × HasRead before now (done ++ line ∷ []) new
ReadsEvent before now done new (Ok None) = NoneFollows before done
ReadsEvent before now done new (Err ReadFault) = FailsAfter before now done
ReadsEvent before now done new (Err WriteFault) = ⊥
ReadsEvent before now done new (Err NoMemory) = Unit {0}

-- what a line says
abbrev pub SaysEvent : List ℕ → Result (Option Event) OutOfMemory → Type 0
SaysEvent line (Ok said) = event_of line ≡ said
SaysEvent line (Err e) = Unit {0}
