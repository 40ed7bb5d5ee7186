-- Reading a text line by line, in pieces.
use Rattle.std.specs.Prelude.{◌≡◌, ℕ, ◌+◌, ◌<◌, ◌≤◌, List, [], ◌∷◌, ◌++◌, length, take, drop, Bool, true, false, Option, Some, None, Result, Ok, Err}
use Rattle.sfs_base.specs.declared.failed.Failed.{Failed}
use Rattle.sfs_base.specs.declared.no_memory.NoMemory.{NoMemory as OutOfMemory}
use Rattle.sfs_base.specs.Fault.{Rose}
use Rattle.schedule_text.specs.Stream.{Takes, IsAtEnd}
use Rattle.line_stream.specs.declared.stop.Stop.{Stop}
use Rattle.line_stream.specs.declared.stop.Stop.TheVariants.{ReadFault, WriteFault, NoMemory}
use Rattle.line_stream.specs.declared.found.Found.{Found}
use Rattle.line_stream.specs.declared.found.Found.TheVariants as found
use Rattle.line_stream.specs.declared.found.Scanned.{Scanned}
use Rattle.line_stream.specs.declared.found.Scanned.TheVariants as scanned
use Rattle.line_stream.specs.Lines.{IsOneLine}
use Rattle.line_stream.specs.Reading.{Reading}

-- a line has more bytes than it may have
pub record IsTooLong (bytes : List ℕ) : Type 0 where
  pub front : List ℕ
  pub rest : List ℕ
  pub parts : bytes ≡ front ++ rest
  pub unended : IsOneLine front
  pub long : 140000 < length front

-- the line is at the front of the bytes, and the pending ones are behind its end
pub record IsFront (bytes line pending : List ℕ) : Type 0 where
  pub parts : bytes ≡ line ++ 10 ∷ pending
  pub unended : IsOneLine line
  pub fits : length line ≤ 140000

-- the line is all of the bytes
pub record IsAll (bytes line pending : List ℕ) : Type 0 where
  pub parts : bytes ≡ line
  pub used : pending ≡ []
  pub unended : IsOneLine line
  pub fits : length line ≤ 140000

-- what moving some of the pending bytes to the line leaves: all of them are there, or the line has no room for them
abbrev pub Keeps : Reading → Reading → ℕ → Result Bool OutOfMemory → Type 0
Keeps old new count (Ok true) = (new.line ≡ old.line ++ take count old.pending) × (new.pending ≡ drop count old.pending) × (length new.line ≤ 140000)
Keeps old new count (Ok false) = 140000 < length old.line + count
Keeps old new count (Err e) = Unit {0}

-- what looking through the pending bytes leaves
abbrev pub Scans : Reading → Reading → Result Scanned OutOfMemory → Type 0
Scans old new (Ok scanned.Line) = (front : List ℕ) × IsFront old.pending front new.pending × (new.line ≡ old.line ++ front) × (length new.line ≤ 140000)
Scans old new (Ok scanned.More) = IsAll old.pending old.pending new.pending × (new.line ≡ old.line ++ old.pending) × (length new.line ≤ 140000)
Scans old new (Ok scanned.TooLong) = (front rest : List ℕ) × (old.pending ≡ front ++ rest) × IsOneLine front × (140000 < length old.line + length front)
Scans old new (Err e) = Unit {0}

-- what reading a piece leaves: all of it is pending, and where it is empty the source is at its end
pub record Refilled (old new : Reading) (before now : Option (List ℕ)) (n : ℕ) : Type 0 where
  pub line : new.line ≡ old.line
  pub taken : Takes before now new.pending
  pub count : n ≡ length new.pending
  pub ended : n ≡ 0 → IsAtEnd before

abbrev pub Refills : Reading → Reading → Option (List ℕ) → Option (List ℕ) → Result ℕ Failed → Type 0
Refills old new before now (Ok n) = Refilled old new before now n
Refills old new before now (Err e) = (new.line ≡ old.line) × (new.pending ≡ []) × (now ≡ before)

-- where what was left is told, these bytes were all of it
abbrev pub TakesAll : Option (List ℕ) → List ℕ → Type 0
TakesAll before taken = (bytes : List ℕ) → before ≡ Some bytes → bytes ≡ taken

-- what reading on finds in these bytes, which were pending before or were taken; where the text ends with them, that holds
abbrev pub Finds : List ℕ → Reading → Type 0 → Result Found Stop → Type 0
Finds bytes new ended (Ok found.Line) = IsFront bytes new.line new.pending
Finds bytes new ended (Ok found.Last) = IsAll bytes new.line new.pending × (0 < length new.line) × ended
Finds bytes new ended (Ok found.End) = IsAll bytes [] new.pending × ended
Finds bytes new ended (Ok found.TooLong) = IsTooLong bytes
Finds bytes new ended (Err ReadFault) = IsOneLine bytes
Finds bytes new ended (Err NoMemory) = Unit {0}
Finds bytes new ended (Err WriteFault) = ⊥

-- one turn of reading on found no end: the pending bytes belong to the line, and others were taken
pub record GoesOn (old new : Reading) (taken : List ℕ) : Type 0 where
  pub line : new.line ≡ old.line ++ old.pending
  pub pending : new.pending ≡ taken
  pub some : 0 < length taken
  pub unended : IsOneLine new.line
  pub fits : length new.line ≤ 140000

-- what one turn of reading on does
abbrev pub Turns : Reading → Reading → List ℕ → Type 0 → Result (Option Found) Stop → Type 0
Turns old new taken ended (Ok None) = GoesOn old new taken
Turns old new taken ended (Ok (Some found)) = (taken ≡ []) × Finds (old.line ++ old.pending) new ended (Ok found)
Turns old new taken ended (Err stop) = (taken ≡ []) × Finds (old.line ++ old.pending) new ended (Err stop)

-- the source's count rose where its fault is answered, and else stayed; a sink is not written to
abbrev pub CountsReads : {X : Type 0} → ℕ → ℕ → Result X Stop → Type 0
CountsReads before now (Ok x) = now ≡ before
CountsReads before now (Err ReadFault) = Rose before now
CountsReads before now (Err WriteFault) = ⊥
CountsReads before now (Err NoMemory) = now ≡ before
