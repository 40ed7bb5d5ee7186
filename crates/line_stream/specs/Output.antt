-- What a sink holds after some of the bytes were written.
use Rattle.std.specs.Prelude.{◌≡◌, ℕ, List, ◌++◌, Option, Result, Ok, Err}
use Rattle.sfs_base.specs.Fault.{Rose}
use Rattle.schedule_text.specs.Stream.{Puts}
use Rattle.line_stream.specs.declared.stop.Stop.{Stop}
use Rattle.line_stream.specs.declared.stop.Stop.TheVariants.{ReadFault, WriteFault, NoMemory}

-- all of the bytes but the rest were written
pub record WritesFront (before now : Option (List ℕ)) (bytes rest : List ℕ) : Type 0 where
  pub front : List ℕ
  pub parts : bytes ≡ front ++ rest
  pub put : Puts before now front

-- the sink's count rose where its fault is answered, and else stayed
abbrev pub CountsWrites : {X : Type 0} → ℕ → ℕ → Result X Stop → Type 0
CountsWrites before now (Ok x) = now ≡ before
CountsWrites before now (Err ReadFault) = ⊥
CountsWrites before now (Err WriteFault) = Rose before now
CountsWrites before now (Err NoMemory) = now ≡ before
