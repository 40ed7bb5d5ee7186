-- What the command `check` owes: what it wrote for what all of its input says.
use Rattle.std.specs.Prelude.{◌≡◌, ℕ, List, [], ◌∷◌, ◌++◌, codes, decimal, Option, Result, Ok, Err}
use Rattle.sfs_base.specs.Fault.{Rose}
use Rattle.schedule_text.specs.Stream.{Puts}
use Rattle.line_stream.specs.Output.{WritesFront}
use Rattle.line_stream.specs.declared.stop.Stop.{Stop}
use Rattle.line_stream.specs.declared.stop.Stop.TheVariants.{ReadFault, WriteFault, NoMemory}
use Rattle.check_input.specs.declared.input.Input.{Input}
use Rattle.check_input.specs.declared.input.Input.TheVariants as input
use Rattle.check_input.specs.Input.{input_of}
use Rattle.check_input.specs.Whole.{OfText}
use Rattle.transcript_next.specs.Nexts.{scheduled}
use Rattle.transcript_check.specs.declared.verdict.Verdict.{Verdict}
use Rattle.transcript_check.specs.declared.verdict.Verdict.TheVariants as verdict
use Rattle.transcript_check.specs.Verdicts.{IsVerdict}
use Rattle.check_command.specs.declared.found.Found.{Found}
use Rattle.check_command.specs.declared.found.Found.TheVariants as found

abbrev pub found_of : Verdict → Found
found_of verdict.Holds = found.Holds
found_of (verdict.Fails line) = found.Fails line

-- what is found of an input
abbrev pub Finds : Input → Found → Type 0
Finds (input.Texts events lines) f = (v : Verdict) × IsVerdict (scheduled events) lines v × (f ≡ found_of v)
Finds (input.Refused line) f = f ≡ found.Refused line

-- and of a text
abbrev pub IsFound : Found → List ℕ → Type 0
IsFound f text = Finds (input_of text) f

-- the line of it, with its end
abbrev pub text_of : Found → List ℕ
text_of found.Holds = codes "holds" ++ 10 ∷ []
text_of (found.Fails line) = codes "fails " ++ (decimal line ++ 10 ∷ [])
text_of (found.Refused line) = codes "refused " ++ (decimal line ++ 10 ∷ [])

-- it was found, and written
pub record WasTold (held held' : Option (List ℕ)) (f : Found) (text : List ℕ) : Type 0 where
  pub found : IsFound f text
  pub put : Puts held held' (text_of f)

-- the front of what was found was written
pub record WasBegun (held held' : Option (List ℕ)) (text : List ℕ) : Type 0 where
  pub f : Found
  pub found : IsFound f text
  pub rest : List ℕ
  pub front : WritesFront held held' (text_of f) rest

-- what the command does
abbrev pub Tells : Option (List ℕ) → Option (List ℕ) → Option (List ℕ) → Result Found Stop → Type 0
Tells left held held' (Ok f) = OfText left (WasTold held held' f)
Tells left held held' (Err ReadFault) = held' ≡ held
Tells left held held' (Err WriteFault) = OfText left (WasBegun held held')
Tells left held held' (Err NoMemory) = held' ≡ held

-- each stream's count rose where its fault is answered, and else stayed
abbrev pub Counts : {X : Type 0} → ℕ → ℕ → ℕ → ℕ → Result X Stop → Type 0
Counts read read' written written' (Ok x) = (read' ≡ read) × (written' ≡ written)
Counts read read' written written' (Err ReadFault) = Rose read read' × (written' ≡ written)
Counts read read' written written' (Err WriteFault) = (read' ≡ read) × Rose written written'
Counts read read' written written' (Err NoMemory) = (read' ≡ read) × (written' ≡ written)
