-- What the command found, and what it wrote.
use Rattle.std.proofs.Common.{◌≡◌, ℕ, List, [], ◌++◌, Option, Some, None, Result, Ok, Err, refl, sym, ap, ◌∙◌, subst}
use Rattle.std.specs.Prelude.{OnOk, IfOk}
use Rattle.std.proofs.lemmas.List.{append-nil}
use Rattle.schedule_text.specs.Stream.{Puts}
use Rattle.schedule_text.proofs.StreamLemmas.{Puts-none}
use Rattle.line_stream.specs.LineReader.{CountsReads}
use Rattle.line_stream.specs.Output.{CountsWrites, WritesFront}
use Rattle.line_stream.specs.declared.stop.Stop.{Stop}
use Rattle.line_stream.specs.declared.stop.Stop.TheVariants.{ReadFault, WriteFault, NoMemory}
use Rattle.check_input.specs.Whole.{OfText}
use Rattle.check_command.specs.declared.found.Found.{Found}
use Rattle.check_command.specs.Command.{Counts, IsFound, Tells, text_of}

-- reading was stopped
pub read_stopped : (left held : Option (List ℕ)) (read read' : ℕ) (stop : Stop) → CountsReads {X = Found} read read' (Err stop) → Tells left held held (Err stop)
read_stopped left held read read' ReadFault counts = refl
read_stopped left held read read' WriteFault counts = absurd counts
read_stopped left held read read' NoMemory counts = refl

pub read_counted : (read read' written : ℕ) (stop : Stop) → CountsReads {X = Found} read read' (Err stop) → Counts {X = Found} read read' written written (Err stop)
read_counted read read' written ReadFault counts = (counts, refl)
read_counted read read' written WriteFault counts = absurd counts
read_counted read read' written NoMemory counts = (counts, refl)

-- what was found was written or not
pub written_counted : (read read' written written' : ℕ) (result : Result Found Stop) → read' ≡ read → CountsWrites written written' result → Counts read read' written written' result
written_counted read read' written written' (Ok found) same counts = (same, counts)
written_counted read read' written written' (Err ReadFault) same counts = absurd counts
written_counted read read' written written' (Err WriteFault) same counts = (same, counts)
written_counted read read' written written' (Err NoMemory) same counts = (same, counts)

wrote_all : (a b : Option (List ℕ)) (bytes rest : List ℕ) → WritesFront a b bytes rest → rest ≡ [] → Puts a b bytes
wrote_all a b bytes rest front none =
    subst (Puts a b) (sym (front.parts ∙ ap (λ (r : List ℕ). front.front ++ r) none ∙ append-nil front.front)) front.put

pub written : (left held held' : Option (List ℕ)) (f : Found) (counted counted' : ℕ) (result : Result Found Stop) → OfText left (IsFound f)
    → CountsWrites counted counted' result → (rest : List ℕ) × WritesFront held held' (text_of f) rest × OnOk result (rest ≡ []) → (result ≡ Err NoMemory → held' ≡ held)
    → IfOk result (λ x. x ≡ f) → Tells left held held' result
written left held held' f counted counted' (Ok x) says counts front none is =
    rw is (λ text told. record { found = says text told; put = wrote_all held held' (text_of f) front.0 front.1 front.2 })
written left held held' f counted counted' (Err ReadFault) says counts front none is = absurd counts
written left held held' f counted counted' (Err WriteFault) says counts front none is = λ text told. record { f = f; found = says text told; rest = front.0; front = front.1 }
written left held held' f counted counted' (Err NoMemory) says counts front none is = none refl

-- nothing was written, and the call failed
pub nothing_written : {X E : Type 0} (held : Option (List ℕ)) (bytes : List ℕ) (r : Result X E) (e : E) → r ≡ Err e → (rest : List ℕ) × WritesFront held held bytes rest × OnOk r (rest ≡ [])
nothing_written held bytes r e is = (bytes, record { front = []; parts = refl; put = Puts-none }, subst (λ s. OnOk s (bytes ≡ [])) (sym is) tt)

-- a front was written, and the call failed
pub front_written : {X E : Type 0} (before now : Option (List ℕ)) (bytes rest : List ℕ) (r : Result X E) (e : E) → r ≡ Err e → WritesFront before now bytes rest
    → (rest : List ℕ) × WritesFront before now bytes rest × OnOk r (rest ≡ [])
front_written before now bytes rest r e is front = (rest, front, subst (λ s. OnOk s (rest ≡ [])) (sym is) tt)
