-- What the command was told, and what it wrote.
use Rattle.std.proofs.Common.{◌≡◌, ℕ, List, [], Option, Some, None, Result, Ok, Err, inl, inr, refl, sym}
use Rattle.std.specs.Prelude.{OnOk, IfOk}
use Rattle.fs_rules.specs.declared.geometry.Geometry.{Geometry}
use Rattle.tree_command.specs.declared.answer.Answer.{Answer}
use Rattle.tree_command.specs.declared.answer.Answer.TheVariants.{Listed, Faulty}
use Rattle.tree_command.specs.declared.ending.Ending.{Ending}
use Rattle.tree_command.specs.declared.input_fault.InputFault.TheVariants.{Head, Short, Trailing, Tree}
use Rattle.tree_command.specs.declared.stop.Stop.{Stop}
use Rattle.tree_command.specs.declared.stop.Stop.TheVariants.{ReadFault, WriteFault, NoMemory}
use Rattle.tree_command.specs.Command.{ending_of, lines_of, Tells}
use Rattle.tree_command.specs.Counts.{Counts, CountsReads, CountsWrites}
use Rattle.tree_command.specs.Input.{AreShown, IsAnswer, IsAnswerBehind, IsHeaded, cluster_in}
use Rattle.tree_command.specs.Reading.{OfText, ReadsHead}
use Rattle.tree_command.specs.Writing.{text_of, WritesFront}
use Rattle.tree_command.proofs.WriteLemmas.{wrote_all}

-- ---- what the input says

-- what is said where a line names a cluster
is_headed : (text : List ℕ) (a : Answer) → IsHeaded text a → IsAnswer text a
is_headed text (Listed t) h = h
is_headed text (Faulty Head) h = absurd h.says
is_headed text (Faulty Short) h = h
is_headed text (Faulty Trailing) h = h
is_headed text (Faulty Tree) h = h

pub headed : (before now : Option (List ℕ)) (line : List ℕ) (g : Geometry) (a : Answer) → ReadsHead before now (Some line) → Some g ≡ cluster_in line
    → OfText now (λ behind. IsAnswerBehind g behind a) → OfText before (λ text. IsAnswer text a)
headed before now line g a read names says text is =
    let head = read text is in
    is_headed text a (record { line = line; behind = head.behind; split = head.split; geometry = g; names = sym names; says = says head.behind head.left })

pub headed_all : (before now : Option (List ℕ)) (line : List ℕ) (g : Geometry) (r : Result Answer Stop) → ReadsHead before now (Some line) → Some g ≡ cluster_in line
    → IfOk r (λ a. OfText now (λ behind. IsAnswerBehind g behind a)) → IfOk r (λ a. OfText before (λ text. IsAnswer text a))
headed_all before now line g (Ok a) read names says = headed before now line g a read names says
headed_all before now line g (Err stop) read names says = tt

pub headless : (before now : Option (List ℕ)) (line : List ℕ) → ReadsHead before now (Some line) → None ≡ cluster_in line → OfText before (λ text. IsAnswer text (Faulty Head))
headless before now line read names text is =
    let head = read text is in
    inr (record { line = line; behind = head.behind; split = head.split; names = sym names })

pub too_long : (before now : Option (List ℕ)) → ReadsHead before now None → OfText before (λ text. IsAnswer text (Faulty Head))
too_long before now long text is = inl (long text is)

-- what the images say
pub is_shown : (g : Geometry) (behind : List ℕ) (a : Answer) → AreShown g behind a → IsAnswerBehind g behind a
is_shown g behind (Listed t) s = s
is_shown g behind (Faulty Head) s = absurd s.shows
is_shown g behind (Faulty Short) s = absurd s.shows
is_shown g behind (Faulty Trailing) s = absurd s.shows
is_shown g behind (Faulty Tree) s = s

-- ---- what the command does

-- reading was stopped
pub read_stopped : (left held : Option (List ℕ)) (read read' : ℕ) (stop : Stop) → CountsReads {X = Answer} read read' (Err stop) → Tells left held held (Err stop)
read_stopped left held read read' ReadFault counts = refl
read_stopped left held read read' WriteFault counts = absurd counts
read_stopped left held read read' NoMemory counts = tt

pub read_counted : (read read' written : ℕ) (stop : Stop) → CountsReads {X = Answer} read read' (Err stop) → Counts {X = Ending} read read' written written (Err stop)
read_counted read read' written ReadFault counts = (counts, refl)
read_counted read read' written WriteFault counts = absurd counts
read_counted read read' written NoMemory counts = (counts, refl)

-- the answer was read, and written or not
pub written_counted : (read read' written written' : ℕ) (result : Result Ending Stop) → read' ≡ read → CountsWrites written written' result → Counts read read' written written' result
written_counted read read' written written' (Ok ended) same counts = (same, counts)
written_counted read read' written written' (Err ReadFault) same counts = absurd counts
written_counted read read' written written' (Err WriteFault) same counts = (same, counts)
written_counted read read' written written' (Err NoMemory) same counts = (same, counts)

pub written : (left held held' : Option (List ℕ)) (a : Answer) (counted counted' : ℕ) (result : Result Ending Stop) → OfText left (λ text. IsAnswer text a)
    → CountsWrites counted counted' result → (rest : List ℕ) × WritesFront held held' (text_of (lines_of a)) rest × OnOk result (rest ≡ [])
    → IfOk result (λ ended. ended ≡ ending_of a) → Tells left held held' result
written left held held' a counted counted' (Ok ended) says counts front is = λ text told.
    record { answer = a; says = says text told; put = wrote_all held held' (text_of (lines_of a)) front.0 front.1 front.2; ending = is }
written left held held' a counted counted' (Err ReadFault) says counts front is = absurd counts
written left held held' a counted counted' (Err WriteFault) says counts front is = λ text told. record { answer = a; says = says text told; rest = front.0; front = front.1 }
written left held held' a counted counted' (Err NoMemory) says counts front is = tt
