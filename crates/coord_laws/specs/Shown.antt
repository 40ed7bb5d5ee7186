-- How what a coordinator has, and what it does, shows in the machine of the transaction protocol.
use Rattle.std.specs.Prelude.{◌≡◌, ◌≤◌, ◌+◌, ℕ, not, List, [], ◌∷◌, map, filter, reverse, Option, Some, None, ⊤}
use Rattle.mini_tx.specs.declared.message.Message as sent
use Rattle.mini_tx.specs.declared.message.Message.TheVariants as message
use Rattle.mini_tx.specs.declared.tx_id.TxId.{TxId}
use Rattle.mini_tx.specs.Laws.{IsTypedId}
use Rattle.tx_coord.specs.declared.finishing.Finishing.{Finishing}
use Rattle.tx_coord.specs.declared.outcome.Outcome.TheVariants as outcome
use Rattle.tx_coord.specs.declared.outgoing.Outgoing.{Outgoing}
use Rattle.tx_coord.specs.declared.running.Running.{Running}
use Rattle.tx_coord.specs.State.{State, Phase, Free, Runs, Ended}
use Rattle.tx_coord.specs.Votes.{Granted}
use Rattle.tx_coord.specs.Rules.{Step, gathered, participants_of}
use Rattle.tx_rules.specs.Lists.{is_in}
use Rattle.tx_rules.specs.Mini.{In, Setting, nodes_of}
use Rattle.tx_rules.specs.Decision.{Reason}
use Rattle.tx_rules.specs.World.{Message, Prepare, Forgotten}
use Rattle.tx_actors.specs.Coordinator as machine
use Rattle.tx_actors.specs.Numbers.{identifier}
use Rattle.mem_laws.specs.Cells.{number}
use Rattle.mem_laws.specs.Shown.{reason_of}

-- ---- what it has

-- the table of the machine has these participants under this identifier
pub record IsKnown (s : Setting) (id : TxId) (participants : List ℕ) : Type 0 where
  pub typed : IsTypedId id
  pub nodes : nodes_of s (number id) ≡ participants

abbrev pub shown_vote : Granted → ℕ × List (List ℕ)
shown_vote g = (g.memory, g.reads)

-- the votes that were counted, newest first
abbrev pub shown_votes : List Granted → List (ℕ × List (List ℕ))
shown_votes grants = reverse (map shown_vote grants)

pub record IsShownRunning (s : Setting) (r : Running) (x : machine.Running) : Type 0 where
  pub known : IsKnown s r.id (participants_of r.mini)
  pub id : x.id ≡ number r.id
  pub votes : x.votes ≡ shown_votes r.grants

-- what runs; a machine's coordinator keeps no outcome
abbrev pub ShowsPhase : Setting → Phase → Option machine.Running → Type 0
ShowsPhase s Free None = ⊤
ShowsPhase s Free (Some x) = ⊥
ShowsPhase s (Runs r) None = ⊥
ShowsPhase s (Runs r) (Some x) = IsShownRunning s r x
ShowsPhase s (Ended o) None = ⊤
ShowsPhase s (Ended o) (Some x) = ⊥

-- a decision: those wait that have not sent `done`
pub record IsShownFinishing (s : Setting) (f : Finishing) (x : machine.Finishing) : Type 0 where
  pub known : IsKnown s f.id f.participants
  pub id : x.id ≡ number f.id
  pub commits : x.commits ≡ f.commit
  pub waits : f.waits ≡ filter (λ m. not (is_in m x.done)) f.participants

abbrev pub AreShownFinishing : Setting → List Finishing → List machine.Finishing → Type 0
AreShownFinishing s [] [] = ⊤
AreShownFinishing s [] (x ∷ xs) = ⊥
AreShownFinishing s (f ∷ fs) [] = ⊥
AreShownFinishing s (f ∷ fs) (x ∷ xs) = IsShownFinishing s f x × AreShownFinishing s fs xs

-- the machine's coordinator has what this one has, and may begin what this one begins next
pub record ShowsCoordinator (s : Setting) (c : State) (x : machine.Coordinator) : Type 0 where
  pub next : x.next ≤ identifier c.coord c.boot (c.begun + 1)
  pub phase : ShowsPhase s c.phase x.running
  pub finishing : AreShownFinishing s c.finishing x.finishing

-- ---- what it does

-- the machine's message, which stands for those to all receivers
abbrev pub shown_post : sent.Message → Option Message
shown_post (message.Prepare id participants items) = Some (Prepare (number id))
shown_post (message.Decide id commit) = Some (machine.decide commit (number id))
shown_post (message.Forget id) = Some (Forgotten (number id))
shown_post (message.Voted id v) = None
shown_post (message.Done id) = None
shown_post message.List = None
shown_post (message.Kept ids cut) = None
shown_post (message.Ask id) = None
shown_post (message.Answer id ok) = None
shown_post (message.Hold cut) = None
shown_post (message.Held cut answer) = None
shown_post (message.Release cut) = None
shown_post (message.Drop cut) = None
shown_post (message.ReadCut cut place) = None
shown_post (message.Piece cut place bytes) = None

-- each message that is posted shows in one that the machine posts
abbrev pub AreShownPosts : List Outgoing → List Message → Type 0
AreShownPosts box posts = (o : Outgoing) → In o box → (p : Message) × In p posts × (shown_post o.message ≡ Some p)

-- it does what the machine's coordinator does
pub record IsShownStep (s : Setting) (step : Step) (act : machine.Act) : Type 0 where
  pub shows : ShowsCoordinator s step.now act.now
  pub posts : AreShownPosts step.posts act.posts

-- how what ran has ended, if it has: committed with these votes, out of which the reads are gathered, or refused
abbrev pub ShowsEnd : Running → Phase → List machine.Outcome → Type 0
ShowsEnd r Free ends = ⊥
ShowsEnd r (Runs now) ends = ends ≡ []
ShowsEnd r (Ended (outcome.Committed reads)) ends =
    (grants : List Granted) × (ends ≡ machine.Committed (number r.id) (shown_votes grants) ∷ []) × (reads ≡ gathered grants r.mini)
ShowsEnd r (Ended (outcome.Refused m v)) ends = (why : Reason) × (reason_of v ≡ Some why) × (ends ≡ machine.Failed (number r.id) m why ∷ [])
