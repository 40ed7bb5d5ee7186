-- How what the recoverer has, and what it does, shows in the manager of the transaction protocol's machine.
use Rattle.std.specs.Prelude.{◌≡◌, ℕ, ◌==◌, Bool, true, false, not, List, [], ◌∷◌, filter, length, Option, Some, None, ⊤}
use Rattle.mini_tx.specs.declared.message.Message as sent
use Rattle.mini_tx.specs.declared.message.Message.TheVariants as message
use Rattle.mini_tx.specs.Laws.{IsTypedId}
use Rattle.tx_coord.specs.declared.outgoing.Outgoing.{Outgoing}
use Rattle.tx_recover.specs.declared.work.Work.{Work}
use Rattle.tx_recover.specs.Rules.{Step}
use Rattle.tx_rules.specs.Lists.{is_in}
use Rattle.tx_rules.specs.Mini.{In}
use Rattle.tx_rules.specs.World.{Message, ListKept, Ask, Forgotten}
use Rattle.tx_actors.specs.Coordinator.{decide}
use Rattle.tx_actors.specs.Manager as machine
use Rattle.mem_laws.specs.Cells.{number}

-- ---- what it has

-- those that were heard: before the decision they answered ok, after it they sent `done`
abbrev pub heard_in : machine.Work → Option Bool → List ℕ
heard_in x None = x.oks
heard_in x (Some commit) = x.done

-- an identifier at work: those are waited for that were not heard; and until the decision an answer is missing, and no
-- `done` was noted
pub record IsShownWork (w : Work) (x : machine.Work) : Type 0 where
  pub typed : IsTypedId w.id
  pub id : x.id ≡ number w.id
  pub nodes : x.nodes ≡ w.participants
  pub decision : x.decision ≡ w.decision
  pub waits : w.waits ≡ filter (λ m. not (is_in m (heard_in x w.decision))) w.participants
  pub missing : w.decision ≡ None → (length w.waits == 0) ≡ false
  pub early : w.decision ≡ None → x.done ≡ []

abbrev pub AreShownWorks : List Work → List machine.Work → Type 0
AreShownWorks [] [] = ⊤
AreShownWorks [] (x ∷ xs) = ⊥
AreShownWorks (w ∷ works) [] = ⊥
AreShownWorks (w ∷ works) (x ∷ xs) = IsShownWork w x × AreShownWorks works xs

-- the machine's manager is at work on the same, in whatever order
abbrev pub ShowsWorks : List Work → List machine.Work → Type 0
ShowsWorks works xs = AreShownWorks works (machine.ascending xs)

-- ---- what it does

-- the machine's message, which stands for those to all receivers
abbrev pub shown_post : sent.Message → Option Message
shown_post message.List = Some ListKept
shown_post (message.Ask id) = Some (Ask (number id))
shown_post (message.Decide id commit) = Some (decide commit (number id))
shown_post (message.Forget id) = Some (Forgotten (number id))
shown_post (message.Prepare id participants items) = None
shown_post (message.Voted id v) = None
shown_post (message.Done id) = None
shown_post (message.Kept ids cut) = None
shown_post (message.Answer id ok) = None
shown_post (message.Hold cut) = None
shown_post (message.Held cut answer) = None
shown_post (message.Release cut) = None
shown_post (message.Drop cut) = None
shown_post (message.ReadCut cut place) = None
shown_post (message.Piece cut place bytes) = None

-- a message about a cut, of which the machine's manager knows nothing
abbrev pub is_drop : sent.Message → Bool
is_drop message.List = false
is_drop (message.Ask id) = false
is_drop (message.Decide id commit) = false
is_drop (message.Forget id) = false
is_drop (message.Prepare id participants items) = false
is_drop (message.Voted id v) = false
is_drop (message.Done id) = false
is_drop (message.Kept ids cut) = false
is_drop (message.Answer id ok) = false
is_drop (message.Hold cut) = false
is_drop (message.Held cut answer) = false
is_drop (message.Release cut) = false
is_drop (message.Drop cut) = true
is_drop (message.ReadCut cut place) = false
is_drop (message.Piece cut place bytes) = false

-- each other message that is posted shows in one that the machine posts
abbrev pub AreShownPosts : List Outgoing → List Message → Type 0
AreShownPosts box posts = (o : Outgoing) → In o box → is_drop o.message ≡ false → (p : Message) × In p posts × (shown_post o.message ≡ Some p)

-- it does what the machine's manager does
pub record IsShownStep (step : Step) (deed : machine.Deed) : Type 0 where
  pub shows : ShowsWorks step.now deed.now
  pub posts : AreShownPosts step.posts deed.posts
