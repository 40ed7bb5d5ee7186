-- That with each message but those of cuts a memory node does what the machine's does: one law.
use Rattle.std.specs.Prelude.{◌≡◌, ℕ, Bool, ◌||◌, true, List, [], ◌∷◌, map, Option, Some, None, if◌then◌else◌}
use Rattle.mini_tx.specs.declared.message.Message as sent_type
use Rattle.mini_tx.specs.declared.message.Message.TheVariants as sent
use Rattle.mem_rules.specs.Rules as node
use Rattle.mem_rules.specs.State.{after_one}
use Rattle.tx_rules.specs.Lists.{is_in}
use Rattle.tx_rules.specs.Mini.{Setting, nodes_of, is_logged}
use Rattle.tx_rules.specs.World.{World, Message, Prepare, Granted, Looked, Refused, DecideCommit, DecideAbort, Done, Forgotten, ListKept, Kept, Ask, AnswerOk, AnswerAbort, after_all}
use Rattle.tx_actors.specs.Machine.{appending}
use Rattle.tx_actors.specs.Node as machine
use Rattle.mem_laws.specs.Cells.{number}
use Rattle.mem_laws.specs.Cuts.{shown_kept}
use Rattle.mem_laws.specs.Laws.{IsAsked, IsNamed}
use Rattle.mem_laws.specs.Shown.{Shows, cut_held, posted, records_of}

-- ---- messages

-- the machine's memory node takes messages that name this identifier: it is a participant, or the identifier is old
abbrev pub TakesPart : Setting → ℕ → ℕ → Type 0
TakesPart s m t = (is_in m (nodes_of s t) || is_in t s.old) ≡ true

-- a message that is for another actor
abbrev pub IsForOthers : Message → Type 0
IsForOthers (Prepare t) = ⊥
IsForOthers (Granted m t reads) = Unit {0}
IsForOthers (Looked m t reads) = Unit {0}
IsForOthers (Refused m t why) = Unit {0}
IsForOthers (DecideCommit t) = ⊥
IsForOthers (DecideAbort t) = ⊥
IsForOthers (Done m t) = Unit {0}
IsForOthers (Forgotten t) = ⊥
IsForOthers ListKept = ⊥
IsForOthers (Kept m ids) = Unit {0}
IsForOthers (Ask t) = ⊥
IsForOthers (AnswerOk m t) = Unit {0}
IsForOthers (AnswerAbort m t) = Unit {0}

-- a memory node that shows in the machine is sent a message, and the machine's the one that it shows as
abbrev pub IsShownMessage : Setting → ℕ → node.Node → machine.View → sent_type.Message → Message → Type 0
IsShownMessage s m n v (sent.Prepare id participants items) x = (x ≡ Prepare (number id)) × (TakesPart s m (number id) × IsAsked s m n v id participants items)
IsShownMessage s m n v (sent.Decide id commit) x =
    (x ≡ (if commit then DecideCommit (number id) else DecideAbort (number id))) × (TakesPart s m (number id) × IsNamed s m n.state v id)
IsShownMessage s m n v (sent.Forget id) x = (x ≡ Forgotten (number id)) × (TakesPart s m (number id) × IsNamed s m n.state v id)
IsShownMessage s m n v (sent.Ask id) x = (x ≡ Ask (number id)) × (TakesPart s m (number id) × IsNamed s m n.state v id)
IsShownMessage s m n v sent.List x = (x ≡ ListKept) × Shows s m n.state v
IsShownMessage s m n v (sent.Voted id vote) x = IsForOthers x × Shows s m n.state v
IsShownMessage s m n v (sent.Done id) x = IsForOthers x × Shows s m n.state v
IsShownMessage s m n v (sent.Kept ids cut) x = IsForOthers x × Shows s m n.state v
IsShownMessage s m n v (sent.Answer id ok) x = IsForOthers x × Shows s m n.state v
IsShownMessage s m n v (sent.Held cut answer) x = IsForOthers x × Shows s m n.state v
IsShownMessage s m n v (sent.Piece cut place bytes) x = IsForOthers x × Shows s m n.state v
IsShownMessage s m n v (sent.Hold cut) x = ⊥
IsShownMessage s m n v (sent.Release cut) x = ⊥
IsShownMessage s m n v (sent.Drop cut) x = ⊥
IsShownMessage s m n v (sent.ReadCut cut place) x = ⊥

-- the machine's messages that an answer shows as
abbrev pub shown_answer : Setting → ℕ → Option sent_type.Message → List Message
shown_answer s m (Some (sent.Voted id vote)) = posted m (number id) (is_logged (s.mini (number id))) vote ∷ []
shown_answer s m (Some (sent.Done id)) = Done m (number id) ∷ []
shown_answer s m (Some (sent.Answer id ok)) = (if ok then AnswerOk m (number id) else AnswerAbort m (number id)) ∷ []
shown_answer s m (Some (sent.Kept ids cut)) = Kept m (map shown_kept ids) ∷ []
shown_answer s m answer = []

-- ---- what is done

-- the machine appends the records of the same entry, and posts what the answer shows as; and then the memory node shows
-- in the machine again
pub record IsShownStep (s : Setting) (m : ℕ) (n : node.Node) (w : World) (r : node.Reaction) (x : machine.Reaction) : Type 0 where
  pub appended : x.appends ≡ records_of r.entry
  pub posted : x.posts ≡ shown_answer s m r.answer
  pub shows : Shows s m (after_one n.state r.entry) (machine.view (after_all s w (appending s w m x.appends)) m)

abbrev pub ReactionsAreTheMachines : Type 0
ReactionsAreTheMachines = (s : Setting) (m : ℕ) (n : node.Node) (w : World) (message : sent_type.Message) (x : Message)
    → IsShownMessage s m n (machine.view w m) message x
    → IsShownStep s m n w (node.react n message) (machine.handle s m (cut_held n.copy) (machine.view w m) x)
