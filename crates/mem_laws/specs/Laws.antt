-- That a memory node votes as the machine of the transaction protocol does.
use Rattle.std.specs.Prelude.{◌≡◌, ℕ, ◌<◌, Bool, List, [], ◌∷◌, length, get_or, Some, None, if◌then◌else◌}
use Rattle.mini_tx.specs.declared.message.Message.TheVariants as sent
use Rattle.mini_tx.specs.declared.placed_item.PlacedItem.{PlacedItem}
use Rattle.mini_tx.specs.declared.tx_id.TxId.{TxId}
use Rattle.mini_tx.specs.Laws.{IsTypedId}
use Rattle.mem_rules.specs.Fit.{AreInside}
use Rattle.mem_rules.specs.Rules as node
use Rattle.mem_rules.specs.State.{State, opened, after_one, kept_of}
use Rattle.tx_rules.specs.Mini.{Setting, IsFresh}
use Rattle.tx_rules.specs.World.{World, Event, Done, AnswerOk, AnswerAbort, after_all}
use Rattle.tx_actors.specs.Machine.{appending}
use Rattle.tx_actors.specs.Node as machine
use Rattle.mem_laws.specs.Cells.{number}
use Rattle.mem_laws.specs.Shown.{IsTold, Shows, cut_held, shown_rule, IsShownReaction, IsSameReaction}

-- a memory node shows in the machine, and so does what a prepare asks of it
pub record IsAsked (s : Setting) (m : ℕ) (n : node.Node) (v : machine.View) (id : TxId) (participants : List ℕ) (items : List PlacedItem) : Type 0 where
  pub typed : IsTypedId id
  pub known : id.coord < length n.state.floors
  pub inside : AreInside (length n.state.image) items
  pub fresh : IsFresh s (number id)
  pub told : IsTold s m id participants items
  pub shows : Shows s m n.state v

-- the rule that it finds is the machine's
abbrev pub RulesAreTheMachines : Type 0
RulesAreTheMachines = (s : Setting) (m : ℕ) (n : node.Node) (v : machine.View) (id : TxId) (participants : List ℕ) (items : List PlacedItem)
    → IsAsked s m n v id participants items
    → machine.rule_for s m (cut_held n.copy) v (number id) ≡ shown_rule (node.rule_for n id items)

-- so are the entry that it appends and the vote that it sends
abbrev pub VotesAreTheMachines : Type 0
VotesAreTheMachines = (s : Setting) (m : ℕ) (n : node.Node) (v : machine.View) (id : TxId) (participants : List ℕ) (items : List PlacedItem)
    → IsAsked s m n v id participants items
    → IsShownReaction s m id (node.on_prepare n id participants items) (machine.on_prepare s m (cut_held n.copy) v (number id))

-- and then it shows in the machine again
abbrev pub StatesAreTheMachines : Type 0
StatesAreTheMachines = (s : Setting) (m : ℕ) (n : node.Node) (w : World) (id : TxId) (participants : List ℕ) (items : List PlacedItem)
    → IsAsked s m n (machine.view w m) id participants items
    → Shows s m (after_one n.state (node.on_prepare n id participants items).entry)
    (machine.view (after_all s w (appending s w m (machine.on_prepare s m (cut_held n.copy) (machine.view w m) (number id)).appends)) m)

-- a memory node shows in the machine, and a message names this identifier
pub record IsNamed (s : Setting) (m : ℕ) (state : State) (v : machine.View) (id : TxId) : Type 0 where
  pub typed : IsTypedId id
  pub known : id.coord < length state.floors
  pub coordinator : s.coord (number id) ≡ id.coord
  pub shows : Shows s m state v

-- what it does where an identifier is decided is what the machine does
abbrev pub DecisionsAreTheMachines : Type 0
DecisionsAreTheMachines = (s : Setting) (m : ℕ) (n : node.Node) (v : machine.View) (id : TxId) (commit : Bool) → IsNamed s m n.state v id
    → IsSameReaction (node.on_decide n id commit (kept_of n.state.kept id)) (if commit then machine.on_commit m v (number id) else machine.on_abort s m v (number id))
    (Some (sent.Done id)) (Done m (number id) ∷ [])

-- where it is forgotten
abbrev pub ForgettingIsTheMachines : Type 0
ForgettingIsTheMachines = (s : Setting) (m : ℕ) (n : node.Node) (v : machine.View) (id : TxId) → IsNamed s m n.state v id
    → IsSameReaction (node.on_forget n id (kept_of n.state.kept id)) (machine.on_forget s m v (number id)) None []

-- and where it is asked about
abbrev pub AnswersAreTheMachines : Type 0
AnswersAreTheMachines = (s : Setting) (m : ℕ) (n : node.Node) (v : machine.View) (id : TxId) → IsNamed s m n.state v id
    → (ok : Bool) × IsSameReaction (node.on_ask n id (kept_of n.state.kept id)) (machine.on_ask s m v (number id))
    (Some (sent.Answer id ok)) ((if ok then AnswerOk m (number id) else AnswerAbort m (number id)) ∷ [])

-- after each of these it shows in the machine again
abbrev pub DecisionsLeaveTheSame : Type 0
DecisionsLeaveTheSame = (s : Setting) (m : ℕ) (n : node.Node) (w : World) (id : TxId) (commit : Bool) → IsNamed s m n.state (machine.view w m) id
    → Shows s m (after_one n.state (node.on_decide n id commit (kept_of n.state.kept id)).entry)
    (machine.view (after_all s w (appending s w m (if commit then machine.on_commit m (machine.view w m) (number id) else machine.on_abort s m (machine.view w m) (number id)).appends)) m)

abbrev pub ForgettingLeavesTheSame : Type 0
ForgettingLeavesTheSame = (s : Setting) (m : ℕ) (n : node.Node) (w : World) (id : TxId) → IsNamed s m n.state (machine.view w m) id
    → Shows s m (after_one n.state (node.on_forget n id (kept_of n.state.kept id)).entry)
    (machine.view (after_all s w (appending s w m (machine.on_forget s m (machine.view w m) (number id)).appends)) m)

abbrev pub AnswersLeaveTheSame : Type 0
AnswersLeaveTheSame = (s : Setting) (m : ℕ) (n : node.Node) (w : World) (id : TxId) → IsNamed s m n.state (machine.view w m) id
    → Shows s m (after_one n.state (node.on_ask n id (kept_of n.state.kept id)).entry)
    (machine.view (after_all s w (appending s w m (machine.on_ask s m (machine.view w m) (number id)).appends)) m)

-- what happens elsewhere changes nothing of it
abbrev pub OthersLeaveIt : Type 0
OthersLeaveIt = (s : Setting) (m : ℕ) (state : State) (w : World) (events : List Event) → machine.AllElsewhere m events → Shows s m state (machine.view w m)
    → Shows s m state (machine.view (after_all s w events) m)

-- without entries it shows in a machine without records that holds the same bytes
abbrev pub OpenedNodesShow : Type 0
OpenedNodesShow = (s : Setting) (m nodes : ℕ) (image : List ℕ) (seen : ℕ → ℕ → ℕ)
    → Shows s m (opened nodes image) (record { records = []; image = λ a. get_or image a 0; seen = seen })
