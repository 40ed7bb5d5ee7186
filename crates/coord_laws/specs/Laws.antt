-- That a coordinator does what the machine's does.
use Rattle.std.specs.Prelude.{◌≡◌, ◌≤◌, ℕ, true, List, [], Some, ⊤}
use Rattle.mini_tx.specs.declared.item.Item.{Item}
use Rattle.mini_tx.specs.declared.message.Message.TheVariants as message
use Rattle.mini_tx.specs.declared.tx_id.TxId.{TxId}
use Rattle.mini_tx.specs.declared.vote.Vote.{Vote}
use Rattle.mini_tx.specs.declared.vote.Vote.TheVariants as vote
use Rattle.mini_tx.specs.Laws.{IsTypedId}
use Rattle.mini_tx.specs.Order.{is_same}
use Rattle.tx_coord.specs.State.{State, Phase, Free, Runs, Ended, started}
use Rattle.tx_coord.specs.Rules as rules
use Rattle.tx_rules.specs.Decision.{Reason}
use Rattle.tx_rules.specs.Mini.{Setting}
use Rattle.tx_actors.specs.Coordinator as machine
use Rattle.tx_actors.specs.Numbers.{identifier}
use Rattle.mem_laws.specs.Cells.{number}
use Rattle.mem_laws.specs.Minis as minis
use Rattle.mem_laws.specs.Shown.{reason_of}
use Rattle.coord_laws.specs.Shown.{IsKnown, ShowsCoordinator, AreShownPosts, IsShownStep, ShowsEnd}

-- the participants are those of the table
abbrev pub ParticipantsAreTheTables : Type 0
ParticipantsAreTheTables = (items : List Item) → rules.participants_of items ≡ minis.participants_of items

-- a coordinator begins what the machine's may begin
abbrev pub BeginningsAreTheMachines : Type 0
BeginningsAreTheMachines = (s : Setting) (c : State) (x : machine.Coordinator) (items : List Item)
    → ShowsCoordinator s c x → c.phase ≡ Free → IsKnown s (rules.next_id c) (rules.participants_of items)
    → (machine.may_begin x (number (rules.next_id c)) x.running ≡ true) × IsShownStep s (rules.begun c items) (machine.begin x (number (rules.next_id c)))

-- a vote of a participant on what runs has the form of its items, as those have that memory nodes cast
abbrev pub IsFit : Phase → ℕ → TxId → Vote → Type 0
IsFit Free m id v = ⊤
IsFit (Runs r) m id v = is_same r.id id ≡ true → rules.fits (rules.placed_for r.mini m) v ≡ true
IsFit (Ended o) m id v = ⊤

-- where it runs one, it goes on or ends as the machine's does
abbrev pub EndsAlike : Phase → Phase → List machine.Outcome → Type 0
EndsAlike Free now ends = ends ≡ []
EndsAlike (Runs r) now ends = ShowsEnd r now ends
EndsAlike (Ended o) now ends = ends ≡ []

-- it counts the votes that the machine's counts
abbrev pub GrantedVotesAreTheMachines : Type 0
GrantedVotesAreTheMachines = (s : Setting) (c : State) (x : machine.Coordinator) (m : ℕ) (id : TxId) (reads : List (List ℕ))
    → ShowsCoordinator s c x → IsTypedId id → IsFit c.phase m id (vote.Granted reads)
    → IsShownStep s (rules.heard c m (message.Voted id (vote.Granted reads))) (machine.hear_granted s x m (number id) reads x.running)
    × EndsAlike c.phase (rules.heard c m (message.Voted id (vote.Granted reads))).now.phase (machine.hear_granted s x m (number id) reads x.running).ends

abbrev pub RefusedVotesAreTheMachines : Type 0
RefusedVotesAreTheMachines = (s : Setting) (c : State) (x : machine.Coordinator) (m : ℕ) (id : TxId) (v : Vote) (why : Reason)
    → ShowsCoordinator s c x → IsTypedId id → IsFit c.phase m id v → reason_of v ≡ Some why
    → IsShownStep s (rules.heard c m (message.Voted id v)) (machine.hear_refused s x m (number id) why x.running)
    × EndsAlike c.phase (rules.heard c m (message.Voted id v)).now.phase (machine.hear_refused s x m (number id) why x.running).ends

-- it finishes what the machine's finishes
abbrev pub DoneIsTheMachines : Type 0
DoneIsTheMachines = (s : Setting) (c : State) (x : machine.Coordinator) (m : ℕ) (id : TxId) → ShowsCoordinator s c x → IsTypedId id
    → IsShownStep s (rules.heard c m (message.Done id)) (machine.hear_done s x m (number id))

-- it posts again what the machine's posts again
abbrev pub ResendsAreTheMachines : Type 0
ResendsAreTheMachines = (s : Setting) (c : State) (x : machine.Coordinator) → ShowsCoordinator s c x → AreShownPosts (rules.resent c) (machine.resend x).posts

-- it gives up as the machine's does, and the machine has no outcome that is taken
abbrev pub GivingUpIsTheMachines : Type 0
GivingUpIsTheMachines = (s : Setting) (c : State) (x : machine.Coordinator) → ShowsCoordinator s c x
    → ShowsCoordinator s (rules.given_up c) (machine.give_up x).now × ShowsCoordinator s (rules.cleared c) x

-- it starts with a boot number above all that the machine's knows, as the machine's does
abbrev pub StartsAreTheMachines : Type 0
StartsAreTheMachines = (s : Setting) (x : machine.Coordinator) (coord boot : ℕ) → x.next ≤ identifier coord boot 1
    → ShowsCoordinator s (started coord boot) (machine.new_boot x).now
