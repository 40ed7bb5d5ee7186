-- That the votes decide.
use Rattle.std.specs.Prelude.{◌≡◌, ℕ, ◌==◌, ◌&&◌, List, [], ◌∷◌, Option, Some, None, if◌then◌else◌, ◌↔◌, ⊤}
use Rattle.std.specs.List.{Contains}
use Rattle.mini_tx.specs.declared.item.Item.{Item}
use Rattle.mini_tx.specs.declared.message.Message.{Message}
use Rattle.mini_tx.specs.declared.message.Message.TheVariants as message
use Rattle.mini_tx.specs.declared.tx_id.TxId.{TxId}
use Rattle.mini_tx.specs.declared.vote.Vote.{Vote}
use Rattle.mini_tx.specs.declared.vote.Vote.TheVariants as vote
use Rattle.mini_tx.specs.Order.{is_same}
use Rattle.tx_coord.specs.declared.outcome.Outcome.TheVariants.{Committed, Refused}
use Rattle.tx_coord.specs.declared.running.Running.{Running}
use Rattle.tx_coord.specs.State.{Phase, Free, Runs, Ended, State}
use Rattle.tx_coord.specs.Rules.{heard, fits, participants_of, placed_for}

-- what comes from a memory node
pub record Delivery : Type 0 where
  pub from : ℕ
  pub message : Message

-- the state when all of these were heard, oldest first
abbrev pub after_hearing : State → List Delivery → State
after_hearing c [] = c
after_hearing c (d ∷ deliveries) = after_hearing (heard c d.from d.message).now deliveries

-- the vote of a memory node on these items of this identifier, where a message is one and fits
abbrev pub vote_in : TxId → List Item → ℕ → Message → Option Vote
vote_in t all m (message.Voted id v) = if is_same t id && fits (placed_for all m) v then Some v else None
vote_in t all m (message.Prepare id participants items) = None
vote_in t all m (message.Decide id commit) = None
vote_in t all m (message.Done id) = None
vote_in t all m (message.Forget id) = None
vote_in t all m message.List = None
vote_in t all m (message.Kept ids cut) = None
vote_in t all m (message.Ask id) = None
vote_in t all m (message.Answer id ok) = None
vote_in t all m (message.Hold cut) = None
vote_in t all m (message.Held cut answer) = None
vote_in t all m (message.Release cut) = None
vote_in t all m (message.Drop cut) = None
vote_in t all m (message.ReadCut cut place) = None
vote_in t all m (message.Piece cut place bytes) = None

abbrev pub before : Option Vote → Option Vote → Option Vote
before None later = later
before (Some v) later = Some v

-- the first vote of a memory node on them that fits
abbrev pub first_vote : TxId → List Item → ℕ → List Delivery → Option Vote
first_vote t all m [] = None
first_vote t all m (d ∷ deliveries) = before (if d.from == m then vote_in t all m d.message else None) (first_vote t all m deliveries)

abbrev pub IsGrantedVote : Option Vote → Type 0
IsGrantedVote None = ⊥
IsGrantedVote (Some (vote.Granted reads)) = ⊤
IsGrantedVote (Some (vote.Mismatch place kept)) = ⊥
IsGrantedVote (Some (vote.Locked holder)) = ⊥
IsGrantedVote (Some (vote.Forced floor)) = ⊥
IsGrantedVote (Some (vote.Held cut)) = ⊥

abbrev pub IsCommitted : Phase → Type 0
IsCommitted Free = ⊥
IsCommitted (Runs r) = ⊥
IsCommitted (Ended (Committed reads)) = ⊤
IsCommitted (Ended (Refused m v)) = ⊥

-- what has begun is committed by what is heard exactly where the first vote of each participant that counts is Granted
abbrev pub CommittedWhereAllGranted : Type 0
CommittedWhereAllGranted = (c : State) (r : Running) (deliveries : List Delivery) → c.phase ≡ Runs r → r.grants ≡ [] → ¬ (r.mini ≡ [])
    → IsCommitted (after_hearing c deliveries).phase ↔ ((m : ℕ) → Contains (participants_of r.mini) m → IsGrantedVote (first_vote r.id r.mini m deliveries))
