-- What a memory node's answer tells of its entry.
use Rattle.std.specs.Prelude.{◌≡◌, Bool, false, is_none, Option, Some, None, if◌then◌else◌}
use Rattle.mini_tx.specs.declared.message.Message.{Message}
use Rattle.mini_tx.specs.declared.message.Message.TheVariants as message
use Rattle.mini_tx.specs.declared.tx_id.TxId.{TxId}
use Rattle.mini_tx.specs.declared.vote.Vote.{Vote}
use Rattle.mini_tx.specs.EntryGrammar.{is_granted}
use Rattle.mem_rules.specs.Fit.{IsOfTransactions}
use Rattle.mem_rules.specs.Memory.{vote_of}
use Rattle.mem_rules.specs.Rules.{is_logged}
use Rattle.story_rules.specs.MemoryNodes.{State, MemoryNode, reaction}
use Rattle.story_rules.specs.Steps.{grant_of}

-- whether an answer is a Granted vote
abbrev pub is_grant : Option Message → Bool
is_grant None = false
is_grant (Some (message.Voted id v)) = is_granted v
is_grant (Some (message.Prepare id participants items)) = false
is_grant (Some (message.Decide id commit)) = false
is_grant (Some (message.Done id)) = false
is_grant (Some (message.Forget id)) = false
is_grant (Some message.List) = false
is_grant (Some (message.Kept ids cut)) = false
is_grant (Some (message.Ask id)) = false
is_grant (Some (message.Answer id ok)) = false
is_grant (Some (message.Hold cut)) = false
is_grant (Some (message.Held cut answer)) = false
is_grant (Some (message.Release cut)) = false
is_grant (Some (message.Drop cut)) = false
is_grant (Some (message.ReadCut cut place)) = false
is_grant (Some (message.Piece cut place bytes)) = false

-- the identifier of a message that asks for a vote which has an entry
abbrev pub logged_in : Message → Option TxId
logged_in (message.Prepare id participants items) = if is_logged participants items then Some id else None
logged_in (message.Voted id v) = None
logged_in (message.Decide id commit) = None
logged_in (message.Done id) = None
logged_in (message.Forget id) = None
logged_in message.List = None
logged_in (message.Kept ids cut) = None
logged_in (message.Ask id) = None
logged_in (message.Answer id ok) = None
logged_in (message.Hold cut) = None
logged_in (message.Held cut answer) = None
logged_in (message.Release cut) = None
logged_in (message.Drop cut) = None
logged_in (message.ReadCut cut place) = None
logged_in (message.Piece cut place bytes) = None

-- this identifier, where it had no vote before
abbrev pub unvoted : State → Option TxId → Option TxId
unvoted s None = None
unvoted s (Some id) = if is_none (vote_of s id) then Some id else None

-- which identifier a memory node may grant anew
abbrev pub may_grant : State → Message → Option TxId
may_grant s x = unvoted s (logged_in x)

-- what it grants anew
abbrev pub grants : Option TxId → Option Message → Option TxId
grants may answer = if is_grant answer then may else None

-- the entry of a reaction grants what its answer grants anew
abbrev pub AnswersTellGrants : Type 0
AnswersTellGrants = (n : MemoryNode) (x : Message) → grant_of (reaction n x).entry ≡ grants (may_grant n.state x) (reaction n x).answer

-- and a message that is none about cuts leaves the copy as it is
abbrev pub CopiesStay : Type 0
CopiesStay = (n : MemoryNode) (x : Message) → IsOfTransactions x → (reaction n x).now.copy ≡ n.copy
