-- Who sends what to memory nodes.
use Rattle.std.specs.Prelude.{◌≡◌, ◌<◌, ℕ, length, ⊤}
use Rattle.mini_tx.specs.declared.actor.Actor.{Actor}
use Rattle.mini_tx.specs.declared.actor.Actor.TheVariants.{Node, Memory, Manager}
use Rattle.mini_tx.specs.declared.message.Message.{Message}
use Rattle.mini_tx.specs.declared.posted.Posted.{Posted}
use Rattle.mem_rules.specs.Fit.{IsOfTransactions}
use Rattle.tx_rules.specs.Mini.{In}
use Rattle.story_rules.specs.Story.{Story}
use Rattle.story_laws.specs.Acts.{IsTold}

-- one of so many nodes sent it, and it is none about cuts
pub record IsFromNode (nodes : ℕ) (from : Actor) (x : Message) : Type 0 where
  pub number : ℕ
  pub sender : from ≡ Node number
  pub below : number < nodes
  pub built : IsOfTransactions x

-- so it is of what goes to a memory node
abbrev pub IsSentWell : ℕ → Actor → Actor → Message → Type 0
IsSentWell nodes from (Memory m) x = IsFromNode nodes from x
IsSentWell nodes from (Node n) x = ⊤
IsSentWell nodes from Manager x = ⊤

-- whatever was posted
abbrev pub NodesSendToMemories : Type 0
NodesSendToMemories = (size : ℕ) (story : Story) (p : Posted) → IsTold size story → In p story.posted → IsSentWell (length story.nodes) p.from p.to p.message
