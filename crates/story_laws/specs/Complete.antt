-- That a change which all its participants have granted is in the history.
use Rattle.std.specs.Prelude.{ℕ, Bool, List}
use Rattle.mini_tx.specs.declared.actor.Actor.{Actor}
use Rattle.mini_tx.specs.declared.item.Item.{Item}
use Rattle.mini_tx.specs.declared.tx_id.TxId.{TxId}
use Rattle.tx_rules.specs.Mini.{In}
use Rattle.mem_rules.specs.State.{State}
use Rattle.story_rules.specs.Story.{Story, opened_story}
use Rattle.story_rules.specs.Steps.{How, delivered, begun_by, given_up, cleared, resent, crashed, node_started, memory_started}
use Rattle.story_laws.specs.Growth.{IsGrantedByAll}
use Rattle.story_laws.specs.Beginnings.{AreBegun}

-- no change is missing in the history
abbrev pub IsComplete : Story → Type 0
IsComplete story = (id : TxId) → IsGrantedByAll story id → In id story.committed

-- it holds at the opening, and each step keeps it; of a beginning it is asked that what is logged was begun
pub record GrantedAreChanges : Type 0 where
  pub opened : (states : List State) (boots : List ℕ) → IsComplete (opened_story states boots)
  pub begun : (story : Story) (n : ℕ) (items : List Item) → AreBegun story → IsComplete story → IsComplete (begun_by story n items)
  pub delivered : (story : Story) (k : ℕ) (how : How) → IsComplete story → IsComplete (delivered story k how)
  pub given_up : (story : Story) (n : ℕ) → IsComplete story → IsComplete (given_up story n)
  pub cleared : (story : Story) (n : ℕ) → IsComplete story → IsComplete (cleared story n)
  pub resent : (story : Story) (n : ℕ) → IsComplete story → IsComplete (resent story n)
  pub crashed : (story : Story) (who : Actor) → IsComplete story → IsComplete (crashed story who)
  pub node_started : (story : Story) (n boot : ℕ) → IsComplete story → IsComplete (node_started story n boot)
  pub memory_started : (story : Story) (m : ℕ) (found : Bool) → IsComplete story → IsComplete (memory_started story m found)
