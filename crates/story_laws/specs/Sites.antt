-- That a memory node has what its log makes of what its disk stood for at the opening.
use Rattle.std.specs.Prelude.{◌≡◌, ℕ, Bool, List, [], length, Some, slice_get, slice_index_or}
use Rattle.mini_tx.specs.declared.actor.Actor.{Actor}
use Rattle.mini_tx.specs.declared.entry.Entry.{Entry}
use Rattle.mini_tx.specs.declared.item.Item.{Item}
use Rattle.mem_rules.specs.State.{State, after}
use Rattle.story_rules.specs.MemoryNodes.{MemoryNode}
use Rattle.story_rules.specs.Story.{Site, Up, Down, Story, opened_story}
use Rattle.story_rules.specs.Steps.{How, delivered, begun_by, given_up, cleared, resent, crashed, node_started, memory_started}

-- what a memory node has, or had when it went down
abbrev pub node_at : Site → MemoryNode
node_at (Up n) = n
node_at (Down n handling) = n

-- each of these has what its entries make of the state at the opening
abbrev pub AreMade : List State → List (List Entry) → List Site → Type 0
AreMade opening logs sites =
    (m : ℕ) (state : State) (site : Site) → slice_get opening m ≡ Some state → slice_get sites m ≡ Some site → (node_at site).state ≡ after state (slice_index_or logs m [])

-- each memory node has a log, and has what that makes of its opening; the entry of a message in which it went down is no
-- part of either until a start has found it
pub record AreReplayed (story : Story) : Type 0 where
  pub logs : length story.logs ≡ length story.sites
  pub states : AreMade story.opening story.logs story.sites

-- it holds at the opening, and each step keeps it
pub record SitesAreTheLogs : Type 0 where
  pub opened : (states : List State) (boots : List ℕ) → AreReplayed (opened_story states boots)
  pub begun : (story : Story) (n : ℕ) (items : List Item) → AreReplayed story → AreReplayed (begun_by story n items)
  pub delivered : (story : Story) (k : ℕ) (how : How) → AreReplayed story → AreReplayed (delivered story k how)
  pub given_up : (story : Story) (n : ℕ) → AreReplayed story → AreReplayed (given_up story n)
  pub cleared : (story : Story) (n : ℕ) → AreReplayed story → AreReplayed (cleared story n)
  pub resent : (story : Story) (n : ℕ) → AreReplayed story → AreReplayed (resent story n)
  pub crashed : (story : Story) (who : Actor) → AreReplayed story → AreReplayed (crashed story who)
  pub node_started : (story : Story) (n boot : ℕ) → AreReplayed story → AreReplayed (node_started story n boot)
  pub memory_started : (story : Story) (m : ℕ) (found : Bool) → AreReplayed story → AreReplayed (memory_started story m found)
