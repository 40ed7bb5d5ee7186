-- That the Granted votes that are cast with an entry are the Granted entries of the logs.
use Rattle.std.specs.Prelude.{◌≡◌, ◌≤◌, ◌==◌, ℕ, Bool, List, [], ◌∷◌, length, Option, Some, None, if◌then◌else◌}
use Rattle.mini_tx.specs.declared.actor.Actor.{Actor}
use Rattle.mini_tx.specs.declared.entry.Entry.{Entry}
use Rattle.mini_tx.specs.declared.item.Item.{Item}
use Rattle.mini_tx.specs.declared.tx_id.TxId.{TxId}
use Rattle.tx_rules.specs.Mini.{In}
use Rattle.mem_rules.specs.State.{State}
use Rattle.story_rules.specs.Story.{Cast, Entered, Sent, Story, opened_story}
use Rattle.story_rules.specs.Steps.{How, grant_in, log_of, delivered, begun_by, given_up, cleared, resent, crashed, node_started, memory_started}

abbrev pub before_others : Option TxId → List TxId → List TxId
before_others None ids = ids
before_others (Some id) ids = id ∷ ids

-- the identifiers of the Granted entries, oldest first
abbrev pub grants_in : List Entry → List TxId
grants_in [] = []
grants_in (e ∷ entries) = before_others (grant_in e) (grants_in entries)

-- the identifiers whose votes a memory node cast with an entry, oldest first
abbrev pub casts_at : ℕ → List Cast → List TxId
casts_at m [] = []
casts_at m (Entered id n at ∷ casts) = if n == m then id ∷ casts_at m casts else casts_at m casts
casts_at m (Sent k at ∷ casts) = casts_at m casts

-- how long the history was just before the vote was cast
abbrev pub moment_of : Cast → ℕ
moment_of (Entered id m at) = at
moment_of (Sent k at) = at

-- each memory node has a log, and has cast the votes of its Granted entries, in their order and each once; and a vote is
-- cast at a moment of the history
pub record AreCast (story : Story) : Type 0 where
  pub logs : length story.logs ≡ length story.sites
  pub entries : (m : ℕ) → casts_at m story.casts ≡ grants_in (log_of story m)
  pub moments : (c : Cast) → In c story.casts → moment_of c ≤ length story.committed

-- it holds at the opening, and each step keeps it
pub record CastsAreTheEntries : Type 0 where
  pub opened : (states : List State) (boots : List ℕ) → AreCast (opened_story states boots)
  pub begun : (story : Story) (n : ℕ) (items : List Item) → AreCast story → AreCast (begun_by story n items)
  pub delivered : (story : Story) (k : ℕ) (how : How) → AreCast story → AreCast (delivered story k how)
  pub given_up : (story : Story) (n : ℕ) → AreCast story → AreCast (given_up story n)
  pub cleared : (story : Story) (n : ℕ) → AreCast story → AreCast (cleared story n)
  pub resent : (story : Story) (n : ℕ) → AreCast story → AreCast (resent story n)
  pub crashed : (story : Story) (who : Actor) → AreCast story → AreCast (crashed story who)
  pub node_started : (story : Story) (n boot : ℕ) → AreCast story → AreCast (node_started story n boot)
  pub memory_started : (story : Story) (m : ℕ) (found : Bool) → AreCast story → AreCast (memory_started story m found)
