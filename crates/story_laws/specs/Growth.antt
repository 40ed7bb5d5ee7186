-- That each step only adds to a story.
use Rattle.std.specs.Prelude.{◌≡◌, ◌⊎◌, ℕ, Bool, true, List, [], ◌∷◌, ◌++◌}
use Rattle.mini_tx.specs.declared.actor.Actor.{Actor}
use Rattle.mini_tx.specs.declared.item.Item.{Item}
use Rattle.mini_tx.specs.declared.tx_id.TxId.{TxId}
use Rattle.mem_rules.specs.State.{State}
use Rattle.tx_coord.specs.Rules.{participants_of}
use Rattle.tx_rules.specs.Mini.{In}
use Rattle.story_rules.specs.Story.{Story, opened_story}
use Rattle.story_rules.specs.Steps.{How, log_of, has_write, items_of, all_granted, delivered, begun_by, given_up, cleared, resent, crashed, node_started, memory_started}

-- these are the earlier ones, with some behind them
abbrev pub Adds : {A : Type 0} → List A → List A → Type 0
Adds {A = A} before now = (new : List A) × (now ≡ before ++ new)

-- it was begun with a write item, and each of its participants has a Granted entry of it
pub record IsGrantedByAll (story : Story) (id : TxId) : Type 0 where
  pub written : has_write (items_of story.begun id) ≡ true
  pub granted : all_granted story id (participants_of (items_of story.begun id)) ≡ true

-- one change at most takes its place in the history, at the end, and all its participants have granted it
abbrev pub AddsPoint : Story → Story → Type 0
AddsPoint before now =
    (now.committed ≡ before.committed) ⊎ ((id : TxId) × (now.committed ≡ before.committed ++ id ∷ []) × IsGrantedByAll now id)

-- what was begun, logged, posted, committed, cast and refused stays, in its order; and one point is added at most
pub record Grows (before now : Story) : Type 0 where
  pub opening : now.opening ≡ before.opening
  pub begun : Adds before.begun now.begun
  pub logs : (m : ℕ) → Adds (log_of before m) (log_of now m)
  pub posted : Adds before.posted now.posted
  pub committed : AddsPoint before now
  pub casts : Adds before.casts now.casts
  pub refused : Adds before.refused now.refused

-- whatever happens
pub record StepsOnlyAdd : Type 0 where
  pub begun : (story : Story) (n : ℕ) (items : List Item) → Grows story (begun_by story n items)
  pub delivered : (story : Story) (k : ℕ) (how : How) → Grows story (delivered story k how)
  pub given_up : (story : Story) (n : ℕ) → Grows story (given_up story n)
  pub cleared : (story : Story) (n : ℕ) → Grows story (cleared story n)
  pub resent : (story : Story) (n : ℕ) → Grows story (resent story n)
  pub crashed : (story : Story) (who : Actor) → Grows story (crashed story who)
  pub node_started : (story : Story) (n boot : ℕ) → Grows story (node_started story n boot)
  pub memory_started : (story : Story) (m : ℕ) (found : Bool) → Grows story (memory_started story m found)

-- each change in the history was granted by all its participants
abbrev pub AreGranted : Story → Type 0
AreGranted story = (id : TxId) → In id story.committed → IsGrantedByAll story id

-- so it is at the opening, and stays while a story grows
pub record ChangesAreGranted : Type 0 where
  pub opened : (states : List State) (boots : List ℕ) → AreGranted (opened_story states boots)
  pub stays : (before now : Story) → Grows before now → AreGranted before → AreGranted now
