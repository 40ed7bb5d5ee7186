-- That no identifier is begun twice.
use Rattle.std.specs.Prelude.{◌≡◌, ◌<◌, ◌≤◌, ◌⊎◌, ℕ, Bool, List, [], ◌∷◌, Option, Some, None, slice_get, ⊤}
use Rattle.mini_tx.specs.declared.actor.Actor.{Actor}
use Rattle.mini_tx.specs.declared.item.Item.{Item}
use Rattle.mini_tx.specs.declared.tx_id.TxId.{TxId}
use Rattle.tx_coord.specs.State as coord
use Rattle.tx_rules.specs.Mini.{In}
use Rattle.mem_rules.specs.State.{State}
use Rattle.story_rules.specs.Story.{Begun, Seat, Story, opened_story}
use Rattle.story_rules.specs.Steps.{How, delivered, begun_by, given_up, cleared, resent, crashed, node_started, memory_started}

-- a coordinator that runs is the one of this node, since its start with the boot number that is stored
abbrev pub IsSeated : ℕ → ℕ → Option coord.State → Type 0
IsSeated n boot None = ⊤
IsSeated n boot (Some c) = (c.coord ≡ n) × (c.boot ≡ boot)

-- a coordinator that runs has begun so many
abbrev pub HasBegun : Option coord.State → ℕ → Type 0
HasBegun None seq = ⊤
HasBegun (Some c) seq = seq ≤ c.begun

-- the node has begun this identifier: before its last start, or since
abbrev pub IsPast : Option Seat → TxId → Type 0
IsPast None id = ⊥
IsPast (Some seat) id = (id.boot < seat.boot) ⊎ ((id.boot ≡ seat.boot) × HasBegun seat.actor id.seq)

-- no two of these have the same identifier
abbrev pub AreDistinct : List Begun → Type 0
AreDistinct [] = ⊤
AreDistinct (b ∷ begun) = ((other : Begun) → In other begun → ¬ (other.id ≡ b.id)) × AreDistinct begun

-- of these nodes: what was begun is of one of them, and no identifier was begun twice
pub record AreCounted (nodes : List Seat) (begun : List Begun) : Type 0 where
  pub seated : (n : ℕ) (seat : Seat) → slice_get nodes n ≡ Some seat → IsSeated n seat.boot seat.actor
  pub past : (b : Begun) → In b begun → IsPast (slice_get nodes b.id.coord) b.id
  pub distinct : AreDistinct begun

abbrev pub IsCounted : Story → Type 0
IsCounted story = AreCounted story.nodes story.begun

-- the boot number is above the one that the node has stored
abbrev pub IsNextBoot : Story → ℕ → ℕ → Type 0
IsNextBoot story n boot = (seat : Seat) → slice_get story.nodes n ≡ Some seat → seat.boot < boot

-- it holds at the opening, and each step keeps it: of a node's start it is asked that its boot number is a new one
pub record IdentifiersAreBegunOnce : Type 0 where
  pub opened : (states : List State) (boots : List ℕ) → IsCounted (opened_story states boots)
  pub begun : (story : Story) (n : ℕ) (items : List Item) → IsCounted story → IsCounted (begun_by story n items)
  pub delivered : (story : Story) (k : ℕ) (how : How) → IsCounted story → IsCounted (delivered story k how)
  pub given_up : (story : Story) (n : ℕ) → IsCounted story → IsCounted (given_up story n)
  pub cleared : (story : Story) (n : ℕ) → IsCounted story → IsCounted (cleared story n)
  pub resent : (story : Story) (n : ℕ) → IsCounted story → IsCounted (resent story n)
  pub crashed : (story : Story) (who : Actor) → IsCounted story → IsCounted (crashed story who)
  pub node_started : (story : Story) (n boot : ℕ) → IsNextBoot story n boot → IsCounted story → IsCounted (node_started story n boot)
  pub memory_started : (story : Story) (m : ℕ) (found : Bool) → IsCounted story → IsCounted (memory_started story m found)
