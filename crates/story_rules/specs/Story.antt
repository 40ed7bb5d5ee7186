-- Everything that has happened to a cluster since its opening, as one value.
use Rattle.std.specs.Prelude.{ℕ, List, [], map, replicate, length, Option, None}
use Rattle.mini_tx.specs.declared.entry.Entry.{Entry}
use Rattle.mini_tx.specs.declared.item.Item.{Item}
use Rattle.mini_tx.specs.declared.posted.Posted.{Posted}
use Rattle.mini_tx.specs.declared.tx_id.TxId.{TxId}
use Rattle.tx_coord.specs.State as coord
use Rattle.story_rules.specs.MemoryNodes.{State, MemoryNode, with_state}

-- a memory node runs; or it is down: what it had when it went down, and the number of the message that it was handling,
-- where its disk may have that message's entry and no start has looked yet
pub data Site : Type 0 where
  Up : MemoryNode → Site
  Down : MemoryNode → Option ℕ → Site

-- a minitransaction that was begun
pub record Begun : Type 0 where
  pub id : TxId
  pub items : List Item

-- an NFS node: the boot number that its disk stores, and its coordinator where it runs
pub record Seat : Type 0 where
  pub boot : ℕ
  pub actor : Option coord.State

-- a Granted vote that was cast: with an entry by the identifier and the memory node, without one by the number of its
-- message; and how long the history was just before the step that cast it
pub data Cast : Type 0 where
  Entered : TxId → ℕ → ℕ → Cast
  Sent : ℕ → ℕ → Cast

pub record Story : Type 0 where
  -- what the disks stood for at the opening, memory node by memory node
  pub opening : List State
  -- oldest first
  pub begun : List Begun
  -- at each memory node the entries since the opening, oldest first
  pub logs : List (List Entry)
  pub sites : List Site
  pub nodes : List Seat
  -- message k is the k-th, from 1 on
  pub posted : List Posted
  -- the history: the changes that are committed, oldest first
  pub committed : List TxId
  -- oldest first
  pub casts : List Cast
  -- the identifiers whose outcome was Refused; none of them ever leaves
  pub refused : List TxId

-- before anything happens: all memory nodes run, and the nodes have these boot numbers and are down
abbrev pub opened_story : List State → List ℕ → Story
opened_story states boots =
    record {
      opening = states;
      begun = [];
      logs = replicate (length states) [];
      sites = map (λ (s : State). Up (with_state s)) states;
      nodes = map (λ (boot : ℕ). record { boot = boot; actor = None }) boots;
      posted = [];
      committed = [];
      casts = [];
      refused = [];
    }
