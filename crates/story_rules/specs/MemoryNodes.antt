-- A memory node of the story does what the rules of a memory node say. No other file here speaks of them.
use Rattle.std.specs.Prelude.{ℕ, List, None, Option}
use Rattle.mini_tx.specs.declared.entry.Entry.{Entry}
use Rattle.mini_tx.specs.declared.message.Message.{Message}
use Rattle.mem_rules.specs.Rules as rules
use Rattle.mem_rules.specs.State as node

-- what it takes from its log
abbrev pub State : Type 0
State = node.State

-- what it has, with the copy of a cut
abbrev pub MemoryNode : Type 0
MemoryNode = rules.Node

-- with no entry, with this image, in a cluster of so many nodes
abbrev pub opened : ℕ → List ℕ → State
opened nodes image = node.opened nodes image

-- a start takes all from the log, and finds no copy
abbrev pub with_state : State → MemoryNode
with_state state = record { state = state; copy = None }

-- what it does with a message: the entry that it appends, what it answers, and what it has then
pub record Reaction : Type 0 where
  pub entry : Option Entry
  pub answer : Option Message
  pub now : MemoryNode

abbrev pub reaction : MemoryNode → Message → Reaction
reaction n message =
    record {
      entry = (rules.react n message).entry;
      answer = (rules.react n message).answer;
      now = rules.after_reaction n (rules.react n message);
    }
