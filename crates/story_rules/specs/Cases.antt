-- What steps make of a story, by computing.
use Rattle.std.specs.Prelude.{◌≡◌, ℕ, true, false, List, [], ◌∷◌, length, map, slice_get, Some}
use Rattle.mini_tx.specs.declared.actor.Actor.TheVariants.{Node, Memory}
use Rattle.mini_tx.specs.declared.item.Item.{Item}
use Rattle.mini_tx.specs.declared.item.Item.TheVariants.{Read, Write}
use Rattle.mini_tx.specs.declared.message.Message.TheVariants as message
use Rattle.mini_tx.specs.declared.tx_id.TxId.{TxId}
use Rattle.mini_tx.specs.declared.vote.Vote.TheVariants as vote
use Rattle.story_rules.specs.MemoryNodes.{State, opened, with_state}
use Rattle.story_rules.specs.Story.{Story, Down, Entered, Sent, opened_story}
use Rattle.story_rules.specs.Steps.{Handled, Stopped, WentDown, begun_by, given_up, cleared, resent, crashed, delivered, memory_started, message_at, node_started}

-- two memory nodes of four bytes, and two nodes that run
abbrev pub memory : State
memory = opened 2 (0 ∷ 0 ∷ 0 ∷ 0 ∷ [])

abbrev pub opening : Story
opening = node_started (node_started (opened_story (memory ∷ memory ∷ []) (0 ∷ 0 ∷ [])) 0 1) 1 1

abbrev pub id_of : ℕ → ℕ → TxId
id_of n seq = record { coord = n; boot = 1; seq = seq }

-- node 0 changes a byte of each memory node, and node 1 reads the one of memory node 1
abbrev pub change : List Item
change = Write 0 0 (7 ∷ []) ∷ Write 1 1 (8 ∷ []) ∷ []

abbrev pub look : List Item
look = Read 1 1 1 ∷ []

-- messages 1 and 2 are the `prepare`s; memory node 0 votes by message 3
abbrev pub half_granted : Story
half_granted = delivered (begun_by opening 0 change) 1 Handled

-- memory node 1 goes down in its vote, and starts
abbrev pub went_down : Story
went_down = delivered half_granted 2 WentDown

abbrev pub was_found : Story
was_found = memory_started went_down 1 true

abbrev pub was_lost : Story
was_lost = memory_started went_down 1 false

-- its vote is asked for again, and leaves as message 4
abbrev pub granted_again : Story
granted_again = delivered was_found 2 Handled

-- both votes are heard: messages 5 and 6 are the decisions, which memory node 1 applies by message 7
abbrev pub decided : Story
decided = delivered (delivered granted_again 3 Handled) 4 Handled

abbrev pub applied : Story
applied = delivered decided 6 Handled

-- the place in the history is taken when the last participant's entry counts, which for one that went down is at the
-- start that finds it; and a vote that is sent again adds nothing
pub record ChangesAreCounted : Type 0 where
  pub begun : length (begun_by opening 0 change).posted ≡ 2
  pub first : half_granted.casts ≡ Entered (id_of 0 1) 0 0 ∷ []
  pub not_yet : half_granted.committed ≡ []
  pub unseen : map (λ entries. length entries) went_down.logs ≡ 1 ∷ 0 ∷ []
  pub down : slice_get went_down.sites 1 ≡ Some (Down (with_state memory) (Some 2))
  pub lost : was_lost.committed ≡ []
  pub found : was_found.committed ≡ id_of 0 1 ∷ []
  pub casts : was_found.casts ≡ Entered (id_of 0 1) 0 0 ∷ Entered (id_of 0 1) 1 0 ∷ []
  pub silent : length was_found.posted ≡ 3
  pub again : granted_again.casts ≡ was_found.casts
  pub once : granted_again.committed ≡ was_found.committed
  pub posted : message_at granted_again 4
      ≡ Some (record { from = Memory 1; to = Node 0; message = message.Voted (id_of 0 1) (vote.Granted []) })
  pub decides : message_at decided 6 ≡ Some (record { from = Node 0; to = Memory 1; message = message.Decide (id_of 0 1) true })
  pub logs : map (λ entries. length entries) applied.logs ≡ 1 ∷ 2 ∷ []
  pub done : message_at applied 7 ≡ Some (record { from = Memory 1; to = Node 0; message = message.Done (id_of 0 1) })

-- node 1 reads while the byte is locked, and is refused by message 6; what node 0 decides then is message 7 on
abbrev pub locked_out : Story
locked_out = delivered (delivered (begun_by granted_again 1 look) 5 Handled) 6 Handled

-- and once more when the change is applied, by messages 8 and 9; its second look is message 10
abbrev pub looked : Story
looked = delivered (begun_by (cleared applied 1) 1 look) 8 Handled

abbrev pub looked_again : Story
looked_again = delivered looked 8 Handled

-- node 1 reads at both memory nodes, in a cluster where nothing else happens
abbrev pub read_both : Story
read_both = delivered (delivered (begun_by opening 1 (Read 0 0 1 ∷ Read 1 1 1 ∷ [])) 1 Handled) 2 Handled

-- a vote without an entry is cast by each message; one that is not Granted is no cast, and its identifier is refused; what
-- only reads has no place in the history
pub record LooksAreCast : Type 0 where
  pub refused : locked_out.refused ≡ id_of 1 1 ∷ []
  pub no_entry : locked_out.logs ≡ granted_again.logs
  pub no_cast : locked_out.casts ≡ granted_again.casts
  pub look : looked.casts ≡ Entered (id_of 0 1) 0 0 ∷ Entered (id_of 0 1) 1 0 ∷ Sent 9 1 ∷ []
  pub bytes : message_at looked 9
      ≡ Some (record { from = Memory 1; to = Node 1; message = message.Voted (id_of 1 1) (vote.Granted ((8 ∷ []) ∷ [])) })
  pub twice : looked_again.casts ≡ Entered (id_of 0 1) 0 0 ∷ Entered (id_of 0 1) 1 0 ∷ Sent 9 1 ∷ Sent 10 1 ∷ []
  pub history : looked_again.committed ≡ id_of 0 1 ∷ []
  pub several : read_both.casts ≡ Entered (id_of 1 1) 0 0 ∷ Entered (id_of 1 1) 1 0 ∷ []
  pub no_place : read_both.committed ≡ []

-- node 0 crashes with one vote heard, and starts with the next boot number
abbrev pub restarted : Story
restarted = node_started (crashed granted_again (Node 0)) 0 2

-- a memory node stops when its entry is durable
abbrev pub stopped : Story
stopped = delivered half_granted 2 Stopped

-- what a node that is down is sent is lost, and its next minitransaction has the new boot number; a vote of before the
-- crash changes nothing. A stop after the entry leaves no answer, and counts
pub record CrashesAreTold : Type 0 where
  pub lost : delivered (crashed granted_again (Node 0)) 3 Handled ≡ crashed granted_again (Node 0)
  pub late : delivered (delivered restarted 3 Handled) 4 Handled ≡ restarted
  pub next : map (λ b. b.id) (begun_by restarted 0 change).begun ≡ id_of 0 1 ∷ record { coord = 0; boot = 2; seq = 1 } ∷ []
  pub stays : (crashed granted_again (Node 0)).committed ≡ id_of 0 1 ∷ []
  pub counts : stopped.committed ≡ id_of 0 1 ∷ []
  pub silent : length stopped.posted ≡ 3
  pub full_down : delivered stopped 2 Handled ≡ stopped
  pub resends : map (λ p. p.to) (resent half_granted 0).posted ≡ Memory 0 ∷ Memory 1 ∷ Node 0 ∷ Memory 0 ∷ Memory 1 ∷ []
  pub gave_up : delivered (given_up granted_again 0) 3 Handled ≡ given_up granted_again 0
