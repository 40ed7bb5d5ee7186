-- That a Granted vote has its entry, and that a coordinator counts no others.
use Rattle.std.specs.Prelude.{◌≡◌, ◌⊎◌, ℕ, Bool, true, false, List, [], Option, Some, None, slice_get, ⊤}
use Rattle.mini_tx.specs.declared.actor.Actor.{Actor}
use Rattle.mini_tx.specs.declared.actor.Actor.TheVariants.{Memory}
use Rattle.mini_tx.specs.declared.entry.Entry.{Entry}
use Rattle.mini_tx.specs.declared.item.Item.{Item}
use Rattle.mini_tx.specs.declared.message.Message.{Message}
use Rattle.mini_tx.specs.declared.message.Message.TheVariants.{Voted}
use Rattle.mini_tx.specs.declared.posted.Posted.{Posted}
use Rattle.mini_tx.specs.declared.tx_id.TxId.{TxId}
use Rattle.mini_tx.specs.declared.vote.Vote.TheVariants.{Granted}
use Rattle.mini_tx.specs.EntryGrammar.{is_granted}
use Rattle.tx_coord.specs.State as coord
use Rattle.tx_coord.specs.Rules.{participants_of, placed_for}
use Rattle.tx_coord.specs.Votes as counted
use Rattle.tx_rules.specs.Mini.{In}
use Rattle.mem_rules.specs.declared.floor.Floor.{Floor}
use Rattle.mem_rules.specs.declared.kept.Kept.{Kept}
use Rattle.mem_rules.specs.Rules.{is_logged}
use Rattle.mem_rules.specs.State.{State, floor_at}
use Rattle.story_rules.specs.Story.{Begun, Seat, Site, Story, opened_story}
use Rattle.story_rules.specs.Steps.{How, has_granted, log_of, delivered, begun_by, given_up, cleared, resent, crashed, node_started, memory_started}
use Rattle.story_laws.specs.Beginnings.{AreBegun}
use Rattle.story_laws.specs.Sites.{node_at, AreReplayed}

-- nothing was voted on before the opening, and nothing is kept
abbrev pub AreFresh : List State → Type 0
AreFresh states = (state : State) → In state states → (state.kept ≡ []) × ((c : ℕ) → floor_at state.floors c ≡ None)

-- one participant, and no write item: its vote has no entry
abbrev pub IsLook : List Item → ℕ → Type 0
IsLook items m = is_logged (participants_of items) (placed_for items m) ≡ false

-- the memory node has a Granted entry of what was begun under this identifier, or may vote on it without one
abbrev pub HasVoted : Story → TxId → ℕ → Type 0
HasVoted story id m = (has_granted id (log_of story m) ≡ true) ⊎ ((b : Begun) × In b story.begun × (b.id ≡ id) × IsLook b.items m)

-- what a memory node keeps or has as a floor with a Granted vote is granted in its log
pub record AreInLog (state : State) (log : List Entry) : Type 0 where
  pub kept : (k : Kept) → In k state.kept → is_granted k.vote ≡ true → has_granted k.id log ≡ true
  pub floors : (c : ℕ) (floor : Floor) → floor_at state.floors c ≡ Some floor → is_granted floor.vote ≡ true → has_granted floor.id log ≡ true

-- a Granted vote that a memory node has posted
abbrev pub IsVoted : Story → Actor → Message → Type 0
IsVoted story from x = (m : ℕ) (id : TxId) (reads : List (List ℕ)) → from ≡ Memory m → x ≡ Voted id (Granted reads) → HasVoted story id m

-- the votes that a coordinator has counted
abbrev pub AreCountedVotes : Story → coord.Phase → Type 0
AreCountedVotes story coord.Free = ⊤
AreCountedVotes story (coord.Runs r) = (g : counted.Granted) → In g r.grants → HasVoted story r.id g.memory
AreCountedVotes story (coord.Ended outcome) = ⊤

abbrev pub AreCountedIf : Story → Option coord.State → Type 0
AreCountedIf story None = ⊤
AreCountedIf story (Some c) = AreCountedVotes story c.phase

pub record AreVoted (story : Story) : Type 0 where
  pub begun : AreBegun story
  pub replayed : AreReplayed story
  pub entries : (m : ℕ) (site : Site) → slice_get story.sites m ≡ Some site → AreInLog (node_at site).state (log_of story m)
  pub votes : (p : Posted) → In p story.posted → IsVoted story p.from p.message
  pub counts : (n : ℕ) (seat : Seat) → slice_get story.nodes n ≡ Some seat → AreCountedIf story seat.actor

-- it holds at a fresh opening, and each step keeps it
pub record VotesHaveEntries : Type 0 where
  pub opened : (states : List State) (boots : List ℕ) → AreFresh states → AreVoted (opened_story states boots)
  pub begun : (story : Story) (n : ℕ) (items : List Item) → AreVoted story → AreVoted (begun_by story n items)
  pub delivered : (story : Story) (k : ℕ) (how : How) → AreVoted story → AreVoted (delivered story k how)
  pub given_up : (story : Story) (n : ℕ) → AreVoted story → AreVoted (given_up story n)
  pub cleared : (story : Story) (n : ℕ) → AreVoted story → AreVoted (cleared story n)
  pub resent : (story : Story) (n : ℕ) → AreVoted story → AreVoted (resent story n)
  pub crashed : (story : Story) (who : Actor) → AreVoted story → AreVoted (crashed story who)
  pub node_started : (story : Story) (n boot : ℕ) → AreVoted story → AreVoted (node_started story n boot)
  pub memory_started : (story : Story) (m : ℕ) (found : Bool) → AreVoted story → AreVoted (memory_started story m found)
