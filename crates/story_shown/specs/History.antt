-- That a cluster is one flat memory: decisions, the flat history, and what the outcomes of its minitransactions mean.
use Rattle.std.specs.Prelude.{◌≡◌, ◌≤◌, ◌<◌, ℕ, true, false, List, [], ◌∷◌, map, take, length, get_or, Some, slice_get, ⊤}
use Rattle.mini_tx.specs.declared.entry.Entry.TheVariants.{Decided}
use Rattle.mini_tx.specs.declared.tx_id.TxId.{TxId}
use Rattle.mini_tx.specs.FlatMemory.{Flat, Matches, held_by, reads, after}
use Rattle.tx_coord.specs.declared.outcome.Outcome.TheVariants.{Committed}
use Rattle.tx_coord.specs.State as coord
use Rattle.tx_coord.specs.Rules.{participants_of}
use Rattle.tx_rules.specs.Mini.{In}
use Rattle.mem_rules.specs.declared.kept.Kept.{Kept}
use Rattle.mem_rules.specs.Fit.{IsIn}
use Rattle.mem_rules.specs.Rules.{is_above, is_undecided, standing}
use Rattle.mem_rules.specs.State.{State}
use Rattle.story_rules.specs.Story.{Begun, Seat, Site, Cast, Entered, Story}
use Rattle.story_rules.specs.Steps.{log_of, has_granted, has_write, is_logged, items_of, all_granted}
use Rattle.story_laws.specs.Acts.{IsTold}
use Rattle.story_laws.specs.Sites.{node_at}

-- ---- the flat memory

-- what the memory nodes held at the opening
abbrev pub held_at_opening : Story → Flat
held_at_opening story = map (λ (s : State). s.image) story.opening

-- a flat memory with the write items of these in place, oldest first
abbrev pub flat_after : List Begun → Flat → List TxId → Flat
flat_after begun flat [] = flat
flat_after begun flat (id ∷ ids) = flat_after begun (after (items_of begun id) flat) ids

-- the flat memory when the history had this length
abbrev pub flat_at : Story → ℕ → Flat
flat_at story at = flat_after story.begun (held_at_opening story) (take at story.committed)

-- no identifier stands twice in the list
abbrev pub AreOnce : List TxId → Type 0
AreOnce [] = ⊤
AreOnce (id ∷ ids) = (¬ In id ids) × AreOnce ids

-- no change stands twice in the history, and each matches the flat memory to which it is applied
pub record IsHistory (story : Story) : Type 0 where
  pub once : AreOnce story.committed
  pub matches : (at : ℕ) (id : TxId) → slice_get story.committed at ≡ Some id → Matches (items_of story.begun id) (flat_at story at)

-- ---- decisions

-- all participants have granted it
abbrev pub IsCommitted : Story → TxId → Type 0
IsCommitted story id = all_granted story id (participants_of (items_of story.begun id)) ≡ true

-- a participant has not granted it, and its floor of the coordinator is at the identifier or above
pub record IsAborted (story : Story) (id : TxId) : Type 0 where
  pub memory : ℕ
  pub takes_part : In memory (participants_of (items_of story.begun id))
  pub never : has_granted id (log_of story memory) ≡ false
  pub passed : (site : Site) → slice_get story.sites memory ≡ Some site → is_above (standing (node_at site).state id) ≡ false

-- every decision in a log is that of all participants
pub record Agrees (story : Story) : Type 0 where
  pub committed : (m : ℕ) (id : TxId) → In (Decided id true) (log_of story m) → IsCommitted story id
  pub aborted : (m : ℕ) (id : TxId) → In (Decided id false) (log_of story m) → IsAborted story id

-- ---- outcomes

-- the identifier that a coordinator has begun last
abbrev pub last_id : coord.State → TxId
last_id c = record { coord = c.coord; boot = c.boot; seq = c.begun }

-- one of the votes of the identifier that have an entry was cast at this place of the history, and none later
pub record IsLastCast (casts : List Cast) (id : TxId) (at : ℕ) : Type 0 where
  pub memory : ℕ
  pub there : In (Entered id memory at) casts
  pub last : (m k : ℕ) → In (Entered id m k) casts → k ≤ at

-- what ended as Committed with these reads: it matched the flat memory at a place of the history, and its reads are those
-- of this memory. Where its votes have entries, the last of them was cast at this place; and a change stands in the
-- history, and the place is its own
pub record IsOutcome (story : Story) (b : Begun) (bytes : List (List ℕ)) : Type 0 where
  pub at : ℕ
  pub within : at ≤ length story.committed
  pub cast : is_logged b.items ≡ true → IsLastCast story.casts b.id at
  pub own : has_write b.items ≡ true → slice_get story.committed at ≡ Some b.id
  pub matches : Matches b.items (flat_at story at)
  pub reads_are : bytes ≡ reads b.items (flat_at story at)

-- so is each that a coordinator tells
abbrev pub OutcomesAreFlat : Story → Type 0
OutcomesAreFlat story = (n : ℕ) (seat : Seat) (c : coord.State) (bytes : List (List ℕ)) → slice_get story.nodes n ≡ Some seat → seat.actor ≡ Some c
    → c.phase ≡ coord.Ended (Committed bytes) → (b : Begun) × In b story.begun × (b.id ≡ last_id c) × IsOutcome story b bytes

-- and no identifier with an outcome Refused is committed
abbrev pub RefusedNeverCommit : Story → Type 0
RefusedNeverCommit story = (id : TxId) → In id story.refused → ¬ IsCommitted story id

-- ---- the memory nodes

-- a byte of a memory node that no undecided record locks is that of the flat memory
abbrev pub ImagesAreFlat : Story → Type 0
ImagesAreFlat story = (m : ℕ) (site : Site) (place : ℕ) → slice_get story.sites m ≡ Some site → place < length (node_at site).state.image
    → ((k : Kept) → In k (node_at site).state.kept → is_undecided k ≡ true → ¬ IsIn k.ranges place)
    → get_or (node_at site).state.image place 0 ≡ get_or (held_by (flat_at story (length story.committed)) m) place 0

-- ---- the whole

-- so a cluster is one flat memory
pub record IsFlat (story : Story) : Type 0 where
  pub agrees : Agrees story
  pub history : IsHistory story
  pub outcomes : OutcomesAreFlat story
  pub refused : RefusedNeverCommit story
  pub images : ImagesAreFlat story

-- whatever has happened to it since it was formatted
abbrev pub ToldStoriesAreFlat : Type 0
ToldStoriesAreFlat = (size : ℕ) (story : Story) → IsTold size story → IsFlat story
