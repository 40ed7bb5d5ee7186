-- What may happen to a cluster, one act behind another, and what a story tells of it.
use Rattle.std.specs.Prelude.{◌≡◌, ℕ, Bool, List, [], ◌∷◌, map, length, All, Some, None, slice_get, ⊤}
use Rattle.mini_tx.specs.declared.actor.Actor.{Actor}
use Rattle.mini_tx.specs.declared.item.Item.{Item}
use Rattle.mini_tx.specs.Laws.{IsTypedId}
use Rattle.mini_tx.specs.Minitransactions.{refusal}
use Rattle.tx_coord.specs.State as coord
use Rattle.tx_coord.specs.Rules.{next_id}
use Rattle.story_rules.specs.MemoryNodes.{opened}
use Rattle.story_rules.specs.Story.{Seat, Story, opened_story}
use Rattle.story_rules.specs.Steps.{How, delivered, begun_by, given_up, cleared, resent, crashed, node_started, memory_started}
use Rattle.story_laws.specs.Casts.{AreCast}
use Rattle.story_laws.specs.Complete.{IsComplete}
use Rattle.story_laws.specs.Growth.{AreGranted}
use Rattle.story_laws.specs.Identifiers.{IsCounted, IsNextBoot}
use Rattle.story_laws.specs.Votes.{AreVoted}

pub data Act : Type 0 where
  Begins : ℕ → List Item → Act
  Delivers : ℕ → How → Act
  GivesUp : ℕ → Act
  Clears : ℕ → Act
  Resends : ℕ → Act
  Crashes : Actor → Act
  StartsNode : ℕ → ℕ → Act
  StartsMemory : ℕ → Bool → Act

-- what an act makes of a story
abbrev pub after_act : Story → Act → Story
after_act story (Begins n items) = begun_by story n items
after_act story (Delivers k how) = delivered story k how
after_act story (GivesUp n) = given_up story n
after_act story (Clears n) = cleared story n
after_act story (Resends n) = resent story n
after_act story (Crashes who) = crashed story who
after_act story (StartsNode n boot) = node_started story n boot
after_act story (StartsMemory m found) = memory_started story m found

-- and what acts make of it, oldest first
abbrev pub told : Story → List Act → Story
told story [] = story
told story (act ∷ acts) = told (after_act story act) acts

-- a node that runs and is idle begins a valid minitransaction over images of this size, and its number is within its type
abbrev pub MayBegin : ℕ → Story → ℕ → List Item → Type 0
MayBegin size story n items = (seat : Seat) (c : coord.State) → slice_get story.nodes n ≡ Some seat → seat.actor ≡ Some c
    → (c.phase ≡ coord.Free) × IsTypedId (next_id c) × (refusal items (length story.opening) size ≡ None)

-- all else may happen at any time, but that a node starts with a new boot number
abbrev pub MayHappen : ℕ → Story → Act → Type 0
MayHappen size story (Begins n items) = MayBegin size story n items
MayHappen size story (Delivers k how) = ⊤
MayHappen size story (GivesUp n) = ⊤
MayHappen size story (Clears n) = ⊤
MayHappen size story (Resends n) = ⊤
MayHappen size story (Crashes who) = ⊤
MayHappen size story (StartsNode n boot) = IsNextBoot story n boot
MayHappen size story (StartsMemory m found) = ⊤

abbrev pub MayAllHappen : ℕ → Story → List Act → Type 0
MayAllHappen size story [] = ⊤
MayAllHappen size story (act ∷ acts) = MayHappen size story act × MayAllHappen size (after_act story act) acts

-- a cluster that was formatted with these images, whose nodes have these boot numbers
abbrev pub fresh_story : List (List ℕ) → List ℕ → Story
fresh_story images boots = opened_story (map (λ (image : List ℕ). opened (length boots) image) images) boots

-- a story of a cluster that was formatted with images of one size, and of what may happen to it
pub record IsTold (size : ℕ) (story : Story) : Type 0 where
  pub images : List (List ℕ)
  pub boots : List ℕ
  pub acts : List Act
  pub sized : All (λ (image : List ℕ). length image ≡ size) images
  pub may : MayAllHappen size (fresh_story images boots) acts
  pub is : story ≡ told (fresh_story images boots) acts

-- and then what may happen happens
abbrev pub StoriesGoOn : Type 0
StoriesGoOn = (size : ℕ) (story : Story) (act : Act) → IsTold size story → MayHappen size story act → IsTold size (after_act story act)

-- all that the other laws say of a story
pub record Holds (story : Story) : Type 0 where
  pub counted : IsCounted story
  pub cast : AreCast story
  pub voted : AreVoted story
  pub complete : IsComplete story
  pub granted : AreGranted story

-- so it is of each that is told
abbrev pub ToldStoriesHold : Type 0
ToldStoriesHold = (size : ℕ) (story : Story) → IsTold size story → Holds story
