-- What stays of a story, and what an outcome Refused leaves in it.
use Rattle.std.specs.Prelude.{◌≡◌, ◌≤◌, ℕ, length, Some, slice_get}
use Rattle.mini_tx.specs.declared.vote.Vote.{Vote}
use Rattle.tx_coord.specs.declared.outcome.Outcome.TheVariants.{Refused}
use Rattle.tx_coord.specs.State as coord
use Rattle.tx_rules.specs.Mini.{In}
use Rattle.story_rules.specs.Story.{Seat, Story}
use Rattle.story_laws.specs.Acts.{IsTold}
use Rattle.story_shown.specs.History.{last_id}

-- where a coordinator tells Refused, what it began last is among the refused identifiers
abbrev pub RefusedAreNoted : Type 0
RefusedAreNoted = (size : ℕ) (story : Story) (n : ℕ) (seat : Seat) (c : coord.State) (m : ℕ) (v : Vote) → IsTold size story → slice_get story.nodes n ≡ Some seat → seat.actor ≡ Some c
    → c.phase ≡ coord.Ended (Refused m v) → In (last_id c) story.refused

-- the memory nodes are as many as at the opening
abbrev pub SitesAreMany : Type 0
SitesAreMany = (size : ℕ) (story : Story) → IsTold size story → length story.sites ≡ length story.opening

-- a coordinator has begun no more minitransactions than messages were posted, so their number is known to be small by that one
abbrev pub BeginningsAreFew : Type 0
BeginningsAreFew = (size : ℕ) (story : Story) (n : ℕ) (seat : Seat) (c : coord.State) → IsTold size story → slice_get story.nodes n ≡ Some seat → seat.actor ≡ Some c
    → c.begun ≤ length story.posted
