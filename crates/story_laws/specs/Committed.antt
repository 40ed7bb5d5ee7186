-- That what a coordinator ends as Committed all participants have voted for.
use Rattle.std.specs.Prelude.{◌≡◌, ℕ, List, Some, slice_get}
use Rattle.mini_tx.specs.declared.actor.Actor.TheVariants.{Memory}
use Rattle.mini_tx.specs.declared.posted.Posted.{Posted}
use Rattle.tx_coord.specs.declared.outcome.Outcome.TheVariants.{Committed}
use Rattle.tx_coord.specs.declared.running.Running.{Running}
use Rattle.tx_coord.specs.State as coord
use Rattle.tx_coord.specs.Rules.{heard, participants_of}
use Rattle.tx_rules.specs.Mini.{In}
use Rattle.story_rules.specs.Story.{Seat, Story}
use Rattle.story_laws.specs.Votes.{HasVoted, AreVoted}

-- where a message that a memory node has posted makes a coordinator end what runs as Committed, each participant has a
-- Granted entry of it, or has looked
abbrev pub CommittedIsVoted : Type 0
CommittedIsVoted = (story : Story) (n : ℕ) (seat : Seat) (c : coord.State) (r : Running) (p : Posted) (from : ℕ) (reads : List (List ℕ)) → AreVoted story
    → slice_get story.nodes n ≡ Some seat → seat.actor ≡ Some c → c.phase ≡ coord.Runs r → In p story.posted → p.from ≡ Memory from
    → (heard c from p.message).now.phase ≡ coord.Ended (Committed reads) → (m : ℕ) → In m (participants_of r.mini) → HasVoted story r.id m
