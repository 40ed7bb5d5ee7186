-- That a change which a coordinator ends as Committed is in the history.
use Rattle.std.specs.Prelude.{◌≡◌, ℕ, true, List, Some, slice_get}
use Rattle.mini_tx.specs.declared.actor.Actor.TheVariants.{Memory}
use Rattle.mini_tx.specs.declared.posted.Posted.{Posted}
use Rattle.tx_coord.specs.declared.outcome.Outcome.TheVariants.{Committed}
use Rattle.tx_coord.specs.declared.running.Running.{Running}
use Rattle.tx_coord.specs.State as coord
use Rattle.tx_coord.specs.Rules.{heard}
use Rattle.tx_rules.specs.Mini.{In}
use Rattle.story_rules.specs.Story.{Seat, Story}
use Rattle.story_rules.specs.Steps.{has_write}
use Rattle.story_laws.specs.Complete.{IsComplete}
use Rattle.story_laws.specs.Identifiers.{IsCounted}
use Rattle.story_laws.specs.Votes.{AreVoted}

-- where a message that a memory node has posted makes a coordinator end what runs as Committed, and that has a write item,
-- its identifier has its place in the history already
abbrev pub CommittedIsAChange : Type 0
CommittedIsAChange = (story : Story) (n : ℕ) (seat : Seat) (c : coord.State) (r : Running) (p : Posted) (from : ℕ) (reads : List (List ℕ)) → AreVoted story → IsCounted story → IsComplete story
    → slice_get story.nodes n ≡ Some seat → seat.actor ≡ Some c → c.phase ≡ coord.Runs r → In p story.posted → p.from ≡ Memory from
    → (heard c from p.message).now.phase ≡ coord.Ended (Committed reads) → has_write r.mini ≡ true → In r.id story.committed
