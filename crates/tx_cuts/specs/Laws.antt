-- What holds of cuts, of openings from what a run left, and of crashes.
use Rattle.std.specs.Prelude.{◌≡◌, ℕ, true, List, [], ◌∷◌, ◌++◌, Some, ◌⊎◌, ◌↔◌, ⊤}
use Rattle.tx_rules.specs.Mini.{In, Memory, Setting, flat}
use Rattle.tx_rules.specs.Decision.{Held, Record, Entry, IsOpen, IsCommitted}
use Rattle.tx_rules.specs.World.{Refused, World, Event, Refuses, Posts, IsRun, after_all}
use Rattle.tx_rules.specs.Opening.{IsOpening}
use Rattle.tx_rules.specs.Laws.{AlwaysHolds}
use Rattle.tx_actors.specs.Node.{AllElsewhere}
use Rattle.tx_actors.specs.Machine.{appending, Input, steps, IsAboveKnown}
use Rattle.tx_actors.specs.Laws.{IsFitting}
use Rattle.tx_cuts.specs.Cut.{CutMessage, Copy, Cuts, opened_cuts, IsHeld, CutEvent, Does, CutPromises, IsCutRun, after_cuts}
use Rattle.tx_cuts.specs.Backup.{BackedUp}
use Rattle.tx_cuts.specs.Whole.{Whole, state_of, WholeInput, Acts, knowing, whole_step, whole_steps, opened_whole, images_in}

-- ---- cuts

-- it holds at every moment of every run with cuts, of any memory nodes, from any opening
abbrev pub AlwaysCut : (Setting → List ℕ → Cuts → Type 0) → Type 0
AlwaysCut P = (s : Setting) (ms : List ℕ) (log : List Entry) (image : Memory) (floors : List (ℕ × ℕ)) → IsOpening s log image
    → (events : List CutEvent) → IsCutRun s ms (opened_cuts s log image floors) events → P s ms (after_cuts s (opened_cuts s log image floors) events)

-- what the transactions do among the events
abbrev pub done_among : List CutEvent → List Event
done_among [] = []
done_among (Does e ∷ events) = e ∷ done_among events
done_among (e ∷ events) = done_among events

-- with cuts the transactions still run by their rules
abbrev pub CutRunsAreRuns : Type 0
CutRunsAreRuns = (s : Setting) (ms : List ℕ) (k : Cuts) (events : List CutEvent) → IsCutRun s ms k events
    → IsRun s k.world (done_among events) × ((after_cuts s k events).world ≡ after_all s k.world (done_among events))

-- a copy of a cut that was made is the flat memory at that moment
abbrev pub CopiesAreFlat : Type 0
CopiesAreFlat = AlwaysCut (λ s ms k. (m : ℕ) (copy : Copy) (points : List ℕ) → k.copies m ≡ Some copy → In (copy.cut, points) k.made
    → (a : ℕ) → copy.image a ≡ flat s points m a)

-- every message about a cut keeps its promise: every piece is a part of the flat memory at the cut
abbrev pub CutPromisesAreKept : Type 0
CutPromisesAreKept = AlwaysCut (λ s ms k. (message : CutMessage) → In message k.sent → CutPromises s k message)

-- a cut is made once, at some points of the run
abbrev pub CutsAreMadeOnce : Type 0
CutsAreMadeOnce = AlwaysCut (λ s ms k. (c : ℕ) (p q : List ℕ) → In (c, p) k.made
    → ((later : List ℕ) × (k.world.points ≡ later ++ p)) × (In (c, q) k.made → p ≡ q))

-- while a memory node holds a cut, nothing is undecided there, and its image is the copy
abbrev pub HoldsAreStill : Type 0
HoldsAreStill = AlwaysCut (λ s ms k. (m : ℕ) (copy : Copy) → k.copies m ≡ Some copy → copy.held ≡ true
    → ((t : ℕ) → ¬ IsOpen k.world.log m t) × ((a : ℕ) → k.world.image m a ≡ copy.image a))

-- in these events a vote was cast since a cut was held, with its entry or by the message alone, when it was held
pub record WasHeld (s : Setting) (k : Cuts) (events : List CutEvent) (m t cut : ℕ) : Type 0 where
  pub first : List CutEvent
  pub cast : Event
  pub rest : List CutEvent
  pub split : events ≡ first ++ Does cast ∷ rest
  pub kind : (cast ≡ Refuses m t (Held cut)) ⊎ (cast ≡ Posts (Refused m t (Held cut)))
  pub held : IsHeld ((after_cuts s k first).copies m) cut

-- each posted vote that is Held was cast when its cut was held there
abbrev pub HeldVotesWereHeld : Type 0
HeldVotesWereHeld = (s : Setting) (ms : List ℕ) (log : List Entry) (image : Memory) (floors : List (ℕ × ℕ)) → IsOpening s log image
    → (events : List CutEvent) → IsCutRun s ms (opened_cuts s log image floors) events
    → (m t cut : ℕ) → In (Refused m t (Held cut)) (after_cuts s (opened_cuts s log image floors) events).world.posted
    → WasHeld s (opened_cuts s log image floors) events m t cut

-- ---- opening again

-- how what is known is sorted at the next opening: found are those with an undecided record, early the committed ones
-- of these, and old the others
pub record IsSorted (s : Setting) (w : World) (old found early : List ℕ) : Type 0 where
  pub known : (t : ℕ) → In t w.begun → In t found ⊎ In t old
  pub closed : (m t : ℕ) → In t old → ¬ IsOpen w.log m t
  pub undecided : (t : ℕ) → In t found → In t w.begun × ((m : ℕ) × IsOpen w.log m t)
  pub committed : (t : ℕ) → In t early ↔ (In t found × IsCommitted s w.log t)

-- the setting of the next opening: its opening memory is the flat memory now
abbrev pub next_setting : Setting → World → List ℕ → List ℕ → List ℕ → Setting
next_setting s w old found early = record s { old = old; found = found; early = early; start = flat s w.points }

-- the logs and images that any run leaves at any moment are sound for the flat memory at that moment, so the cluster
-- opens from them
abbrev pub OpensAgain : Type 0
OpensAgain = AlwaysHolds (λ s w. (old found early : List ℕ) → IsSorted s w old found early
    → IsOpening (next_setting s w old found early) w.log w.image)

-- ---- crashes

-- what a memory node may append, it may still append after events elsewhere: so where it went down and its start finds
-- the records, they count from then on
abbrev pub RecordsMayWait : Type 0
RecordsMayWait = (s : Setting) (w : World) (m : ℕ) (rs : List Record) (events : List Event) → IsRun s w (appending s w m rs)
    → IsRun s w events → AllElsewhere m events → IsRun s (after_all s w events) (appending s (after_all s w events) m rs)

-- what memory nodes have begun to append, one after another
abbrev pub appending_all : Setting → World → List (ℕ × List Record) → List Event
appending_all s w [] = []
appending_all s w (x ∷ rest) = appending s w x.0 x.1 ++ appending_all s (after_all s w (appending s w x.0 x.1)) rest

-- no memory node stands twice in the list
abbrev pub AreDistinct : List (ℕ × List Record) → Type 0
AreDistinct [] = ⊤
AreDistinct (x ∷ rest) = ((y : ℕ × List Record) → In y rest → ¬ (y.0 ≡ x.0)) × AreDistinct rest

-- the crash images of all disks together: whichever memory nodes went down while they appended what they may, and
-- whichever of these appends are durable, the logs are those of a run
abbrev pub CrashImagesAreReached : Type 0
CrashImagesAreReached = (s : Setting) (w : World) (durable : List (ℕ × List Record)) → AreDistinct durable
    → ((x : ℕ × List Record) → In x durable → IsRun s w (appending s w x.0 x.1)) → IsRun s w (appending_all s w durable)

-- ---- backups

-- it holds of every state that the whole reaches from any opening by any inputs, with images of any size at any
-- memory nodes
abbrev pub AlwaysBacked : (Setting → ℕ → List ℕ → Whole → Type 0) → Type 0
AlwaysBacked P = (s : Setting) (size : ℕ) (ms : List ℕ) (log : List Entry) (image : Memory) (floors : List (ℕ × ℕ)) (next : ℕ → ℕ) (next_cut : ℕ)
    → IsOpening s log image → IsAboveKnown s next → (inputs : List WholeInput)
    → IsFitting s (whole_steps s size ms (opened_whole s log image floors next next_cut) inputs).cuts.world
    → P s size ms (whole_steps s size ms (opened_whole s log image floors next next_cut) inputs)

-- every state that the whole reaches is reached by a run with cuts
abbrev pub WholesAreCutRuns : Type 0
WholesAreCutRuns = (s : Setting) (size : ℕ) (ms : List ℕ) (log : List Entry) (image : Memory) (floors : List (ℕ × ℕ)) (next : ℕ → ℕ) (next_cut : ℕ)
    → IsOpening s log image → IsAboveKnown s next → (inputs : List WholeInput)
    → IsFitting s (whole_steps s size ms (opened_whole s log image floors next next_cut) inputs).cuts.world
    → (events : List CutEvent) × IsCutRun s ms (opened_cuts s log image floors) events
    × ((whole_steps s size ms (opened_whole s log image floors next next_cut) inputs).cuts ≡ after_cuts s (opened_cuts s log image floors) events)

-- a backup that is done has the images of all memory nodes in the flat memory at its cut
abbrev pub BackupsAreFlat : Type 0
BackupsAreFlat = AlwaysBacked (λ s size ms x. (c : ℕ) (images : List (List ℕ)) → In (BackedUp c images) x.endings
    → (points : List ℕ) × In (c, points) x.cuts.made × (images ≡ images_in size ms (flat s points)))

-- what the actors of the transactions are given among these inputs, each with whether a cut is held
abbrev pub acted : Setting → ℕ → List ℕ → Whole → List WholeInput → List Input
acted s size ms x [] = []
acted s size ms x (Acts input ∷ inputs) = knowing x.cuts input ∷ acted s size ms (whole_step s size ms x (Acts input)) inputs
acted s size ms x (input ∷ inputs) = acted s size ms (whole_step s size ms x input) inputs

-- inputs, and then more inputs
abbrev pub WholeStepsJoin : Type 0
WholeStepsJoin = (s : Setting) (size : ℕ) (ms : List ℕ) (x : Whole) (first more : List WholeInput)
    → whole_steps s size ms x (first ++ more) ≡ whole_steps s size ms (whole_steps s size ms x first) more

-- without its cuts the whole is a state of the transactions: so all that holds of those holds beside backups
abbrev pub WholesAreStates : Type 0
WholesAreStates = (s : Setting) (size : ℕ) (ms : List ℕ) (x : Whole) (inputs : List WholeInput)
    → state_of (whole_steps s size ms x inputs) ≡ steps s (state_of x) (acted s size ms x inputs)
