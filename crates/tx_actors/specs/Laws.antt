-- What holds of the actors, whatever happens to them.
use Rattle.std.specs.Prelude.{◌≡◌, ℕ, ◌<◌, ◌≤◌, true, List, ◌∷◌, ◌++◌, map, length, Option, Some, None, ◌⊎◌, ◌↔◌}
use Rattle.tx_rules.specs.Mini.{In, Memory, IsMini, has_several, Setting, nodes_of, IsLive, participants_at, IsLogged, IsReader, reads_of, Matches, flat}
use Rattle.tx_rules.specs.Decision.{Reason, Record, Forget, Entry, At, IsGranted, IsPassed, IsOpen, IsCommitted, IsAborted}
use Rattle.tx_rules.specs.World.{Message, Granted, Looked, Refused, World, opened, Event, Posts, IsRun, after_all}
use Rattle.tx_rules.specs.Opening.{IsOpening}
use Rattle.tx_rules.specs.Laws.{WasCast}
use Rattle.tx_actors.specs.Node.{own, view, after_records, AllElsewhere, handle, cast_as, floor_of, is_kept, is_undecided, Above, standing, replayed}
use Rattle.tx_actors.specs.Coordinator.{Outcome, Committed, Failed}
use Rattle.tx_actors.specs.Machine.{appending, State, Input, step, steps, numbered, events_of, opened_at, IsAboveKnown}

-- the table of minitransactions fits what was begun
abbrev pub IsFitting : Setting → World → Type 0
IsFitting s w = (t : ℕ) → In t w.begun → IsLive s t → IsMini (s.mini t)

-- it holds of every state that the actors reach from any opening by any inputs
abbrev pub AlwaysReached : (Setting → State → Type 0) → Type 0
AlwaysReached P = (s : Setting) (log : List Entry) (image : Memory) (next : ℕ → ℕ) → IsOpening s log image → IsAboveKnown s next
    → (inputs : List Input) → IsFitting s (steps s (opened_at s log image next) inputs).world → P s (steps s (opened_at s log image next) inputs)

-- every state that the actors reach is reached by a run of the rules: so all that holds of those holds of the actors
abbrev pub StatesAreRuns : Type 0
StatesAreRuns = (s : Setting) (log : List Entry) (image : Memory) (next : ℕ → ℕ) → IsOpening s log image → IsAboveKnown s next
    → (inputs : List Input) → IsFitting s (steps s (opened_at s log image next) inputs).world
    → IsRun s (opened s log image) (events_of s (opened_at s log image next) inputs)
    × ((steps s (opened_at s log image next) inputs).world ≡ after_all s (opened s log image) (events_of s (opened_at s log image next) inputs))

-- what was begun is below the least identifier that its coordinator may begin next
abbrev pub BegunIsBelow : Type 0
BegunIsBelow = AlwaysReached (λ s st. (t : ℕ) → In t st.world.begun → t < (st.coordinator (s.coord t)).next)

-- one input makes one point at most
abbrev pub OnePointAnInput : Type 0
OnePointAnInput = (s : Setting) (st : State) (input : Input)
    → (new : List ℕ) × ((step s st input).world.points ≡ new ++ st.world.points) × (length new ≤ 1)

-- a counted vote is a participant's, and was posted
abbrev pub IsVote : Setting → World → ℕ → ℕ × List (List ℕ) → Type 0
IsVote s w t v = In v.0 (nodes_of s t) × (In (Granted v.0 t v.1) w.posted ⊎ In (Looked v.0 t v.1) w.posted)

-- what an outcome means: Committed has the votes of all participants, and its identifier is committed, but for one
-- participant without a write item; another outcome is the posted vote of a participant, and has its identifier
-- aborted, with the same exception
abbrev pub OutcomeStands : Setting → World → Outcome → Type 0
OutcomeStands s w (Committed t votes) =
    In t w.begun × IsLive s t × (IsCommitted s w.log t ⊎ IsReader s t) × ((v : ℕ × List (List ℕ)) → In v votes → IsVote s w t v)
    × ((m : ℕ) → In m (nodes_of s t) → In m (map (λ v. v.0) votes))
OutcomeStands s w (Failed t m why) =
    In t w.begun × IsLive s t × (IsAborted s w.log t ⊎ IsReader s t) × In m (nodes_of s t) × In (Refused m t why) w.posted

-- every outcome means what it says
abbrev pub OutcomesStand : Type 0
OutcomesStand = AlwaysReached (λ s st. (outcome : Outcome) → In outcome st.outcomes → OutcomeStands s st.world outcome)

-- outcomes stay
abbrev pub OutcomesStay : Type 0
OutcomesStay = (s : Setting) (st : State) (inputs : List Input) (outcome : Outcome) → In outcome st.outcomes → In outcome (steps s st inputs).outcomes

-- what ended otherwise than committed is never committed
abbrev pub FailedNeverCommits : Type 0
FailedNeverCommits = AlwaysReached (λ s st. (t m : ℕ) (why : Reason) → In (Failed t m why) st.outcomes → ¬ IsCommitted s st.world.log t)

-- why it was refused held when the vote was cast
abbrev pub FailuresHadTheirReason : Type 0
FailuresHadTheirReason = (s : Setting) (log : List Entry) (image : Memory) (next : ℕ → ℕ) → IsOpening s log image → IsAboveKnown s next
    → (inputs : List Input) → IsFitting s (steps s (opened_at s log image next) inputs).world
    → (t m : ℕ) (why : Reason) → In (Failed t m why) (steps s (opened_at s log image next) inputs).outcomes
    → WasCast s (opened s log image) (events_of s (opened_at s log image next) inputs) m t why

-- the bytes of the counted votes are those of the flat memory just before the point
abbrev pub CommittedReadsAreFlat : Type 0
CommittedReadsAreFlat = AlwaysReached (λ s st. (t : ℕ) (votes : List (ℕ × List (List ℕ))) → In (Committed t votes) st.outcomes → IsLogged s t
    → (later before : List ℕ) → st.world.points ≡ later ++ t ∷ before
    → (v : ℕ × List (List ℕ)) → In v votes → v.1 ≡ reads_of s t v.0 (flat s before v.0))

-- those of a posted vote without an entry are those of the flat memory just before it was posted itself, by its number
-- among all messages
abbrev pub LooksHaveTheirMoment : Type 0
LooksHaveTheirMoment = (s : Setting) (log : List Entry) (image : Memory) (next : ℕ → ℕ) → IsOpening s log image → IsAboveKnown s next
    → (inputs : List Input) → IsFitting s (steps s (opened_at s log image next) inputs).world
    → (k m t : ℕ) (bytes : List (List ℕ)) → numbered (steps s (opened_at s log image next) inputs).world.posted k ≡ Some (Looked m t bytes)
    → (first rest : List Event) × (events_of s (opened_at s log image next) inputs ≡ first ++ Posts (Looked m t bytes) ∷ rest)
    × (length (after_all s (opened s log image) first).posted ≡ k)
    × (bytes ≡ reads_of s t m (flat s (after_all s (opened s log image) first).points m))
    × Matches s t m (flat s (after_all s (opened s log image) first).points m)

-- so they are those of the flat memory just before the input that posts it
abbrev pub LooksHaveTheirInput : Type 0
LooksHaveTheirInput = (s : Setting) (log : List Entry) (image : Memory) (next : ℕ → ℕ) → IsOpening s log image → IsAboveKnown s next
    → (inputs : List Input) → IsFitting s (steps s (opened_at s log image next) inputs).world
    → (k m t : ℕ) (bytes : List (List ℕ)) → numbered (steps s (opened_at s log image next) inputs).world.posted k ≡ Some (Looked m t bytes)
    → (earlier : List Input) × (input : Input) × (later : List Input) × (inputs ≡ earlier ++ input ∷ later)
    × (length (steps s (opened_at s log image next) earlier).world.posted ≡ k)
    × (bytes ≡ reads_of s t m (flat s (steps s (opened_at s log image next) earlier).world.points m))
    × Matches s t m (flat s (steps s (opened_at s log image next) earlier).world.points m)

-- those of a minitransaction of one participant without a write item are those of the flat memory at a moment of the
-- run, at which it matched that memory
abbrev pub LooksOfOutcomesAreFlat : Type 0
LooksOfOutcomesAreFlat = (s : Setting) (log : List Entry) (image : Memory) (next : ℕ → ℕ) → IsOpening s log image → IsAboveKnown s next
    → (inputs : List Input) → IsFitting s (steps s (opened_at s log image next) inputs).world
    → (t : ℕ) (votes : List (ℕ × List (List ℕ))) → In (Committed t votes) (steps s (opened_at s log image next) inputs).outcomes → IsReader s t
    → (v : ℕ × List (List ℕ)) → In v votes
    → (first rest : List Event) × (events_of s (opened_at s log image next) inputs ≡ first ++ Posts (Looked v.0 t v.1) ∷ rest)
    × (v.1 ≡ reads_of s t v.0 (flat s (after_all s (opened s log image) first).points v.0))
    × Matches s t v.0 (flat s (after_all s (opened s log image) first).points v.0)

-- what a memory node appends when any posted message reaches it, it may append by the rules
abbrev pub ReactionsAreAllowed : Type 0
ReactionsAreAllowed = AlwaysReached (λ s st. (m : ℕ) (held : Option ℕ) (message : Message) → In message st.world.posted
    → IsRun s st.world (appending s st.world m (handle s m held (view st.world m) message).appends))

-- the state that a memory node takes from its records says what its log says
abbrev pub UndecidedIsOpen : Type 0
UndecidedIsOpen = (log : List Entry) (m t : ℕ) → (is_undecided (own m log) t ≡ true) ↔ IsOpen log m t

-- above the floor is what was not passed
abbrev pub AboveIsNotPassed : Type 0
AboveIsNotPassed = (s : Setting) (log : List Entry) (m t : ℕ) → (standing s (own m log) t ≡ Above) ↔ (¬ IsPassed s log m t)

-- the floor is the greatest identifier of its coordinator that was cast, with its vote, where there is one
abbrev pub FloorsAreGreatest : Type 0
FloorsAreGreatest = (s : Setting) (rs : List Record) (c : ℕ)
    → (floor_of s rs c ≡ None → (u : ℕ) (vote : Option Reason) → In (cast_as vote u) rs → ¬ (s.coord u ≡ c))
    × ((t : ℕ) (vote : Option Reason) → floor_of s rs c ≡ Some (t, vote)
    → In (cast_as vote t) rs × (s.coord t ≡ c) × ((u : ℕ) (other : Option Reason) → In (cast_as other u) rs → s.coord u ≡ c → u ≤ t))

-- a record is kept exactly where it was granted, has several participants, and was not forgotten
abbrev pub RecordsAreKept : Type 0
RecordsAreKept = (s : Setting) (log : List Entry) (m t : ℕ)
    → (is_kept s m (own m log) t ≡ true) ↔ (IsGranted log m t × (has_several (participants_at s m t) ≡ true) × (¬ In (At m (Forget t)) log))

-- of an identifier of which something is claimed the record names its participants
abbrev pub LiveAreNamedByAll : Type 0
LiveAreNamedByAll = (s : Setting) (m t : ℕ) → IsLive s t → participants_at s m t ≡ nodes_of s t

-- what the memory nodes hold after a run is what the records that it added make of what they held before: so a memory
-- node that has lost all but its log and its stored image has its image again
abbrev pub ImagesAreReplayed : Type 0
ImagesAreReplayed = (s : Setting) (w : World) (events : List Event)
    → (new : List Entry) × ((after_all s w events).log ≡ new ++ w.log)
    × ((m a : ℕ) → (after_all s w events).image m a ≡ replayed s m (own m new) (w.image m) a)

-- a memory node has what its records make of what it had, and what happens elsewhere changes nothing of it
abbrev pub AppendingMakes : Type 0
AppendingMakes = (s : Setting) (m : ℕ) (w : World) (rs : List Record) → view (after_all s w (appending s w m rs)) m ≡ after_records s m (view w m) rs

abbrev pub OthersChangeNothing : Type 0
OthersChangeNothing = (s : Setting) (m : ℕ) (w : World) (events : List Event) → AllElsewhere m events → view (after_all s w events) m ≡ view w m

-- a message keeps its number when more are posted
abbrev pub NumbersStay : Type 0
NumbersStay = (later posted : List Message) (k : ℕ) (message : Message) → numbered posted k ≡ Some message → numbered (later ++ posted) k ≡ Some message

-- inputs, and then more inputs
abbrev pub StepsJoin : Type 0
StepsJoin = (s : Setting) (st : State) (first more : List Input) → steps s st (first ++ more) ≡ steps s (steps s st first) more
