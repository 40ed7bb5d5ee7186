-- What holds of every run of the protocol, from any opening.
use Rattle.std.specs.Prelude.{◌≡◌, ℕ, List, [], ◌∷◌, ◌++◌, filter, ◌⊎◌, ◌↔◌, ⊤}
use Rattle.tx_rules.specs.Mini.{In, Memory, Setting, nodes_of, cells_of, IsLive, IsFresh, reads_of, Matches, IsMismatch, AreApart, flat}
use Rattle.tx_rules.specs.Decision.{Reason, Mismatch, Record, Entry, At, named_in, Commit, Abort, Forget, IsOpen, IsCommitted, IsAborted, IsOver}
use Rattle.tx_rules.specs.World.{Message, Granted, Looked, Refused, World, opened, IsOutdated, HasReason, Promises, Event, Begins, Refuses, Posts, May, IsRun, after_all}
use Rattle.tx_rules.specs.Opening.{IsPending, IsOpening, IsFormatted}

-- it holds at every moment of every run of every opening
abbrev pub AlwaysHolds : (Setting → World → Type 0) → Type 0
AlwaysHolds P = (s : Setting) (log : List Entry) (image : Memory) → IsOpening s log image
    → (events : List Event) → IsRun s (opened s log image) events → P s (after_all s (opened s log image) events)

-- a cluster that is formatted opens
abbrev pub FormattedOpens : Type 0
FormattedOpens = (s : Setting) → IsFormatted s → IsOpening s [] s.start

-- an identifier begins once: where one begins in a run, it was not begun before
abbrev pub BeginningsAreNew : Type 0
BeginningsAreNew = (s : Setting) (w : World) (events : List Event) → IsRun s w events → (first rest : List Event) (t : ℕ)
    → events ≡ first ++ Begins t ∷ rest → ¬ In t (after_all s w first).begun

-- what an entry names was begun
abbrev pub NamedWasBegun : Type 0
NamedWasBegun = AlwaysHolds (λ s w. (m : ℕ) (r : Record) → In (At m r) w.log → In (named_in r) w.begun)

-- one world has what the other has, behind what was added
pub record HasAdded (w v : World) : Type 0 where
  pub begun : (new : List ℕ) × (v.begun ≡ new ++ w.begun)
  pub log : (new : List Entry) × (v.log ≡ new ++ w.log)
  pub points : (new : List ℕ) × (v.points ≡ new ++ w.points)
  pub posted : (new : List Message) × (v.posted ≡ new ++ w.posted)

-- a run only adds: what is begun, logged and posted, and the points, grow at their front
abbrev pub RunsOnlyAdd : Type 0
RunsOnlyAdd = (s : Setting) (w : World) (events : List Event) → HasAdded w (after_all s w events)

-- ---- decisions

-- committed and aborted exclude each other
abbrev pub DecisionsExclude : Type 0
DecisionsExclude = (s : Setting) (log : List Entry) (t : ℕ) → IsCommitted s log t → ¬ IsAborted s log t

-- they never change, and what every participant is through with stays so
abbrev pub DecisionsStay : Type 0
DecisionsStay = (s : Setting) (w : World) (events : List Event) → IsRun s w events → (t : ℕ)
    → (IsCommitted s w.log t → IsCommitted s (after_all s w events).log t)
    × (IsAborted s w.log t → IsAborted s (after_all s w events).log t)
    × (IsOver s w.log t → IsOver s (after_all s w events).log t)

-- every logged decision agrees with what is decided
abbrev pub LoggedDecisionsAgree : Type 0
LoggedDecisionsAgree = AlwaysHolds (λ s w. (m t : ℕ) → IsLive s t
    → (In (At m (Commit t)) w.log → IsCommitted s w.log t) × (In (At m (Abort t)) w.log → IsAborted s w.log t))

-- where an identifier is forgotten anywhere, every participant is through with it
abbrev pub ForgottenIsOver : Type 0
ForgottenIsOver = AlwaysHolds (λ s w. (m t : ℕ) → IsLive s t → In (At m (Forget t)) w.log → IsOver s w.log t)

-- every posted message keeps its promise
abbrev pub PromisesAreKept : Type 0
PromisesAreKept = AlwaysHolds (λ s w. (message : Message) → In message w.posted → Promises s w message)

-- Granted votes of all participants make an identifier committed
abbrev pub VotesCommit : Type 0
VotesCommit = AlwaysHolds (λ s w. (t : ℕ)
    → ((m : ℕ) → In m (nodes_of s t) → (bytes : List (List ℕ)) × In (Granted m t bytes) w.posted) → IsCommitted s w.log t)

-- after another vote of a participant on the newest identifier of its coordinator, it never commits
abbrev pub RefusedNeverCommits : Type 0
RefusedNeverCommits = AlwaysHolds (λ s w. (m t : ℕ) (why : Reason) → In (Refused m t why) w.posted → In m (nodes_of s t) → ¬ IsOutdated s w t
    → (events : List Event) → IsRun s w events → ¬ IsCommitted s (after_all s w events).log t)

-- ---- locks

-- undecided records of different identifiers touch no common cell, where one of them was begun since the opening
abbrev pub LocksAreApart : Type 0
LocksAreApart = AlwaysHolds (λ s w. (m t u : ℕ) → IsFresh s t → IsOpen w.log m t → IsOpen w.log m u → ¬ (t ≡ u) → AreApart s m t u)

-- where those that were found touch no common cell, none ever do
abbrev pub LocksStayApart : Type 0
LocksStayApart = (s : Setting) (log : List Entry) (image : Memory) → IsOpening s log image
    → ((m t u : ℕ) → IsOpen log m t → IsOpen log m u → ¬ (t ≡ u) → AreApart s m t u)
    → (events : List Event) → IsRun s (opened s log image) events
    → (m t u : ℕ) → IsOpen (after_all s (opened s log image) events).log m t → IsOpen (after_all s (opened s log image) events).log m u
    → ¬ (t ≡ u) → AreApart s m t u

-- ---- the flat history

-- no element stands twice in the list
abbrev pub IsDistinct : List ℕ → Type 0
IsDistinct [] = ⊤
IsDistinct (t ∷ ts) = (¬ In t ts) × IsDistinct ts

-- an identifier that was begun since the opening and is committed
pub record IsPoint (s : Setting) (w : World) (t : ℕ) : Type 0 where
  pub begun : In t w.begun
  pub fresh : IsFresh s t
  pub committed : IsCommitted s w.log t

-- the points are the committed identifiers that were begun since the opening, none twice
abbrev pub PointsAreTheCommitted : Type 0
PointsAreTheCommitted = AlwaysHolds (λ s w. IsDistinct w.points × ((t : ℕ) → In t w.points ↔ IsPoint s w t))

-- each minitransaction of the list, newest first, matches the flat memory after those before it
abbrev pub AllMatch : Setting → List ℕ → Type 0
AllMatch s [] = ⊤
AllMatch s (t ∷ points) = ((m : ℕ) → In m (nodes_of s t) → Matches s t m (flat s points m)) × AllMatch s points

-- every minitransaction matches the memory that it is applied to
abbrev pub PointsMatch : Type 0
PointsMatch = AlwaysHolds (λ s w. AllMatch s w.points)

-- the flat history: the points that have a write item, newest first
abbrev pub history : Setting → List ℕ → List ℕ
history s points = filter (λ t. (s.mini t).has_write) points

-- after each point it gives the same flat memory as all points so far, and each of its minitransactions matches the
-- memory that it is applied to
abbrev pub HistoryIsFlat : Type 0
HistoryIsFlat = AlwaysHolds (λ s w. ((later before : List ℕ) → w.points ≡ later ++ before → (m a : ℕ) → flat s (history s before) m a ≡ flat s before m a)
    × AllMatch s (history s w.points))

-- where two identifiers are undecided at all their participants, the order of their points makes no difference
abbrev pub OpenPointsTrade : Type 0
OpenPointsTrade = AlwaysHolds (λ s w. (t u : ℕ) → IsFresh s t → IsFresh s u → ¬ (t ≡ u) → In t w.begun → In u w.begun
    → ((m : ℕ) → In m (nodes_of s t) → IsOpen w.log m t) → ((m : ℕ) → In m (nodes_of s u) → IsOpen w.log m u)
    → (points : List ℕ) (m a : ℕ) → flat s (t ∷ u ∷ points) m a ≡ flat s (u ∷ t ∷ points) m a)

-- ---- reads and images

-- the bytes of a Granted vote are those of the flat memory just before the point
abbrev pub ReadsAreFlat : Type 0
ReadsAreFlat = AlwaysHolds (λ s w. (m t : ℕ) (bytes : List (List ℕ)) → In (Granted m t bytes) w.posted → In m (nodes_of s t)
    → (later before : List ℕ) → w.points ≡ later ++ t ∷ before → bytes ≡ reads_of s t m (flat s before m))

-- those of a Granted vote without an entry are those of the flat memory at the moment when it is posted, and the
-- minitransaction matches that memory
abbrev pub LooksAreFlat : Type 0
LooksAreFlat = AlwaysHolds (λ s w. (m t : ℕ) (bytes : List (List ℕ)) → May s w (Posts (Looked m t bytes))
    → (bytes ≡ reads_of s t m (flat s w.points m)) × Matches s t m (flat s w.points m))

-- so each that was posted has this moment in the run: the one at which it was posted itself, behind the same messages
abbrev pub LooksHadTheirMoment : Type 0
LooksHadTheirMoment = (s : Setting) (log : List Entry) (image : Memory) → IsOpening s log image
    → (events : List Event) → IsRun s (opened s log image) events
    → (m t : ℕ) (bytes : List (List ℕ)) (later before : List Message)
    → (after_all s (opened s log image) events).posted ≡ later ++ Looked m t bytes ∷ before
    → (first rest : List Event) × (events ≡ first ++ Posts (Looked m t bytes) ∷ rest)
    × ((after_all s (opened s log image) first).posted ≡ before)
    × (bytes ≡ reads_of s t m (flat s (after_all s (opened s log image) first).points m))
    × Matches s t m (flat s (after_all s (opened s log image) first).points m)

-- the flat memory has the writes that committed identifiers still have to come at a memory node; elsewhere it is what
-- the memory nodes hold
abbrev pub ImagesAreFlat : Type 0
ImagesAreFlat = AlwaysHolds (λ s w. (m a : ℕ)
    → ((t v : ℕ) → IsPending s w.log w.points m a t v → flat s w.points m a ≡ v)
    × (((t v : ℕ) → ¬ IsPending s w.log w.points m a t v) → flat s w.points m a ≡ w.image m a))

-- so a cell that no undecided record touches is what the memory node holds
abbrev pub UnlockedIsFlat : Type 0
UnlockedIsFlat = AlwaysHolds (λ s w. (m a : ℕ) → ((t : ℕ) → IsOpen w.log m t → ¬ In a (cells_of s t m)) → w.image m a ≡ flat s w.points m a)

-- ---- refusals

-- the reason of a vote that is not Granted, as the flat memory tells it: a mismatch is one in that memory
abbrev pub HasFlatReason : Setting → World → ℕ → ℕ → Reason → Type 0
HasFlatReason s w m t (Mismatch item) = IsMismatch s t m (flat s w.points m) item
HasFlatReason s w m t why = HasReason s w m t why

-- in these events the vote was cast, with its entry or by the message alone, when its reason held
pub record WasCast (s : Setting) (w : World) (events : List Event) (m t : ℕ) (why : Reason) : Type 0 where
  pub first : List Event
  pub cast : Event
  pub rest : List Event
  pub split : events ≡ first ++ cast ∷ rest
  pub kind : (cast ≡ Refuses m t why) ⊎ (cast ≡ Posts (Refused m t why))
  pub reason : HasFlatReason s (after_all s w first) m t why

-- each posted vote that is not Granted was cast in the run, and its reason held then: so one that is sent again tells
-- why it was refused at first
abbrev pub RefusalsHadTheirReason : Type 0
RefusalsHadTheirReason = (s : Setting) (log : List Entry) (image : Memory) → IsOpening s log image
    → (events : List Event) → IsRun s (opened s log image) events
    → (m t : ℕ) (why : Reason) → In (Refused m t why) (after_all s (opened s log image) events).posted
    → WasCast s (opened s log image) events m t why
