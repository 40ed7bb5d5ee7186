-- The transaction protocol as rules over what was begun, logged and posted. No actor has a state here: each rule says
-- what may be added, given what is there.
use Rattle.std.specs.Prelude.{◌≡◌, ℕ, ◌<◌, ◌==◌, cond, ◌&&◌, List, [], ◌∷◌, ◌++◌, ◌⊎◌, ⊤}
use Rattle.tx_rules.specs.Mini.{In, Memory, IsMini, Setting, nodes_of, cells_of, IsLive, IsFresh, HasSeveral, IsLogged, IsReader, reads_of, Matches, IsMismatch, AreApart, with_writes}
use Rattle.tx_rules.specs.Decision.{Reason, Forced, Held, Locked, Mismatch, Record, Grant, Refuse, Commit, Abort, Forget, Entry, At, IsGranted, IsPassed, IsBelow, IsRefused, IsDecided, IsOpen, IsCommitted, IsAborted, IsThrough, IsOver}

-- a message, by its kind. Those of a memory node name it first; the others go to every participant of the identifier
-- that they name, and `List` goes to one memory node
pub data Message : Type 0 where
  Prepare : ℕ → Message
  -- a Granted vote that has an entry, with the bytes of each read item
  Granted : ℕ → ℕ → List (List ℕ) → Message
  -- a Granted vote without an entry: of one participant without a write item
  Looked : ℕ → ℕ → List (List ℕ) → Message
  -- any other vote, and why
  Refused : ℕ → ℕ → Reason → Message
  DecideCommit : ℕ → Message
  DecideAbort : ℕ → Message
  Done : ℕ → ℕ → Message
  Forgotten : ℕ → Message
  ListKept : Message
  -- identifiers, each with its participants
  Kept : ℕ → List (ℕ × List ℕ) → Message
  Ask : ℕ → Message
  AnswerOk : ℕ → ℕ → Message
  AnswerAbort : ℕ → ℕ → Message

-- what was begun, all logs and all points, newest first, and what was posted; what the memory nodes hold; and what a
-- memory node held when it granted an identifier, which its entry keeps of the cells that are read
pub record World : Type 0 where
  pub begun : List ℕ
  pub log : List Entry
  pub points : List ℕ
  pub posted : List Message
  pub image : Memory
  pub seen : ℕ → Memory

-- the world at an opening: these logs and images were found, and nothing is on its way
abbrev pub opened : Setting → List Entry → Memory → World
opened s log image = record { begun = s.found ++ s.old; log = log; points = []; posted = []; image = image; seen = λ t. image }

-- the coordinator of an identifier has begun a newer one
pub record IsOutdated (s : Setting) (w : World) (t : ℕ) : Type 0 where
  pub newer : ℕ
  pub begun : In newer w.begun
  pub same : s.coord newer ≡ s.coord t
  pub above : t < newer

-- an identifier is above all that its coordinator has begun
abbrev pub IsNew : Setting → World → ℕ → Type 0
IsNew s w t = (u : ℕ) → In u w.begun → s.coord u ≡ s.coord t → u < t

-- someone has asked about an identifier, or decided to abort it
abbrev pub IsCalledOff : World → ℕ → Type 0
IsCalledOff w t = In (Ask t) w.posted ⊎ In (DecideAbort t) w.posted

-- no lock at a memory node is in the way of an identifier
abbrev pub IsUnlocked : Setting → World → ℕ → ℕ → Type 0
IsUnlocked s w m t = (u : ℕ) → IsOpen w.log m u → AreApart s m t u

-- an undecided record that touches a cell of the identifier
pub record IsInTheWay (s : Setting) (w : World) (m t holder : ℕ) : Type 0 where
  pub undecided : IsOpen w.log m holder
  pub cell : ℕ
  pub asked : In cell (cells_of s t m)
  pub locked : In cell (cells_of s holder m)

-- a memory node finds the reason: a floor above the identifier, or someone has called off this very identifier; an
-- undecided record is in the way; or no record is, and a compare item differs. Of cuts nothing is known here
abbrev pub HasReason : Setting → World → ℕ → ℕ → Reason → Type 0
HasReason s w m t (Forced floor) = IsBelow s w.log m t floor ⊎ ((floor ≡ t) × IsCalledOff w t)
HasReason s w m t (Held cut) = ⊤
HasReason s w m t (Locked holder) = IsInTheWay s w m t holder
HasReason s w m t (Mismatch item) = IsUnlocked s w m t × IsMismatch s t m (w.image m) item

-- the reason is that a floor is above the identifier
abbrev pub IsForced : Setting → World → ℕ → ℕ → Reason → Type 0
IsForced s w m t (Forced floor) = IsBelow s w.log m t floor
IsForced s w m t why = ⊥

-- what a vote that is not Granted stands on from then on: its entry, and it is never granted there; or a floor above
-- it; or, of one participant without a write item, nothing
abbrev pub IsFounded : Setting → World → ℕ → ℕ → Reason → Type 0
IsFounded s w m t why = (In (At m (Refuse t why)) w.log × IsRefused s w.log m t) ⊎ (IsForced s w m t why ⊎ IsReader s t)

-- what an entry promises from then on
abbrev pub Stands : Setting → World → ℕ → Record → Type 0
Stands s w m (Grant t) = In m (nodes_of s t) × IsLogged s t
Stands s w m (Refuse t why) = ⊤
Stands s w m (Commit t) = IsGranted w.log m t × IsCommitted s w.log t
Stands s w m (Abort t) = IsGranted w.log m t × IsAborted s w.log t
Stands s w m (Forget t) = IsDecided w.log m t × IsOver s w.log t

-- what a posted message promises from then on, of identifiers of which something is claimed
abbrev pub Promises : Setting → World → Message → Type 0
Promises s w (Prepare t) = In t w.begun × IsFresh s t
Promises s w (Granted m t bytes) = In t w.begun × IsFresh s t × IsGranted w.log m t × (bytes ≡ reads_of s t m (w.seen t m))
Promises s w (Looked m t bytes) = In t w.begun × IsFresh s t × In m (nodes_of s t) × IsReader s t
Promises s w (Refused m t why) = In t w.begun × IsFresh s t × IsFounded s w m t why
Promises s w (DecideCommit t) = In t w.begun × (IsLive s t → HasSeveral s t × IsCommitted s w.log t)
Promises s w (DecideAbort t) = In t w.begun × (IsLive s t → HasSeveral s t × (IsAborted s w.log t ⊎ IsOver s w.log t))
Promises s w (Done m t) = In t w.begun × (IsLive s t → IsThrough s w.log m t)
Promises s w (Forgotten t) = In t w.begun × (IsLive s t → IsOver s w.log t)
Promises s w ListKept = ⊤
Promises s w (Kept m xs) = (x : ℕ × List ℕ) → In x xs → In x.0 w.begun × (IsLive s x.0 → HasSeveral s x.0 × (x.1 ≡ nodes_of s x.0))
Promises s w (Ask t) = In t w.begun × (IsLive s t → HasSeveral s t)
Promises s w (AnswerOk m t) = In t w.begun × (IsLive s t → IsGranted w.log m t)
Promises s w (AnswerAbort m t) = In t w.begun × (IsLive s t → IsRefused s w.log m t ⊎ IsOver s w.log t)

-- a memory node may grant an identifier: begun since the opening, at a participant, above the floor of its
-- coordinator, where no lock is in its way and all compare items match
pub record MayGrant (s : Setting) (w : World) (m t : ℕ) : Type 0 where
  pub begun : In t w.begun
  pub fresh : IsFresh s t
  pub participant : In m (nodes_of s t)
  pub logged : IsLogged s t
  pub above : ¬ IsPassed s w.log m t
  pub unlocked : IsUnlocked s w m t
  pub matching : Matches s t m (w.image m)

-- a memory node may vote Granted without an entry: where no lock is in the way and all compare items match, with
-- the bytes that stand there now
pub record MayLook (s : Setting) (w : World) (m t : ℕ) (bytes : List (List ℕ)) : Type 0 where
  pub unlocked : IsUnlocked s w m t
  pub matching : Matches s t m (w.image m)
  pub now : bytes ≡ reads_of s t m (w.image m)

-- what beside its promise holds of a message at the moment when it is posted
abbrev pub AtPosting : Setting → World → Message → Type 0
AtPosting s w (Looked m t bytes) = MayLook s w m t bytes
AtPosting s w (Refused m t why) = In (At m (Refuse t why)) w.log ⊎ HasReason s w m t why
AtPosting s w message = ⊤

-- what happens: an identifier begins; an entry is appended, a grant being one of two kinds: that of the last
-- participant makes the point of the identifier; a message is posted
pub data Event : Type 0 where
  Begins : ℕ → Event
  Grants : ℕ → ℕ → Event
  Completes : ℕ → ℕ → Event
  Refuses : ℕ → ℕ → Reason → Event
  Commits : ℕ → ℕ → Event
  Aborts : ℕ → ℕ → Event
  Forgets : ℕ → ℕ → Event
  Posts : Message → Event

-- when it may happen
abbrev pub May : Setting → World → Event → Type 0
May s w (Begins t) = IsNew s w t × IsMini (s.mini t)
May s w (Grants m t) = MayGrant s w m t × (¬ IsCommitted s (At m (Grant t) ∷ w.log) t)
May s w (Completes m t) = MayGrant s w m t × IsCommitted s (At m (Grant t) ∷ w.log) t
May s w (Refuses m t why) = In t w.begun × (¬ IsPassed s w.log m t) × HasReason s w m t why
May s w (Commits m t) = IsLive s t × IsOpen w.log m t × IsCommitted s w.log t
May s w (Aborts m t) = IsLive s t × IsOpen w.log m t × IsAborted s w.log t
May s w (Forgets m t) = In t w.begun × (IsLive s t → IsDecided w.log m t × IsOver s w.log t)
May s w (Posts message) = Promises s w message × AtPosting s w message

-- a memory with the write items of an identifier in place at one memory node
abbrev pub with_writes_at : Setting → ℕ → ℕ → Memory → Memory
with_writes_at s m t memory n = cond (n == m) (with_writes s t memory n) (memory n)

-- what was seen, with what a memory node holds when it grants an identifier
abbrev pub with_sight : World → ℕ → ℕ → ℕ → Memory
with_sight w m t u n = cond ((u == t) && (n == m)) (w.image n) (w.seen u n)

-- what it adds
abbrev pub after : Setting → World → Event → World
after s w (Begins t) = record w { begun = t ∷ w.begun }
after s w (Grants m t) = record w { log = At m (Grant t) ∷ w.log; seen = with_sight w m t }
after s w (Completes m t) = record w { log = At m (Grant t) ∷ w.log; points = t ∷ w.points; seen = with_sight w m t }
after s w (Refuses m t why) = record w { log = At m (Refuse t why) ∷ w.log }
after s w (Commits m t) = record w { log = At m (Commit t) ∷ w.log; image = with_writes_at s m t w.image }
after s w (Aborts m t) = record w { log = At m (Abort t) ∷ w.log }
after s w (Forgets m t) = record w { log = At m (Forget t) ∷ w.log }
after s w (Posts message) = record w { posted = message ∷ w.posted }

-- a list of events, oldest first, each of which may happen where the ones before it lead
abbrev pub IsRun : Setting → World → List Event → Type 0
IsRun s w [] = ⊤
IsRun s w (e ∷ events) = May s w e × IsRun s (after s w e) events

-- where they lead
abbrev pub after_all : Setting → World → List Event → World
after_all s w [] = w
after_all s w (e ∷ events) = after_all s (after s w e) events
