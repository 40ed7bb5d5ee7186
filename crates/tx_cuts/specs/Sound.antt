-- When the logs and images on disks are sound for a memory, in the terms of kept records.
use Rattle.std.specs.Prelude.{◌≡◌, ℕ, List, [], ◌∷◌, ◌++◌, map, Option, Some, None, ◌⊎◌, ◌↔◌, ⊤}
use Rattle.tx_rules.specs.Mini.{In, Memory, IsMini, Setting, nodes_of, IsLogged, flat}
use Rattle.tx_rules.specs.Decision.{Record, Commit, Abort, Forget, Entry, At, named_in, IsGranted, IsPassed, IsDecided, IsOpen}
use Rattle.tx_rules.specs.Opening.{IsOpening}
use Rattle.tx_rules.specs.World.{Message, IsRun, after_all}
use Rattle.tx_rules.specs.Laws.{AlwaysHolds}
use Rattle.tx_actors.specs.Node.{View, view, after_records, handle}
use Rattle.tx_actors.specs.Machine.{appending, State, Input, ToStoppingNode, numbered, steps}
use Rattle.tx_actors.specs.Laws.{AlwaysReached}
use Rattle.tx_cuts.specs.Laws.{AreDistinct, appending_all}

-- a memory node keeps the record of the identifier: it was granted, and is not forgotten
pub record IsKeptAt (log : List Entry) (m t : ℕ) : Type 0 where
  pub granted : IsGranted log m t
  pub remembered : ¬ In (At m (Forget t)) log

-- some memory node has an undecided record of the identifier
pub record IsUndecided (log : List Entry) (t : ℕ) : Type 0 where
  pub node : ℕ
  pub undecided : IsOpen log node t

-- all participants keep its record
abbrev pub IsKeptByAll : Setting → List Entry → ℕ → Type 0
IsKeptByAll s log t = (m : ℕ) → In m (nodes_of s t) → IsKeptAt log m t

-- what is asked of the logs, of an identifier with an undecided record anywhere: no log is damaged, so what is decided
-- or forgotten was granted; its kept records are its participants'; a memory node without one has not granted it; commit is logged
-- only where all participants keep its record; and abort only where one of them does not, and has its floor at it or above
pub record IsSoundOf (s : Setting) (log : List Entry) (t : ℕ) : Type 0 where
  pub whole : (m : ℕ) → IsDecided log m t ⊎ In (At m (Forget t)) log → IsGranted log m t
  pub participants : (m : ℕ) → IsKeptAt log m t → In m (nodes_of s t) × IsLogged s t
  pub kept : (m : ℕ) → IsGranted log m t → IsKeptAt log m t
  pub commit : (m : ℕ) → In (At m (Commit t)) log → IsKeptByAll s log t
  pub abort : (m : ℕ) → In (At m (Abort t)) log → (n : ℕ) × In n (nodes_of s t) × (¬ IsKeptAt log n t) × IsPassed s log n t

-- an undecided record of an identifier whose record all participants keep, that writes a cell
pub record IsToCome (s : Setting) (log : List Entry) (m a t v : ℕ) : Type 0 where
  pub undecided : IsOpen log m t
  pub all : IsKeptByAll s log t
  pub writes : (s.mini t).writes m a ≡ Some v

-- the logs and images are sound for a memory: it is the settled one, in which the writes that are to come stand
pub record IsSoundFor (s : Setting) (log : List Entry) (image memory : Memory) : Type 0 where
  pub identifiers : (t : ℕ) → IsUndecided log t → IsSoundOf s log t
  pub written : (m a t v : ℕ) → IsToCome s log m a t v → memory m a ≡ v
  pub settled : (m a : ℕ) → ((t v : ℕ) → ¬ IsToCome s log m a t v) → memory m a ≡ image m a

-- what an opening is told beside the logs: found are the identifiers with an undecided record, early those of them
-- whose record all participants keep, and all others that a log names are old
pub record IsTold (s : Setting) (log : List Entry) : Type 0 where
  pub known : (m : ℕ) (r : Record) → In (At m r) log → In (named_in r) s.found ⊎ In (named_in r) s.old
  pub found : (t : ℕ) → In t s.found → IsUndecided log t
  pub old : (t : ℕ) → In t s.old → ¬ IsUndecided log t
  pub early : (t : ℕ) → In t s.early ↔ (In t s.found × IsKeptByAll s log t)
  pub minis : (t : ℕ) → In t s.found → IsMini (s.mini t)

-- a cluster opens from what is sound, with the settled memory
abbrev pub SoundOpens : Type 0
SoundOpens = (s : Setting) (log : List Entry) (image : Memory) → IsTold s log → IsSoundFor s log image s.start → IsOpening s log image

-- and what any run leaves at any moment is sound for the flat memory at that moment
abbrev pub RunsAreSound : Type 0
RunsAreSound = AlwaysHolds (λ s w. IsSoundFor s w.log w.image (flat s w.points))

-- and so is what several memory nodes leave that went down while they appended, whichever of these appends are
-- durable: for the flat memory with the points that they complete, behind those so far
abbrev pub CrashImagesAreSound : Type 0
CrashImagesAreSound = AlwaysHolds (λ s w. (durable : List (ℕ × List Record)) → AreDistinct durable
    → ((x : ℕ × List Record) → In x durable → IsRun s w (appending s w x.0 x.1))
    → IsSoundFor s (after_all s w (appending_all s w durable)).log (after_all s w (appending_all s w durable)).image
    (flat s (after_all s w (appending_all s w durable)).points)
    × ((new : List ℕ) × ((after_all s w (appending_all s w durable)).points ≡ new ++ w.points)))

-- ---- crashes of the actors

-- so what the actors reach is sound for the flat memory
abbrev pub StatesAreSound : Type 0
StatesAreSound = AlwaysReached (λ s st. IsSoundFor s st.world.log st.world.image (flat s st.world.points))

-- a memory node stops in handling the message with this number, while it holds this cut or none, when its records are
-- durable
pub record Stop : Type 0 where
  pub node : ℕ
  pub message : ℕ
  pub held : Option ℕ

abbrev pub stopping : Stop → Input
stopping x = ToStoppingNode x.message x.node x.held

-- no memory node stops twice
abbrev pub AreApartStops : List Stop → Type 0
AreApartStops [] = ⊤
AreApartStops (x ∷ stops) = ((y : Stop) → In y stops → ¬ (y.node ≡ x.node)) × AreApartStops stops

-- what a memory node has in its log and image then, by what it had and by the message
abbrev pub stopped_with : Setting → Stop → View → Option Message → View
stopped_with s x v None = v
stopped_with s x v (Some message) = after_records s x.node v (handle s x.node x.held v message).appends

-- a state in which memory nodes have stopped: it is sound for the flat memory with the points that their records
-- complete, behind those so far; each of them has what its own records make of what it had, and the others what they
-- had; and nothing is begun or posted
pub record IsCrashOf (s : Setting) (st : State) (stops : List Stop) (crashed : State) : Type 0 where
  pub sound : IsSoundFor s crashed.world.log crashed.world.image (flat s crashed.world.points)
  pub points : (new : List ℕ) × (crashed.world.points ≡ new ++ st.world.points)
  pub stopped : (x : Stop) → In x stops → view crashed.world x.node ≡ stopped_with s x (view st.world x.node) (numbered st.world.posted x.message)
  pub others : (m : ℕ) → ((x : Stop) → In x stops → ¬ (x.node ≡ m)) → view crashed.world m ≡ view st.world m
  pub begun : crashed.world.begun ≡ st.world.begun
  pub posted : crashed.world.posted ≡ st.world.posted

-- several memory nodes crash together, each with its records for a message durable: this is a state of the actors again,
-- whatever the order, and what is left is sound
abbrev pub CrashedStatesAreSound : Type 0
CrashedStatesAreSound = AlwaysReached (λ s st. (stops : List Stop) → AreApartStops stops → IsCrashOf s st stops (steps s st (map stopping stops)))
