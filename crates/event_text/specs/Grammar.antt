-- The lines of a schedule: the words of each event.
use Rattle.std.specs.Prelude.{◌≡◌, ℕ, ◌^◌, ◌<◌, List, [], ◌∷◌, codes, decimal, Option, Some, None}
use Rattle.sfs_base.specs.Reading.{IsBytes}
use Rattle.hex.specs.Hex.{encode_lower}
use Rattle.line_words.specs.Words.{text_of_words, HasDatagramLength}
use Rattle.mini_tx.specs.declared.actor.Actor.{Actor}
use Rattle.mini_tx.specs.declared.actor.Actor.TheVariants.{Node, Memory, Manager}
use Rattle.event_text.specs.declared.event.Event.{Event}
use Rattle.event_text.specs.declared.event.Event.TheVariants as event
use Rattle.event_text.specs.declared.start_choice.StartChoice.{StartChoice}
use Rattle.event_text.specs.declared.start_choice.StartChoice.TheVariants.{Old, New, Fill}

-- ---- the words

-- an actor, named with its kind
abbrev pub actor_words : Actor → List (List ℕ)
actor_words (Node n) = codes "node" ∷ decimal n ∷ []
actor_words (Memory m) = codes "memory" ∷ decimal m ∷ []
actor_words Manager = codes "manager" ∷ []

-- a node, which goes without its kind, or the manager
abbrev pub who_words : Actor → List (List ℕ)
who_words (Node n) = decimal n ∷ []
who_words (Memory m) = []
who_words Manager = codes "manager" ∷ []

-- what a disk holds at a start
abbrev pub choice_words : StartChoice → List (List ℕ)
choice_words Old = codes "old" ∷ []
choice_words New = codes "new" ∷ []
choice_words (Fill byte) = codes "fill" ∷ encode_lower (byte ∷ []) ∷ []

-- an actor that starts: of a memory node's disk it is said what it holds
abbrev pub start_words : Actor → StartChoice → List (List ℕ)
start_words (Node n) choice = codes "node" ∷ decimal n ∷ []
start_words (Memory m) choice = codes "memory" ∷ decimal m ∷ choice_words choice
start_words Manager choice = codes "manager" ∷ []

-- a stop within a delivery
abbrev pub stop_words : Option ℕ → List (List ℕ)
stop_words None = []
stop_words (Some calls) = codes "stop" ∷ decimal calls ∷ []

-- an event
unfoldable pub event_words : Event → List (List ℕ)
event_words (event.Cluster nodes memories blocks inodes) =
    codes "cluster" ∷ decimal nodes ∷ decimal memories ∷ decimal blocks ∷ decimal inodes ∷ []
event_words (event.Arrive node sec usec bytes) =
    codes "arrive" ∷ decimal node ∷ decimal sec ∷ decimal usec ∷ encode_lower bytes ∷ []
event_words (event.Deliver k stop) = codes "deliver" ∷ decimal k ∷ stop_words stop
event_words (event.Drain count) = codes "drain" ∷ decimal count ∷ []
event_words (event.Lose k) = codes "lose" ∷ decimal k ∷ []
event_words (event.GiveUp who) = codes "giveup" ∷ who_words who
event_words (event.Resend who) = codes "resend" ∷ who_words who
event_words (event.Crash who) = codes "crash" ∷ actor_words who
event_words (event.Start who choice) = codes "start" ∷ start_words who choice
event_words (event.Sweep memory) = codes "sweep" ∷ decimal memory ∷ []
event_words (event.Checkpoint memory) = codes "checkpoint" ∷ decimal memory ∷ []
event_words event.Backup = codes "backup" ∷ []
event_words (event.Show number) = codes "show" ∷ decimal number ∷ []
event_words event.End = codes "end" ∷ []

-- the line of an event
unfoldable pub spelling_of_event : Event → List ℕ
spelling_of_event e = text_of_words (event_words e)

-- ---- which events have a spelling

-- the number of an actor is within its type
abbrev pub IsTypedActor : Actor → Type 0
IsTypedActor (Node n) = n < 2 ^ 32
IsTypedActor (Memory m) = m < 2 ^ 32
IsTypedActor Manager = Unit {0}

-- the byte of a choice is one
abbrev pub IsTypedChoice : StartChoice → Type 0
IsTypedChoice Old = Unit {0}
IsTypedChoice New = Unit {0}
IsTypedChoice (Fill byte) = byte < 256

-- the number of a stop is within its type
abbrev pub IsTypedStop : Option ℕ → Type 0
IsTypedStop None = Unit {0}
IsTypedStop (Some calls) = calls < 2 ^ 32

-- the numbers and bytes of an event are within their types, as those of each value in a program are
abbrev pub IsTypedEvent : Event → Type 0
IsTypedEvent (event.Cluster nodes memories blocks inodes) =
    (nodes < 2 ^ 32) × (memories < 2 ^ 32) × (blocks < 2 ^ 32) × (inodes < 2 ^ 32)
IsTypedEvent (event.Arrive node sec usec bytes) = (node < 2 ^ 32) × (sec < 2 ^ 32) × (usec < 2 ^ 32) × IsBytes bytes
IsTypedEvent (event.Deliver k stop) = (k < 2 ^ 64) × IsTypedStop stop
IsTypedEvent (event.Drain count) = count < 2 ^ 32
IsTypedEvent (event.Lose k) = k < 2 ^ 64
IsTypedEvent (event.GiveUp who) = IsTypedActor who
IsTypedEvent (event.Resend who) = IsTypedActor who
IsTypedEvent (event.Crash who) = IsTypedActor who
IsTypedEvent (event.Start who choice) = IsTypedActor who × IsTypedChoice choice
IsTypedEvent (event.Sweep memory) = memory < 2 ^ 32
IsTypedEvent (event.Checkpoint memory) = memory < 2 ^ 32
IsTypedEvent event.Backup = Unit {0}
IsTypedEvent (event.Show number) = number < 2 ^ 32
IsTypedEvent event.End = Unit {0}

-- only nodes and the manager give up and post again
abbrev pub IsNoMemoryNode : Actor → Type 0
IsNoMemoryNode (Node n) = Unit {0}
IsNoMemoryNode (Memory m) = ⊥
IsNoMemoryNode Manager = Unit {0}

-- only of a memory node's disk anything but the former bytes may be said
abbrev pub IsChoiceOf : Actor → StartChoice → Type 0
IsChoiceOf (Node n) choice = choice ≡ Old
IsChoiceOf (Memory m) choice = Unit {0}
IsChoiceOf Manager choice = choice ≡ Old

-- an event that can be written: its bytes are as many as a datagram has, and its actor is one of those that it may name
abbrev pub IsWritableEvent : Event → Type 0
IsWritableEvent (event.Cluster nodes memories blocks inodes) = Unit {0}
IsWritableEvent (event.Arrive node sec usec bytes) = HasDatagramLength bytes
IsWritableEvent (event.Deliver k stop) = Unit {0}
IsWritableEvent (event.Drain count) = Unit {0}
IsWritableEvent (event.Lose k) = Unit {0}
IsWritableEvent (event.GiveUp who) = IsNoMemoryNode who
IsWritableEvent (event.Resend who) = IsNoMemoryNode who
IsWritableEvent (event.Crash who) = Unit {0}
IsWritableEvent (event.Start who choice) = IsChoiceOf who choice
IsWritableEvent (event.Sweep memory) = Unit {0}
IsWritableEvent (event.Checkpoint memory) = Unit {0}
IsWritableEvent event.Backup = Unit {0}
IsWritableEvent (event.Show number) = Unit {0}
IsWritableEvent event.End = Unit {0}

-- an event that a transcript tells as its line says it: none that opens or ends a schedule, is told otherwise, or is told as others
abbrev pub IsTold : Event → Type 0
IsTold (event.Cluster nodes memories blocks inodes) = ⊥
IsTold (event.Arrive node sec usec bytes) = ⊥
IsTold (event.Deliver k stop) = Unit {0}
IsTold (event.Drain count) = ⊥
IsTold (event.Lose k) = Unit {0}
IsTold (event.GiveUp who) = Unit {0}
IsTold (event.Resend who) = Unit {0}
IsTold (event.Crash who) = Unit {0}
IsTold (event.Start who choice) = Unit {0}
IsTold (event.Sweep memory) = Unit {0}
IsTold (event.Checkpoint memory) = Unit {0}
IsTold event.Backup = Unit {0}
IsTold (event.Show number) = Unit {0}
IsTold event.End = ⊥

-- an event that has a spelling
pub record HasEventSpelling (e : Event) : Type 0 where
  pub typed : IsTypedEvent e
  pub writable : IsWritableEvent e
