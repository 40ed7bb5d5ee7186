-- What a line of a schedule says: reading it word by word from the left.
use Rattle.std.specs.Prelude.{ℕ, if◌then◌else◌, List, [], ◌∷◌, codes, Option, Some, None}
use Rattle.std.specs.Str.{bytes_eq}
use Rattle.line_words.specs.Words.{words_of}
use Rattle.line_words.specs.Reading.{◌>>=◌, either, number_at, after_word, last_bytes, last_byte, at_end}
use Rattle.mini_tx.specs.declared.actor.Actor.{Actor}
use Rattle.mini_tx.specs.declared.actor.Actor.TheVariants.{Node, Memory, Manager}
use Rattle.event_text.specs.declared.event.Event.{Event}
use Rattle.event_text.specs.declared.event.Event.TheVariants as event
use Rattle.event_text.specs.declared.start_choice.StartChoice.{StartChoice}
use Rattle.event_text.specs.declared.start_choice.StartChoice.TheVariants.{Old, New, Fill}

-- ---- parts of lines

-- this actor, of the number of the first word
abbrev pub numbered_actor : (ℕ → Actor) → List (List ℕ) → Option (Actor × List (List ℕ))
numbered_actor make words = do
  n ← number_at 32 words
  Some (make n.0, n.1)

-- an actor that is named with its kind, and the words after it
unfoldable pub actor_at : List (List ℕ) → Option (Actor × List (List ℕ))
actor_at [] = None
actor_at (name ∷ words) =
    if bytes_eq name (codes "node") then numbered_actor Node words
    else if bytes_eq name (codes "memory") then numbered_actor Memory words
    else if bytes_eq name (codes "manager") then Some (Manager, words)
    else None

-- the node whose number is the last word
abbrev pub last_node : List (List ℕ) → Option Actor
last_node words = do
  n ← number_at 32 words
  at_end (Node n.0) n.1

-- a node, which goes without its kind, or the manager
unfoldable pub who_of : List (List ℕ) → Option Actor
who_of words = either (after_word (codes "manager") words) (at_end Manager) (last_node words)

-- the stop after its name
abbrev pub calls_of : List (List ℕ) → Option (Option ℕ)
calls_of words = do
  calls ← number_at 32 words
  at_end (Some calls.0) calls.1

-- a stop, or none
unfoldable pub stop_of : List (List ℕ) → Option (Option ℕ)
stop_of words = either (after_word (codes "stop") words) calls_of (at_end None words)

-- a filling byte
abbrev pub fill_of : List (List ℕ) → Option StartChoice
fill_of words = do
  byte ← last_byte words
  Some (Fill byte)

-- what the disk of a memory node holds
unfoldable pub choice_of : List (List ℕ) → Option StartChoice
choice_of [] = None
choice_of (name ∷ words) =
    if bytes_eq name (codes "old") then at_end Old words
    else if bytes_eq name (codes "new") then at_end New words
    else if bytes_eq name (codes "fill") then fill_of words
    else None

-- and that of this actor
abbrev pub choice_for : Actor → List (List ℕ) → Option StartChoice
choice_for (Node n) words = at_end Old words
choice_for (Memory m) words = choice_of words
choice_for Manager words = at_end Old words

-- ---- lines, by the words after their names

unfoldable pub cluster_of : List (List ℕ) → Option Event
cluster_of words = do
  nodes ← number_at 32 words
  memories ← number_at 32 nodes.1
  blocks ← number_at 32 memories.1
  inodes ← number_at 32 blocks.1
  at_end (event.Cluster nodes.0 memories.0 blocks.0 inodes.0) inodes.1

unfoldable pub arrive_of : List (List ℕ) → Option Event
arrive_of words = do
  node ← number_at 32 words
  sec ← number_at 32 node.1
  usec ← number_at 32 sec.1
  bytes ← last_bytes usec.1
  Some (event.Arrive node.0 sec.0 usec.0 bytes)

unfoldable pub deliver_of : List (List ℕ) → Option Event
deliver_of words = do
  k ← number_at 64 words
  stop ← stop_of k.1
  Some (event.Deliver k.0 stop)

-- an event with one number, which ends its line
abbrev pub counted_of : ℕ → (ℕ → Event) → List (List ℕ) → Option Event
counted_of bits make words = do
  n ← number_at bits words
  at_end (make n.0) n.1

-- an event of a node or the manager
abbrev pub of_who : (Actor → Event) → List (List ℕ) → Option Event
of_who make words = do
  who ← who_of words
  Some (make who)

unfoldable pub crash_of : List (List ℕ) → Option Event
crash_of words = do
  who ← actor_at words
  at_end (event.Crash who.0) who.1

unfoldable pub start_of : List (List ℕ) → Option Event
start_of words = do
  who ← actor_at words
  choice ← choice_for who.0 who.1
  Some (event.Start who.0 choice)

-- what is done to actors, by the name of the line and the words after it
unfoldable pub control_of : List ℕ → List (List ℕ) → Option Event
control_of name words =
    if bytes_eq name (codes "giveup") then of_who event.GiveUp words
    else if bytes_eq name (codes "resend") then of_who event.Resend words
    else if bytes_eq name (codes "crash") then crash_of words
    else if bytes_eq name (codes "start") then start_of words
    else if bytes_eq name (codes "sweep") then counted_of 32 event.Sweep words
    else if bytes_eq name (codes "checkpoint") then counted_of 32 event.Checkpoint words
    else if bytes_eq name (codes "backup") then at_end event.Backup words
    else if bytes_eq name (codes "show") then counted_of 32 event.Show words
    else None

-- what is told where it is handled, by the name of the line and the words after it
unfoldable pub told_of : List ℕ → List (List ℕ) → Option Event
told_of name words =
    if bytes_eq name (codes "deliver") then deliver_of words
    else if bytes_eq name (codes "lose") then counted_of 64 event.Lose words
    else control_of name words

-- the event of which these are the words, where it is one that is told so
abbrev pub told_of_words : List (List ℕ) → Option Event
told_of_words [] = None
told_of_words (name ∷ words) = told_of name words

-- the event of which these are the words
unfoldable pub event_of_words : List (List ℕ) → Option Event
event_of_words [] = None
event_of_words (name ∷ words) =
    if bytes_eq name (codes "cluster") then cluster_of words
    else if bytes_eq name (codes "arrive") then arrive_of words
    else if bytes_eq name (codes "drain") then counted_of 32 event.Drain words
    else if bytes_eq name (codes "end") then at_end event.End words
    else told_of name words

-- the event that a line of a schedule spells
unfoldable pub event_of : List ℕ → Option Event
event_of text = event_of_words (words_of text)
