-- What an input of `tree` says.
use Rattle.std.specs.Prelude.{◌≡◌, ℕ, ◌*◌, ◌<◌, ◌==◌, false, ◌⊎◌, if◌then◌else◌, List, [], ◌∷◌, ◌++◌, length, Option, Some, None, option_and_then}
use Rattle.std.specs.List.{AllByRecursion}
use Rattle.fs_image.specs.Places.{layout_of}
use Rattle.fs_image.specs.Stands.{Stands}
use Rattle.fs_layout.specs.Places.{image_size}
use Rattle.fs_reader.specs.Numbers.{IsNoTree}
use Rattle.fs_rules.specs.declared.geometry.Geometry.{Geometry}
use Rattle.fs_rules.specs.Geometry.{within_limits}
use Rattle.event_text.specs.declared.event.Event.{Event}
use Rattle.event_text.specs.declared.event.Event.TheVariants as event
use Rattle.event_text.specs.Reading.{event_of}
use Rattle.tree_command.specs.declared.answer.Answer.{Answer}
use Rattle.tree_command.specs.declared.answer.Answer.TheVariants.{Listed, Faulty}
use Rattle.tree_command.specs.declared.input_fault.InputFault.TheVariants.{Head, Short, Trailing, Tree}

-- ---- the first line

-- bytes without a line's end
abbrev pub IsOneLine : List ℕ → Type 0
IsOneLine bytes = AllByRecursion (λ b. (b == 10) ≡ false) bytes

-- the first line of a text, and what stands behind its end; a text that ends with it may lack that end
abbrev pub IsSplit : List ℕ → List ℕ → List ℕ → Type 0
IsSplit text line behind = IsOneLine line × ((text ≡ line ++ 10 ∷ behind) ⊎ ((text ≡ line) × (behind ≡ [])))

-- the first line of a text has more bytes than a line may have
pub record IsTooLong (text : List ℕ) : Type 0 where
  pub front : List ℕ
  pub rest : List ℕ
  pub parts : text ≡ front ++ rest
  pub unended : IsOneLine front
  pub long : 140000 < length front

-- a cluster within the limits
abbrev pub checked : Geometry → Option Geometry
checked g = if within_limits g then Some g else None

-- the cluster that an event names
abbrev pub cluster_of : Event → Option Geometry
cluster_of (event.Cluster nodes memories blocks inodes) = checked (record { nodes = nodes; memories = memories; blocks = blocks; inodes = inodes })
cluster_of (event.Arrive node sec usec bytes) = None
cluster_of (event.Deliver k stop) = None
cluster_of (event.Drain count) = None
cluster_of (event.Lose k) = None
cluster_of (event.GiveUp who) = None
cluster_of (event.Resend who) = None
cluster_of (event.Crash who) = None
cluster_of (event.Start who choice) = None
cluster_of (event.Sweep memory) = None
cluster_of (event.Checkpoint memory) = None
cluster_of event.Backup = None
cluster_of (event.Show number) = None
cluster_of event.End = None

-- the cluster that a line names
abbrev pub cluster_in : List ℕ → Option Geometry
cluster_in line = option_and_then cluster_of (event_of line)

-- ---- the images behind it

-- images one after another
unfoldable pub joined : List (List ℕ) → List ℕ
joined [] = []
joined (part ∷ parts) = part ++ joined parts

-- as many images as there are memory nodes, each of its size
pub record AreParts (g : Geometry) (parts : List (List ℕ)) : Type 0 where
  pub memories : length parts ≡ g.memories
  pub sized : AllByRecursion (λ part. length part ≡ image_size (layout_of g)) parts

-- how many bytes the images of a cluster have
abbrev pub all_sizes : Geometry → ℕ
all_sizes g = g.memories * image_size (layout_of g)

-- ---- what is said

-- what the images of a cluster say
abbrev pub ShowsAnswer : Geometry → List (List ℕ) → Answer → Type 0
ShowsAnswer g parts (Listed t) = (t.geometry ≡ g) × Stands parts t
ShowsAnswer g parts (Faulty Head) = ⊥
ShowsAnswer g parts (Faulty Short) = ⊥
ShowsAnswer g parts (Faulty Trailing) = ⊥
ShowsAnswer g parts (Faulty Tree) = IsNoTree g parts

-- these bytes are the images of a cluster, and that is what they say
pub record AreShown (g : Geometry) (behind : List ℕ) (a : Answer) : Type 0 where
  pub parts : List (List ℕ)
  pub are : AreParts g parts
  pub whole : behind ≡ joined parts
  pub shows : ShowsAnswer g parts a

-- what the bytes behind the line of a cluster say
abbrev pub IsAnswerBehind : Geometry → List ℕ → Answer → Type 0
IsAnswerBehind g behind (Listed t) = AreShown g behind (Listed t)
IsAnswerBehind g behind (Faulty Head) = ⊥
IsAnswerBehind g behind (Faulty Short) = length behind < all_sizes g
IsAnswerBehind g behind (Faulty Trailing) = all_sizes g < length behind
IsAnswerBehind g behind (Faulty Tree) = AreShown g behind (Faulty Tree)

-- the first line of a text names a cluster, of which the bytes behind it say this
pub record IsHeaded (text : List ℕ) (a : Answer) : Type 0 where
  pub line : List ℕ
  pub behind : List ℕ
  pub split : IsSplit text line behind
  pub geometry : Geometry
  pub names : cluster_in line ≡ Some geometry
  pub says : IsAnswerBehind geometry behind a

-- the first line of a text names no cluster within the limits
pub record IsHeadless (text : List ℕ) : Type 0 where
  pub line : List ℕ
  pub behind : List ℕ
  pub split : IsSplit text line behind
  pub names : cluster_in line ≡ None

-- what a text says
abbrev pub IsAnswer : List ℕ → Answer → Type 0
IsAnswer text (Listed t) = IsHeaded text (Listed t)
IsAnswer text (Faulty Head) = IsTooLong text ⊎ IsHeadless text
IsAnswer text (Faulty Short) = IsHeaded text (Faulty Short)
IsAnswer text (Faulty Trailing) = IsHeaded text (Faulty Trailing)
IsAnswer text (Faulty Tree) = IsHeaded text (Faulty Tree)
