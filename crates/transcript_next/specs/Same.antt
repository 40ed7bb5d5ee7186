-- One event is another.
use Rattle.std.specs.Prelude.{ℕ, ◌==◌, Bool, true, false, ◌&&◌, Option, Some, None}
use Rattle.std.specs.Str.{bytes_eq}
use Rattle.event_text.specs.declared.event.Event.{Event}
use Rattle.event_text.specs.declared.event.Event.TheVariants as event
use Rattle.event_text.specs.declared.start_choice.StartChoice.{StartChoice}
use Rattle.event_text.specs.declared.start_choice.StartChoice.TheVariants as choice
use Rattle.transcript_rules.specs.Book.{is_actor}

abbrev pub is_stop : Option ℕ → Option ℕ → Bool
is_stop None None = true
is_stop (Some a) (Some b) = a == b
is_stop a b = false

abbrev pub is_choice : StartChoice → StartChoice → Bool
is_choice choice.Old choice.Old = true
is_choice choice.New choice.New = true
is_choice (choice.Fill a) (choice.Fill b) = a == b
is_choice a b = false

abbrev pub is_event : Event → Event → Bool
is_event (event.Cluster nodes memories blocks inodes) (event.Cluster nodes' memories' blocks' inodes') = (((nodes == nodes') && (memories == memories')) && (blocks == blocks')) && (inodes == inodes')
is_event (event.Arrive node sec usec bytes) (event.Arrive node' sec' usec' bytes') = (((node == node') && (sec == sec')) && (usec == usec')) && bytes_eq bytes bytes'
is_event (event.Deliver k stop) (event.Deliver k' stop') = (k == k') && is_stop stop stop'
is_event (event.Drain count) (event.Drain count') = count == count'
is_event (event.Lose k) (event.Lose k') = k == k'
is_event (event.GiveUp who) (event.GiveUp who') = is_actor who who'
is_event (event.Resend who) (event.Resend who') = is_actor who who'
is_event (event.Crash who) (event.Crash who') = is_actor who who'
is_event (event.Start who choice) (event.Start who' choice') = is_actor who who' && is_choice choice choice'
is_event (event.Sweep memory) (event.Sweep memory') = memory == memory'
is_event (event.Checkpoint memory) (event.Checkpoint memory') = memory == memory'
is_event event.Backup event.Backup = true
is_event (event.Show number) (event.Show number') = number == number'
is_event event.End event.End = true
is_event a b = false
