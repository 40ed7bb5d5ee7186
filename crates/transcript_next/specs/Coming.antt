-- Whether an event may come, by facts.
use Rattle.std.specs.Prelude.{ℕ, ◌-◌, ◌^◌, nat_lt, Bool, true, false, ◌&&◌, not, List, length, Option, Some, None, is_some}
use Rattle.std.specs.List.{list_any}
use Rattle.fs_rules.specs.declared.geometry.Geometry.{Geometry}
use Rattle.mini_tx.specs.declared.actor.Actor.{Actor}
use Rattle.mini_tx.specs.declared.actor.Actor.TheVariants.{Node, Memory, Manager}
use Rattle.event_text.specs.declared.event.Event.{Event}
use Rattle.event_text.specs.declared.event.Event.TheVariants as event
use Rattle.transcript_rules.specs.declared.backup.Backup.{Backup}
use Rattle.transcript_rules.specs.declared.post.Post.{Post}
use Rattle.transcript_rules.specs.Book.{numbered, is_actor, first_open}
use Rattle.transcript_rules.specs.Next.{is_there, is_memory, is_million}
use Rattle.transcript_facts.specs.declared.facts.Facts.{Facts}
use Rattle.transcript_facts.specs.Facts.{running_in}
use Rattle.transcript_judges.specs.Tests.{is_none}

abbrev pub is_to_memory : Option Post → Bool
is_to_memory None = false
is_to_memory (Some p) = is_memory p.to

abbrev pub is_done : Option Backup → Bool
is_done None = false
is_done (Some b) = b.done

abbrev pub is_upright : Facts → Actor → Bool
is_upright f who = not (list_any (is_actor who) f.down)

abbrev pub gives_up_by : Geometry → Facts → Actor → Bool
gives_up_by g f (Node n) = (nat_lt n g.nodes && is_upright f (Node n)) && is_some (first_open n 1 f.arrivals)
gives_up_by g f (Memory m) = false
gives_up_by g f Manager = is_upright f Manager && is_some (running_in f.backups)

-- an event is not excluded
abbrev pub comes_by : Geometry → Facts → Event → Bool
comes_by g f (event.Cluster nodes memories blocks inodes) = false
comes_by g f (event.Arrive node sec usec bytes) = nat_lt node g.nodes && nat_lt (length f.arrivals) (2 ^ 32 - 1)
comes_by g f (event.Deliver k None) = is_some (numbered f.mail k)
comes_by g f (event.Deliver k (Some calls)) = is_to_memory (numbered f.mail k) && is_million calls
comes_by g f (event.Drain count) = false
comes_by g f (event.Lose k) = is_some (numbered f.mail k)
comes_by g f (event.GiveUp who) = gives_up_by g f who
comes_by g f (event.Resend who) = is_there g who && is_upright f who
comes_by g f (event.Crash who) = is_there g who && is_upright f who
comes_by g f (event.Start who choice) = is_there g who && list_any (is_actor who) f.down
comes_by g f (event.Sweep memory) = nat_lt memory g.memories && is_upright f Manager
comes_by g f (event.Checkpoint memory) = nat_lt memory g.memories && is_upright f (Memory memory)
comes_by g f event.Backup = is_upright f Manager && is_none (running_in f.backups)
comes_by g f (event.Show number) = is_done (numbered f.backups number)
comes_by g f event.End = true
