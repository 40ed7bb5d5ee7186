-- What is asked of the event that runs.
use Rattle.std.specs.Prelude.{ℕ, Option, Some, None}
use Rattle.mini_tx.specs.declared.actor.Actor.{Actor}
use Rattle.mini_tx.specs.declared.actor.Actor.TheVariants.{Node, Memory, Manager}
use Rattle.event_text.specs.declared.event.Event.{Event}
use Rattle.event_text.specs.declared.event.Event.TheVariants as event
use Rattle.transcript_facts.specs.declared.now.Now.{Now}
use Rattle.transcript_facts.specs.declared.now.Now.TheVariants as now

abbrev pub started_by : Actor → Now
started_by (Node n) = now.Other
started_by (Memory m) = now.StartMemory m
started_by Manager = now.Other

-- what is asked of an event, or of none
abbrev pub now_of : Option Event → Now
now_of None = now.Nothing
now_of (Some (event.Cluster nodes memories blocks inodes)) = now.Other
now_of (Some (event.Arrive node sec usec bytes)) = now.Arrive
now_of (Some (event.Deliver k stop)) = now.Deliver k
now_of (Some (event.Drain count)) = now.Other
now_of (Some (event.Lose k)) = now.Other
now_of (Some (event.GiveUp who)) = now.GiveUp who
now_of (Some (event.Resend who)) = now.Resend
now_of (Some (event.Crash who)) = now.Other
now_of (Some (event.Start who choice)) = started_by who
now_of (Some (event.Sweep memory)) = now.Other
now_of (Some (event.Checkpoint memory)) = now.Other
now_of (Some event.Backup) = now.Other
now_of (Some (event.Show number)) = now.Show number
now_of (Some event.End) = now.Other

-- the message that is delivered
abbrev pub delivered_in : Now → Option ℕ
delivered_in (now.Deliver k) = Some k
delivered_in n = None
