-- What a line makes of facts.
use Rattle.std.specs.Prelude.{◌≡◌, ℕ, ◌+◌, Bool, true, false, List, [], ◌∷◌, ◌++◌, length, None}
use Rattle.nfs_proto.specs.declared.stamp.Stamp.{Stamp}
use Rattle.mini_tx.specs.declared.actor.Actor.{Actor}
use Rattle.mini_tx.specs.declared.actor.Actor.TheVariants.{Node, Memory, Manager}
use Rattle.event_text.specs.declared.event.Event.{Event}
use Rattle.event_text.specs.declared.event.Event.TheVariants as event
use Rattle.line_text.specs.declared.line.Line.{Line}
use Rattle.line_text.specs.declared.line.Line.TheVariants as line
use Rattle.line_text.specs.declared.sent_kind.SentKind.{SentKind}
use Rattle.transcript_rules.specs.declared.backup.Backup.{Backup}
use Rattle.transcript_rules.specs.declared.ended.Ended.{Ended}
use Rattle.transcript_rules.specs.declared.ended.Ended.TheVariants.{Replied, Dropped}
use Rattle.transcript_rules.specs.Book.{with_numbered}
use Rattle.transcript_rules.specs.Next.{without, arrivals_without, handed_among, left_out, retried_as, with_end, with_point}
use Rattle.transcript_book.specs.declared.said.Said.{Said}
use Rattle.transcript_book.specs.Sayings.{AreSaid}
use Rattle.transcript_facts.specs.declared.facts.Facts.{Facts}
use Rattle.transcript_facts.specs.declared.now.Now.{Now}
use Rattle.transcript_facts.specs.declared.now.Now.TheVariants as now
use Rattle.transcript_facts.specs.Facts.{with_cut, with_done, with_over}

-- messages are posted again
abbrev pub resends : Now → Bool
resends now.Resend = true
resends n = false

-- an actor goes down
abbrev pub backups_by : Actor → List Backup → List Backup
backups_by (Node n) backups = backups
backups_by (Memory m) backups = backups
backups_by Manager backups = with_numbered backups (length backups) with_over

abbrev pub fallen_by : Facts → Actor → Facts
fallen_by f who = record f { down = who ∷ without who f.down; arrivals = arrivals_without who f.arrivals; backups = backups_by who f.backups }

-- a message is posted
abbrev pub posted_by : Facts → Actor → Actor → SentKind → Facts
posted_by f from to words =
    record f { mail = f.mail ++ (record { from = from; to = to; words = words; under = f.under; again = resends f.event; waits = true; heard = 0 }) ∷ [] }

-- an arrival ends
abbrev pub ended_by : Facts → ℕ → Ended → Facts
ended_by f number how = record f { arrivals = with_numbered f.arrivals number (with_end how) }

-- what a line under an event tells, but for the trees and the lines that are owed
abbrev pub told_by : Facts → Line → Facts
told_by f (line.DoArrive arrival node) = f
told_by f (line.DoEvent e) = f
told_by f (line.Lost k) = f
told_by f (line.Down who why) = fallen_by f who
told_by f (line.Point point arrival made) = record f { points = f.points + 1; arrivals = with_numbered f.arrivals arrival (with_point point) }
told_by f (line.Sent k from to words) = posted_by f from to words
told_by f (line.Reply arrival at bytes) = ended_by f arrival Replied
told_by f (line.Retry arrival why) = ended_by f arrival (retried_as why)
told_by f (line.Dropped arrival why) = ended_by f arrival Dropped
told_by f (line.Cut number at) = record f { backups = with_numbered f.backups number (with_cut at) }
told_by f (line.BackupDone number) = record f { backups = with_numbered f.backups number with_done }
told_by f (line.RetryBackup number why) = record f { backups = with_numbered f.backups number with_over }
told_by f (line.Mounted number lines) = f
told_by f (line.Listed text) = f
told_by f (line.MountFailed number) = f
told_by f (line.MountBad number) = f
told_by f (line.Refused number) = record f { closed = true }
told_by f line.End = record f { closed = true }

-- the facts where these lines stand under the event
abbrev pub with_said : Facts → Said → Facts
with_said f s = record f { said = s }

-- a line stands, and tells what it does
pub record Notes (before : Facts) (l : Line) (after : Facts) : Type 0 where
  pub said : Said
  pub says : (lines : List Line) → AreSaid lines before.said → AreSaid (lines ++ l ∷ []) said
  pub is : after ≡ told_by (with_said before said) l

-- an event begins, under which no line stands
abbrev pub opened_by : Facts → ℕ → ℕ → Now → Said → Facts
opened_by f taken drained now said = record f { taken = taken; drained = drained; event = now; under = f.under + 1; said = said }

-- a datagram comes
abbrev pub came_by : Facts → ℕ → Stamp → List ℕ → Facts
came_by f node moment bytes =
    record f { arrivals = f.arrivals ++ (record { node = node; moment = moment; bytes = bytes; points = f.points; under = f.under; point = None; ended = None }) ∷ [] }

-- a message is delivered
abbrev pub delivered_by : Facts → ℕ → Facts
delivered_by f k = record f { mail = with_numbered f.mail k (handed_among f.down f.under) }

-- what an event does by itself
abbrev pub begun_by : Facts → Event → Facts
begun_by f (event.Cluster nodes memories blocks inodes) = f
begun_by f (event.Arrive node sec usec bytes) = came_by f node (record { sec = sec; usec = usec }) bytes
begun_by f (event.Deliver k stop) = delivered_by f k
begun_by f (event.Drain count) = f
begun_by f (event.Lose k) = record f { mail = with_numbered f.mail k left_out }
begun_by f (event.GiveUp who) = f
begun_by f (event.Resend who) = f
begun_by f (event.Crash who) = fallen_by f who
begun_by f (event.Start who choice) = record f { down = without who f.down }
begun_by f (event.Sweep memory) = f
begun_by f (event.Checkpoint memory) = f
begun_by f event.Backup = record f { backups = f.backups ++ (record { cut = None; done = false; over = false }) ∷ [] }
begun_by f (event.Show number) = f
begun_by f event.End = f
