-- The next event of a schedule, by facts.
use Rattle.std.specs.Prelude.{◌≡◌, ℕ, ◌+◌, nat_lt, Bool, true, false, if◌then◌else◌, List, [], ◌∷◌, map, Option, Some, None}
use Rattle.fs_rules.specs.declared.geometry.Geometry.{Geometry}
use Rattle.event_text.specs.declared.event.Event.{Event}
use Rattle.event_text.specs.declared.event.Event.TheVariants as event
use Rattle.transcript_rules.specs.Opening.{Schedule}
use Rattle.transcript_rules.specs.Next.{Next, is_million, least_from, drain_or}
use Rattle.transcript_facts.specs.declared.facts.Facts.{Facts}
use Rattle.transcript_next.specs.declared.next.Comes.{Comes}
use Rattle.transcript_next.specs.declared.next.Comes.TheVariants as comes
use Rattle.transcript_next.specs.declared.next.Next.{Next as Found}
use Rattle.transcript_next.specs.Coming.{comes_by}

-- each event is a line of the schedule
abbrev pub scheduled : List Event → Schedule
scheduled events = map Some events

abbrev pub drain_of : Event → Option ℕ
drain_of (event.Drain count) = Some count
drain_of other = None

abbrev pub refused_at : ℕ → Next
refused_at taken = record { taken = taken; drained = 0; comes = None }

-- what comes where the first line is an event that may come or not
abbrev pub came_if : Bool → ℕ → Event → Next
came_if may taken e = if may then record { taken = taken + 1; drained = 0; comes = Some e } else refused_at taken

-- what comes where it is a drain of so many, and this is what comes behind it
abbrev pub drained_at : Facts → ℕ → ℕ → ℕ → Next → Next
drained_at f taken drained count behind =
    if is_million count
    then (if nat_lt drained count then drain_or taken drained (least_from 1 f.mail) behind else behind)
    else refused_at taken

-- what comes where it is this event
abbrev pub next_at : Geometry → Facts → ℕ → ℕ → Event → Option ℕ → Next → Next
next_at g f taken drained e None behind = came_if (comes_by g f e) taken e
next_at g f taken drained e (Some count) behind = drained_at f taken drained count behind

unfoldable pub next_by : Geometry → Facts → ℕ → ℕ → Schedule → Next
next_by g f taken drained [] = refused_at taken
next_by g f taken drained (None ∷ lines) = refused_at taken
next_by g f taken drained (Some e ∷ lines) = next_at g f taken drained e (drain_of e) (next_by g f (taken + 1) 0 lines)

abbrev pub coming_of : Comes → Option Event
coming_of comes.Nothing = None
coming_of (comes.Delivered k) = Some (event.Deliver k None)
coming_of (comes.Event e) = Some e.now

-- what was found is this
pub record IsNext (n : Next) (found : Found) : Type 0 where
  pub taken : n.taken ≡ found.taken
  pub drained : n.drained ≡ found.drained
  pub comes : n.comes ≡ coming_of found.comes

-- this is what comes, whatever comes behind it; or that is what comes
abbrev pub IsNextAt : (Next → Next) → Option Found → Type 0
IsNextAt next None = (behind : Next) → next behind ≡ behind
IsNextAt next (Some found) = (behind : Next) → IsNext (next behind) found
