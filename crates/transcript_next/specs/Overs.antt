-- Whether the event that runs is over, by facts.
use Rattle.std.specs.Prelude.{ℕ, nat_lt, Bool, true, false, ◌&&◌, ◌||◌, not, if◌then◌else◌, length, count_by, Option, Some, None}
use Rattle.std.specs.List.{list_any}
use Rattle.fs_rules.specs.declared.geometry.Geometry.{Geometry}
use Rattle.mini_tx.specs.declared.actor.Actor.TheVariants.{Node}
use Rattle.nfs_service.specs.declared.request.Request.{Request}
use Rattle.nfs_service.specs.Needs.{needs_files}
use Rattle.nfs_service.specs.Reply.{heard}
use Rattle.transcript_rules.specs.declared.arrival.Arrival.{Arrival}
use Rattle.transcript_rules.specs.declared.post.Post.{Post}
use Rattle.transcript_rules.specs.Book.{numbered, is_actor}
use Rattle.transcript_rules.specs.Cause.{is_open_before}
use Rattle.transcript_rules.specs.Place.{is_told}
use Rattle.transcript_facts.specs.declared.facts.Facts.{Facts}
use Rattle.transcript_facts.specs.declared.now.Now.{Now}
use Rattle.transcript_facts.specs.declared.now.Now.TheVariants as now
use Rattle.transcript_facts.specs.Facts.{is_nil}

abbrev pub is_downed : Facts → Post → Bool
is_downed f p = list_any (is_actor p.to) f.down && not (list_any (is_actor p.to) f.said.downs.items)

abbrev pub has_lost : Facts → Option Post → Bool
has_lost f None = true
has_lost f (Some p) = if is_downed f p then f.said.lost else true

abbrev pub ends_at_once_by : Geometry → Facts → ℕ → Request → Bool
ends_at_once_by g f n r = if list_any (is_actor (Node n)) f.down || not (needs_files g r) then true else nat_lt 32 (count_by (is_open_before n f.under) f.arrivals)

abbrev pub has_answered : Geometry → Facts → Option Arrival → Bool
has_answered g f None = true
has_answered g f (Some a) = not (ends_at_once_by g f a.node (heard a.bytes)) || is_told a.ended

abbrev pub has_all_of : Geometry → Facts → Now → Bool
has_all_of g f now.Arrive = has_answered g f (numbered f.arrivals (length f.arrivals))
has_all_of g f (now.Deliver k) = has_lost f (numbered f.mail k)
has_all_of g f (now.GiveUp who) = f.said.retry
has_all_of g f (now.Show number) = f.said.mounting
has_all_of g f n = true

abbrev pub has_all_by : Geometry → Facts → Bool
has_all_by g f = has_all_of g f f.event

abbrev pub is_over_by : Geometry → Facts → Bool
is_over_by g f = if is_nil f.owed then has_all_by g f else false
