-- Whether a line that needs no tree may stand, as a test of facts.
use Rattle.std.specs.Prelude.{ℕ, Bool, true, false, ◌&&◌, if◌then◌else◌}
use Rattle.fs_rules.specs.declared.geometry.Geometry.{Geometry}
use Rattle.nfs_service.specs.Reply.{heard}
use Rattle.line_text.specs.declared.line.Line.{Line}
use Rattle.line_text.specs.declared.line.Line.TheVariants as line
use Rattle.transcript_rules.specs.declared.arrival.Arrival.{Arrival}
use Rattle.transcript_rules.specs.Book.{numbered}
use Rattle.transcript_facts.specs.declared.facts.Facts.{Facts}
use Rattle.transcript_facts.specs.Facts.{is_nil}
use Rattle.transcript_judges.specs.Tests.{holds_of, is_under, loses_well, falls_well, posts_well, retries_well, drops_well, ends_well, fails_well, mounts_well}

-- no line of a listing is owed, and it stands under the event in order
abbrev pub has_place : Facts → Line → Bool
has_place f l = is_nil f.owed && is_under f l

-- it may tell what it does
abbrev pub may_tell_by : Geometry → Facts → Line → Bool
may_tell_by g f (line.Lost k) = loses_well f k
may_tell_by g f (line.Down who why) = falls_well g who why
may_tell_by g f (line.Sent k from to words) = posts_well g f k from to words
may_tell_by g f (line.Retry arrival why) = holds_of (retries_well f arrival why) (numbered f.arrivals arrival)
may_tell_by g f (line.Dropped arrival why) = holds_of (λ a. drops_well g f why a (heard a.bytes)) (numbered f.arrivals arrival)
may_tell_by g f (line.BackupDone number) = ends_well f number
may_tell_by g f (line.RetryBackup number why) = fails_well f number why
may_tell_by g f (line.MountFailed number) = mounts_well f number
may_tell_by g f other = false

abbrev pub may_stand_by : Geometry → Facts → Line → Bool
may_stand_by g f l = if has_place f l then may_tell_by g f l else false
