-- How a list of entries is filled, entry by entry.
use Rattle.std.specs.Prelude.{◌-◌, nat_le, true, if◌then◌else◌, List, [], ◌∷◌, ◌++◌}
use Rattle.nfs_proto.specs.declared.dir_entry.DirEntry.{DirEntry}
use Rattle.fs_rules.specs.Slots.{entry_size}
use Rattle.fs_content.specs.declared.listing.Run.{Run}

-- an entry that is offered to an empty list is given where it fits, and else as the only one
abbrev pub first_offered : Run → DirEntry → Run
first_offered run e =
    if nat_le (entry_size e) run.room
    then record run { entries = e ∷ []; room = run.room - entry_size e }
    else record run { entries = e ∷ []; is_full = true }

-- and to one that has entries where it fits
abbrev pub more_offered : Run → DirEntry → Run
more_offered run e =
    if nat_le (entry_size e) run.room
    then record run { entries = run.entries ++ e ∷ []; room = run.room - entry_size e }
    else record run { is_full = true; leaves_some = true }

abbrev pub offered_by : List DirEntry → Run → DirEntry → Run
offered_by [] run e = first_offered run e
offered_by (d ∷ entries) run e = more_offered run e

-- an entry is offered in turn: once one did not fit, those behind it are left
abbrev pub offered : Run → DirEntry → Run
offered run e = if run.is_full then record run { leaves_some = true } else offered_by run.entries run e

-- entries are offered one after another
unfoldable pub all_offered : Run → List DirEntry → Run
all_offered run [] = run
all_offered run (e ∷ entries) = all_offered (offered run e) entries
