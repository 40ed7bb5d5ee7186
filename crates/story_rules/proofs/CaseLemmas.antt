-- The worked cases of a story.
use Rattle.std.proofs.Common.{refl}
use Rattle.story_rules.specs.Cases.{ChangesAreCounted, LooksAreCast, CrashesAreTold}

pub changes_are_counted : ChangesAreCounted
changes_are_counted =
    record {
      begun = refl;
      first = refl;
      not_yet = refl;
      unseen = refl;
      down = refl;
      lost = refl;
      found = refl;
      casts = refl;
      silent = refl;
      again = refl;
      once = refl;
      posted = refl;
      decides = refl;
      logs = refl;
      done = refl;
    }

pub looks_are_cast : LooksAreCast
looks_are_cast =
    record {
      refused = refl;
      no_entry = refl;
      no_cast = refl;
      look = refl;
      bytes = refl;
      twice = refl;
      history = refl;
      several = refl;
      no_place = refl;
    }

pub crashes_are_told : CrashesAreTold
crashes_are_told =
    record {
      lost = refl;
      late = refl;
      next = refl;
      stays = refl;
      counts = refl;
      silent = refl;
      full_down = refl;
      resends = refl;
      gave_up = refl;
    }
