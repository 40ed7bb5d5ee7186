-- The worked cases of a coordinator.
use Rattle.std.proofs.Common.{refl}
use Rattle.tx_coord.specs.Cases.{VotesAreCounted, DecisionsAreFinished, OldestGoes}

pub votes_are_counted : VotesAreCounted
votes_are_counted =
    record {
      prepares = refl;
      committed = refl;
      decides = refl;
      finishing = refl;
      refused = refl;
      aborts = refl;
      differs = refl;
      no_compare = refl;
      second = refl;
      stranger = refl;
      another = refl;
      short = refl;
      long = refl;
    }

pub decisions_are_finished : DecisionsAreFinished
decisions_are_finished =
    record {
      waits = refl;
      twice = refl;
      again = refl;
      forgets = refl;
      finished = refl;
      missing = refl;
      gave_up = refl;
      kept = refl;
      taken = refl;
    }

pub oldest_goes : OldestGoes
oldest_goes = record { kept = refl; gone = refl }
