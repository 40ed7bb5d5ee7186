-- The worked cases.
use Rattle.std.proofs.Common.{refl}
use Rattle.tx_recover.specs.Cases.{OrphansAreFinished, The65thIsPassedOver}

pub orphans_are_finished : OrphansAreFinished
orphans_are_finished =
    record {
      asks = refl;
      ascending = refl;
      running = refl;
      waits = refl;
      asks_again = refl;
      commits = refl;
      twice = refl;
      aborts = refl;
      decided = refl;
      stranger = refl;
      early = refl;
      decides_again = refl;
      forgets = refl;
      left = refl;
    }

pub the_65th_is_passed_over : The65thIsPassedOver
the_65th_is_passed_over = record { taken = refl; passed = refl }
