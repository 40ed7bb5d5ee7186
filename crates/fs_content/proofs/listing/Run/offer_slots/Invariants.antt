use Rattle.std.proofs.Common.{◌≡◌, ◌+◌, ◌-◌, ◌^◌, ◌<◌, min, length, drop}
use Rattle.fs_rules.specs.Slots.{entries_behind, entries_from}
use Rattle.fs_content.specs.Listing.{all_offered}
use Rattle.fs_content.proofs.listing.Run.offer_slots.Given as goal

abbrev pub invariant-loop-slot : goal.invariant-loop-slot
invariant-loop-slot l = record {
  counted : l.cookie ≡ min (l.slot-index + 3) (2 ^ 32 - 1);
  offered : length l.slots < 2 ^ 31 → all_offered l.self (entries_behind l.behind (entries_from l.slot-index (drop l.slot-index l.slots)))
      ≡ all_offered l.initial.self (entries_behind l.behind (entries_from 0 l.slots));
}
