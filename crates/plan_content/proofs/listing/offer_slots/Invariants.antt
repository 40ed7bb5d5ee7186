use Rattle.std.proofs.Common.{◌≡◌, drop}
use Rattle.fs_content.specs.Listing.{all_offered}
use Rattle.fs_rules.specs.Slots.{entries_behind}
use Rattle.content_laws.specs.Answers.{names_from}
use Rattle.plan_content.specs.Listings.{cookie_behind}
use Rattle.plan_content.proofs.listing.offer_slots.Given as goal

-- what the rest gives, offered to the run so far, is what all give
abbrev pub invariant-loop-slot : goal.invariant-loop-slot
invariant-loop-slot l = record {
  offered : all_offered l.run (entries_behind l.behind (names_from l.cookie (drop l.slot-index l.slots)))
      ≡ all_offered l.initial.run (entries_behind l.behind (names_from l.first l.slots));
  next : cookie_behind l.cookie (drop l.slot-index l.slots) ≡ cookie_behind l.first l.slots;
}
