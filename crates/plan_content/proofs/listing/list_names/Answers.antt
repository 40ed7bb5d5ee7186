use Rattle.std.proofs.Common.{List, ap, ◌∙◌}
use Rattle.fs_dir.specs.declared.slot.Slot.{Slot}
use Rattle.fs_content.specs.Listing.{all_offered}
use Rattle.fs_rules.specs.Slots.{entries_behind}
use Rattle.plan_rules.specs.Told.{slots_of}
use Rattle.content_laws.specs.Answers.{names_from}
use Rattle.plan_content.proofs.ListingLemmas.{answered, slots_are}
use Rattle.plan_content.proofs.listing.list_names.Goals as goal

pub returns : goal.returns
returns c =
    let held = c.args.held.now in
    let n = c.args.number in
    answered n c.args.attrs.now.parent c.args.cookie c.args.count (slots_of held n) c.new-run.result c.offer_behind.new.self c.offer_behind-2.new.self c.offer_groups.new.run
    c.new-run.ensures (c.in_ok-offer_behind.ensures {u = tt}) (c.in_ok-offer_behind-2.ensures {u = tt})
    ((c.in_ok-offer_groups.ensures {u = tt})
    ∙ ap (λ (xs : List Slot). all_offered c.offer_behind-2.new.self (entries_behind c.args.cookie (names_from 3 xs)))
    (slots_are held n c.groups_in.result c.args.attrs.now c.requires c.groups_in.ensures.exact))
