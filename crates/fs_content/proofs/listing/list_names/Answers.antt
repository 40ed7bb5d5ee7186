use Rattle.fs_content.proofs.ListingLemmas.{answered}
use Rattle.fs_content.proofs.listing.list_names.Goals as goal

pub returns : goal.returns
returns c small =
    answered c.args.number c.args.parent c.args.cookie c.args.count c.args.slots.now c.new-run.result c.offer_behind.new.self c.offer_behind-2.new.self c.offer_slots.new.self
    c.new-run.ensures c.in_ok-offer_behind.ensures c.in_ok-offer_behind-2.ensures (c.in_ok-offer_slots.ensures small)
