use Rattle.plan_content.proofs.listing.+offer_groups.Given as goal

abbrev pub decreases-offer_groups : goal.decreases-offer_groups
decreases-offer_groups l = l.left
