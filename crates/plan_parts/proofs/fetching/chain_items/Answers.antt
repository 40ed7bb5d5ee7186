use Rattle.std.proofs.Common.{Option, sym, subst}
use Rattle.std.specs.Prelude.{IfSome}
use Rattle.fs_layout.specs.declared.reference.Reference.{Reference}
use Rattle.fs_image.specs.Owners.{Chain}
use Rattle.fs_image.specs.Stands.{IsBlock}
use Rattle.plan_parts.proofs.PlaceLemmas.{places_inside}
use Rattle.plan_parts.proofs.fetching.chain_items.Goals as goal

pub push_block-requires-clause-inside : goal.push_block-requires-clause-inside
push_block-requires-clause-inside c =
    subst (λ (p : Option Reference). IfSome p (IsBlock c.args.held.now.geometry)) (sym c.chain_place.ensures)
    (places_inside c.args.held.now c.requires c.args.number (Chain c.args.index))
