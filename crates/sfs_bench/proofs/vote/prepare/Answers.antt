use Rattle.std.proofs.Common.{List, [], ◌∷◌, ◌++◌, refl, sym, ap, subst, ◌∙◌}
use Rattle.mini_tx.specs.declared.placed_item.PlacedItem.{PlacedItem}
use Rattle.sfs_bench.specs.Fixture.{lone, AreFitItems}
use Rattle.sfs_bench.proofs.FixtureLemmas.{asked_is_fit}
use Rattle.sfs_bench.proofs.vote.prepare.Goals as goal

pub returns : goal.returns
returns c =
    let one = c.in_ok-push.ensures.ok ∙ ap (λ (items : List PlacedItem). items ++ record { place = 0; item = c.args.item } ∷ []) c.new-items.ensures in (
      asked_is_fit lone (record { coord = 0; boot = 1; seq = c.args.seq }) c.in_ok-from_slice.field-0 c.push.new.self refl refl c.in_ok-from_slice.ensures
          (subst AreFitItems (sym one) c.requires),
      tt,
    )
