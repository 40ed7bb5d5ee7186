use Rattle.std.proofs.Common.{◌≡◌, ℕ, List, [], ◌∷◌, ◌++◌, sym, ap, subst, ◌∙◌}
use Rattle.mini_tx.specs.declared.item.Item.TheVariants.{Write}
use Rattle.mini_tx.specs.declared.placed_item.PlacedItem.{PlacedItem}
use Rattle.sfs_bench.specs.Fixture.{AreFitForBoth}
use Rattle.sfs_bench.proofs.FixtureLemmas.{byte_is_fit, asked_of_both_is_fit}
use Rattle.sfs_bench.proofs.kept.prepare.Goals as goal

pub returns : goal.returns
returns c =
    let seven : c.in_ok-from_slice.field-0 ≡ 7 ∷ [] = c.in_ok-from_slice.ensures in
    let one = c.in_ok-push.ensures.ok
    ∙ ap (λ (items : List PlacedItem). items ++ record { place = 0; item = Write 0 c.args.at c.in_ok-from_slice.field-0 } ∷ []) c.new-items.ensures
    ∙ ap (λ (bytes : List ℕ). let p : PlacedItem = record { place = 0; item = Write 0 c.args.at bytes } in p ∷ []) seven in (
      asked_of_both_is_fit c.args.id c.in_ok-from_slice-2.field-0 c.push.new.self c.requires.coord c.in_ok-from_slice-2.ensures
          (subst AreFitForBoth (sym one) (byte_is_fit c.args.at 7 c.requires.inside)),
      tt,
    )
