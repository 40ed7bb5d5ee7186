use Rattle.std.proofs.Common.{◌≡◌, ℕ, ◌<◌, ap, subst, sym, ◌∙◌, refl, arith, take, length}
use Rattle.std.specs.Prelude.{All}
use Rattle.std.proofs.lemmas.List.{take_all}
use Rattle.std.proofs.lemmas.List.Elements.{All-more}
use Rattle.mini_tx.specs.declared.item.Item.{Item}
use Rattle.mini_tx.specs.FlatMemory.{ItemMatches}
use Rattle.mini_tx.proofs.flat_memory.matches.Goals as goal

pub loop-item-preserved : goal.loop-item-preserved
loop-item-preserved c =
    All-more (ItemMatches c.args.flat.now) c.args.items.now c.loop-item.item-index c.item-item.result c.loop-item-test.true c.loop-item.invariant
    (subst (ItemMatches c.args.flat.now) c.item-item.is (c.if-not-item_matches.ensures.0 refl))

pub returns : goal.returns
returns c = (
  λ all. subst (All (ItemMatches c.args.flat.now)) (take_all c.loop-item.item-index c.args.items.now c.loop-item-test.false) c.loop-item.invariant,
  λ all. refl,
)
