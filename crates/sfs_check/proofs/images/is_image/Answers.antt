use Rattle.std.proofs.Common.{◌≡◌, length, sym, ap, subst, ◌∙◌, arith}
use Rattle.mini_tx.specs.FlatMemory.{held_by}
use Rattle.sfs_check.specs.Fillings.{IsFilled}
use Rattle.sfs_check.proofs.TreeLemmas.{held_is, image_from, filled_from}
use Rattle.sfs_check.proofs.images.is_image.Goals as goal

pub returns-then-is_sized : goal.returns-then-is_sized
returns-then-is_sized c =
    let held : held_by c.args.parts.now c.args.memory ≡ c.as_slice-bytes.result.now =
    held_is c.args.parts.now c.args.memory c.index-parts-memory.result c.index-parts-memory.is (omega (arith, c.requires.there, c.requires.memories)) ∙ sym c.as_slice-bytes.ensures.value in (
      λ is. image_from c.args.geometry.now c.args.parts.now c.args.memory (ap length held ∙ c.is_sized.ensures.0 c.if-is_sized.true)
          (subst (IsFilled c.args.geometry.now c.args.memory) (sym held) (c.is_filled.ensures.0 is)),
      λ image. c.is_filled.ensures.1 (subst (IsFilled c.args.geometry.now c.args.memory) held (filled_from c.args.geometry.now c.args.parts.now c.args.memory image)),
    )
