use Rattle.sfs_check.proofs.TreeLemmas.{images_more}
use Rattle.sfs_check.proofs.images.are_images.Goals as goal

pub loop-memory-preserved : goal.loop-memory-preserved
loop-memory-preserved c =
    images_more c.args.geometry.now c.args.parts.now c.loop-memory.memory c.loop-memory.invariant (c.is_image.ensures.0 c.if-not-is_image.false)
