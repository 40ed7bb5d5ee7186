use Rattle.std.proofs.Common.{ℕ, length, ap, arith}
use Rattle.mini_tx.proofs.FreshLemmas.{length-fresh_image}
use Rattle.mem_node.proofs.fresh_node.fresh_memory.Goals as goal

pub opened-requires-clause-sized : goal.opened-requires-clause-sized
opened-requires-clause-sized c =
    omega (arith, c.in_ok-image.image.ok, ap (length {A = ℕ}) c.in_ok-image.ensures, length-fresh_image c.args.setup.geometry c.args.setup.index c.requires.inodes.0)
