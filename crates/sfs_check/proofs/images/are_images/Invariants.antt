-- The images so far are in order.
use Rattle.std.proofs.Common.{ℕ, ◌<◌}
use Rattle.fs_image.specs.Stands.{IsImage}
use Rattle.sfs_check.proofs.images.are_images.Given as goal

abbrev pub invariant-loop-memory : goal.invariant-loop-memory
invariant-loop-memory l = (m : ℕ) → m < l.memory → IsImage l.geometry l.parts m
