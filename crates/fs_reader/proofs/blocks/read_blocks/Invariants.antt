use Rattle.std.proofs.Common.{◌≡◌, ◌+◌, ◌*◌, length}
use Rattle.fs_reader.specs.Contents.{ReadsTo, Refers}
use Rattle.fs_reader.proofs.blocks.read_blocks.Given as goal

abbrev pub invariant-loop-nth : goal.invariant-loop-nth
invariant-loop-nth l = (length l.left ≡ 2048 * l.geometry.memories)
    × ReadsTo l.geometry l.parts (λ place. Refers place l.index l.references) (511 * l.index + 1) (511 * l.index + 1 + l.nth) l.initial.left l.initial.content l.left l.content
