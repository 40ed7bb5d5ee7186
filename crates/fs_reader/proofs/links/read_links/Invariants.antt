use Rattle.std.proofs.Common.{◌≡◌, ◌*◌, length}
use Rattle.fs_reader.specs.Links.{ReadsLinks}
use Rattle.fs_reader.proofs.links.read_links.Given as goal

abbrev pub invariant-loop-index : goal.invariant-loop-index
invariant-loop-index l = (length l.left ≡ 2048 * l.geometry.memories)
    × ReadsLinks l.geometry l.parts l.number l.fn.first l.index l.initial.left l.initial.content l.left l.content l.next
