use Rattle.std.proofs.Common.{◌≡◌, ◌+◌, ◌/◌, map}
use Rattle.fs_rules.specs.Lists.{below}
use Rattle.content_laws.specs.Answers.{piece_at}
use Rattle.plan_content.proofs.blocks.part_pieces.Given as goal

abbrev pub invariant-loop-block : goal.invariant-loop-block
invariant-loop-block l = l.pieces ≡ map (piece_at l.held l.number l.offset l.count) (map (λ k. l.offset / 4096 + k) (below l.block))
