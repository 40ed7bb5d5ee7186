use Rattle.std.proofs.Common.{◌≡◌, ◌+◌, ◌/◌, map}
use Rattle.std.specs.Prelude.{flat_map}
use Rattle.fs_rules.specs.Lists.{below}
use Rattle.content_laws.specs.Answers.{reads_at}
use Rattle.plan_content.proofs.blocks.part_reads.Given as goal

abbrev pub invariant-loop-block : goal.invariant-loop-block
invariant-loop-block l = l.items ≡ flat_map (reads_at l.held l.number l.offset l.count) (map (λ k. l.offset / 4096 + k) (below l.block))
