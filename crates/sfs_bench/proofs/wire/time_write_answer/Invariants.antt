use Rattle.nfs_proto.specs.Answers.{IsFitAnswer}
use Rattle.sfs_bench.proofs.wire.time_write_answer.Given as goal

-- the answer that is written has a spelling
abbrev pub invariant-loop : goal.invariant-loop
invariant-loop g l = IsFitAnswer l.answer
