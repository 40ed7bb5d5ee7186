use Rattle.std.proofs.Common.{rules, nat_lt}
use Rattle.std.proofs.lemmas.List.Sorted.{IsPartitionPoint-from_clause, IsPartitionedBy-ltb}
use Rattle.transcript_rules.specs.declared.post.Post.{Post}
use Rattle.transcript_book.proofs.votes.posted_before.Goals as goal

pub returns-clause-before : goal.returns-clause-before
returns-clause-before c =
    (IsPartitionPoint-from_clause (λ (p : Post). nat_lt p.under c.args.event) c.args.posts.now c.partition_point.result c.partition_point.ensures.partitioned
    (IsPartitionedBy-ltb (λ (p : Post). p.under) c.args.posts.now c.args.event c.requires) (λ a r q k. search rules)).0
