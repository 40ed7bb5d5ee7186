use Rattle.std.proofs.Common.{List, ap, ◌∙◌}
use Rattle.std.proofs.lemmas.List.{take_rest}
use Rattle.transcript_rules.specs.declared.post.Post.{Post}
use Rattle.transcript_rules.specs.Carried.{have_votes}
use Rattle.transcript_book.proofs.VoteLemmas.{votes_behind}
use Rattle.transcript_book.proofs.votes.have_votes.Goals as goal

pub returns : goal.returns
returns c =
    let posts = c.args.posts.now in
    c.have_votes_of.ensures
    ∙ ap (λ (ps : List Post). have_votes ps c.args.node c.last_attempt-attempt.result) (take_rest posts c.posted_before-first.result)
    ∙ votes_behind posts c.posted_before-first.result c.args.node c.last_attempt-attempt.result c.posted_before-first.ensures.before c.posted_before-first.ensures.bound
    ∙ ap (have_votes posts c.args.node) c.last_attempt-attempt.ensures
