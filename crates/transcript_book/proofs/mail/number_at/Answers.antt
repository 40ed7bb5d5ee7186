use Rattle.std.proofs.Common.{◌≡◌, ℕ, length, sym, subst, arith}
use Rattle.transcript_book.specs.Posts.{ArePassed}
use Rattle.transcript_book.proofs.PostLemmas.{least_at, least_none}
use Rattle.transcript_book.proofs.mail.number_at.Goals as goal

pub returns-then-first-posts : goal.returns-then-first-posts
returns-then-first-posts c = least_at c.args.posts.now c.args.first c.requires.passed c.requires.waits (omega arith)

pub returns-else-first-posts : goal.returns-else-first-posts
returns-else-first-posts c =
    let all : c.args.first ≡ length c.args.posts.now = (let within = c.requires.passed.within in omega arith) in
    sym (least_none c.args.posts.now 1 (subst (λ (n : ℕ). ArePassed c.args.posts.now n) all c.requires.passed))
