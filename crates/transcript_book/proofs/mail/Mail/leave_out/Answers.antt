use Rattle.std.proofs.Common.{◌≡◌, List, length, ◌<◌, ◌≤◌, refl, sym, subst}
use Rattle.transcript_rules.specs.declared.post.Post.{Post}
use Rattle.transcript_rules.specs.Next.{left_out}
use Rattle.transcript_book.proofs.PostLemmas.{kept, not_numbered}
use Rattle.transcript_book.proofs.mail.Mail.leave_out.Goals as goal

pub invariant_of-self : goal.invariant_of-self
invariant_of-self c =
    kept c.self.inside.posts.items c.leave_out.new.posts.items c.in-Some.index c.self.inside.first left_out (λ p. refl) (λ p. refl) c.leave_out.ensures c.self.invariant

pub returns-in_default : goal.returns-in_default
returns-in_default c =
    let same : c.deref.result.now ≡ c.args.self.now = cc in
    sym (not_numbered c.args.self.now c.args.k left_out (subst (λ (ps : List Post). 0 < c.args.k → c.args.k ≤ length ps → ⊥) same c.in_default.ensures.none))
