use Rattle.std.proofs.Common.{◌≡◌, List, length, ◌<◌, ◌≤◌, refl, sym, subst}
use Rattle.transcript_rules.specs.declared.post.Post.{Post}
use Rattle.transcript_rules.specs.Next.{handed_among}
use Rattle.transcript_book.proofs.PostLemmas.{kept, not_numbered}
use Rattle.transcript_book.proofs.mail.Mail.deliver.Goals as goal

pub invariant_of-self : goal.invariant_of-self
invariant_of-self c =
    kept c.self.inside.posts.items c.hand_on.new.posts.items c.in-Some.index c.self.inside.first (handed_among c.args.down.now c.args.under) (λ p. refl) (λ p. refl) c.hand_on.ensures c.self.invariant

pub returns-in_default : goal.returns-in_default
returns-in_default c =
    let same : c.deref.result.now ≡ c.args.self.now = cc in
    sym (not_numbered c.args.self.now c.args.k (handed_among c.args.down.now c.args.under) (subst (λ (ps : List Post). 0 < c.args.k → c.args.k ≤ length ps → ⊥) same c.in_default.ensures.none))
