use Rattle.std.proofs.Common.{◌≡◌, ap, ◌∙◌}
use Rattle.transcript_rules.specs.Book.{first_open}
use Rattle.transcript_book.specs.Opens.{first_of}
use Rattle.transcript_book.proofs.OpenLemmas.{first_is}
use Rattle.transcript_book.proofs.arrivals.Arrivals.running_at.Goals as goal

pub returns : goal.returns
returns c =
    let same : c.self.inside.told.items ≡ c.args.self.now = cc in
    c.first_at.ensures ∙ ap (first_of c.args.node) (c.deref.ensures.value ∙ c.self.invariant) ∙ first_is c.args.node c.self.inside.told.items 1
    ∙ ap (first_open c.args.node 1) same
