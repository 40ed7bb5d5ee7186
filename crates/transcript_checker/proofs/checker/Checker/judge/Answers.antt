use Rattle.std.proofs.Common.{◌≡◌, false, sym, ap, ◌∙◌}
use Rattle.transcript_rules.specs.Book.{Book}
use Rattle.transcript_checker.proofs.checker.Checker.judge.Goals as goal

pub returns : goal.returns
returns c o n book stands =
    let goes : book.closed ≡ false = ap (λ (b : Book). b.closed) stands.facts.is ∙ cc (c.if-self.false) in
    c.take.ensures o n book stands goes
