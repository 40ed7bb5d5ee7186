use Rattle.std.proofs.Common.{◌≡◌, ap, ◌∙◌}
use Rattle.std.specs.Prelude.{count_by}
use Rattle.transcript_rules.specs.Cause.{is_open_before}
use Rattle.transcript_book.specs.Opens.{is_before}
use Rattle.transcript_book.proofs.OpenLemmas.{before_is}
use Rattle.transcript_book.proofs.arrivals.Arrivals.open_before.Goals as goal

pub returns : goal.returns
returns c =
    let same : c.self.inside.told.items ≡ c.args.self.now = cc in
    c.before_at.ensures ∙ ap (count_by (is_before c.args.node c.args.now)) (c.deref.ensures.value ∙ c.self.invariant) ∙ before_is c.args.node c.args.now c.self.inside.told.items 1
    ∙ ap (count_by (is_open_before c.args.node c.args.now)) same
