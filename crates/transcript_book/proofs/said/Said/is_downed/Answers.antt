use Rattle.std.proofs.Common.{ap, ◌∙◌}
use Rattle.std.specs.List.{list_any}
use Rattle.transcript_rules.specs.Book.{is_actor}
use Rattle.transcript_book.proofs.said.Said.is_downed.Goals as goal

pub returns : goal.returns
returns c lines are = c.is_among.ensures ∙ ap (list_any (is_actor c.args.who)) c.deref.ensures.value ∙ are.downs c.args.who
