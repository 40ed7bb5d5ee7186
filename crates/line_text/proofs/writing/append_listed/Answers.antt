-- A text is the line of its words.
use Rattle.line_text.proofs.LineLemmas.{whole}
use Rattle.line_text.proofs.writing.append_listed.Goals as goal

pub returns-clause-ok : goal.returns-clause-ok
returns-clause-ok c = rw (whole c.args.text.now) c.append_words.ensures.ok
