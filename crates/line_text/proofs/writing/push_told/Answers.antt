-- `do`, a space, and the words of the event.
use Rattle.line_text.proofs.LineLemmas.{told_ok}
use Rattle.line_text.proofs.writing.push_told.Goals as goal

pub returns-clause-ok : goal.returns-clause-ok
returns-clause-ok c =
    told_ok c.append_line-written.result c.args.out.now.items c.append_words-begun.new.out.items c.append_line-written.new.out.items c.args.event.now
    c.in_ok-begun.ensures.ok c.append_line-written.ensures.ok
