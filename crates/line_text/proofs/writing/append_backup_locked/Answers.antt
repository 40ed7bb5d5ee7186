-- The words are those that were written.
use Rattle.line_text.proofs.writing.append_backup_locked.Goals as goal

pub returns-clause-ok : goal.returns-clause-ok
returns-clause-ok c = rw (c.from.ensures, c.from-2.ensures, c.from-3.ensures) at c.append_words.ensures.ok
