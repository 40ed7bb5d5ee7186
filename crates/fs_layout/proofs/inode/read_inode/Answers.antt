use Rattle.std.proofs.Common.{ℕ, ap, ◌∙◌, length}
use Rattle.fs_layout.proofs.RecordLemmas.{length-inode, inode_only}
use Rattle.fs_layout.proofs.inode.read_inode.Goals as goal

pub returns-in_err-read_words-clause-only : goal.returns-in_err-read_words-clause-only
returns-in_err-read_words-clause-only c = λ a h. absurd (c.in_err-read_words.ensures.none (ap (length {A = ℕ}) h.bytes_are ∙ length-inode a))

pub returns-clause-only : goal.returns-clause-only
returns-clause-only c =
    inode_only c.args.bytes.now c.in_ok-read_words.field-0 c.attrs_of.result c.in_ok-read_words.ensures.found.0 c.in_ok-read_words.ensures.found.1 c.attrs_of.ensures.only
