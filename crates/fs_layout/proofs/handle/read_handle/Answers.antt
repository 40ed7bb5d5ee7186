use Rattle.std.proofs.Common.{ℕ, ap, ◌∙◌, length}
use Rattle.fs_layout.proofs.RecordLemmas.{length-handle, handle_only}
use Rattle.fs_layout.proofs.handle.read_handle.Goals as goal

pub returns-in_err-read_words-clause-only : goal.returns-in_err-read_words-clause-only
returns-in_err-read_words-clause-only c = λ number generation h. absurd (c.in_err-read_words.ensures.none (ap (length {A = ℕ}) h.bytes_are ∙ length-handle number generation))

pub returns-clause-only : goal.returns-clause-only
returns-clause-only c =
    handle_only c.args.bytes.now c.in_ok-read_words.field-0 c.file_of.result c.in_ok-read_words.ensures.found.0 c.in_ok-read_words.ensures.found.1 c.file_of.ensures.only
