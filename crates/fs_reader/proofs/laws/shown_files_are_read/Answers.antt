use Rattle.fs_reader.proofs.ShownLemmas.{shown_read}
use Rattle.fs_reader.proofs.laws.shown_files_are_read.Goals as goal

pub returns : goal.returns
returns c = shown_read
