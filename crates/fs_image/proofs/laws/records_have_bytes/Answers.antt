use Rattle.fs_image.proofs.WordsLemmas.{records_have_bytes}
use Rattle.fs_image.proofs.laws.records_have_bytes.Goals as goal

pub returns : goal.returns
returns c = records_have_bytes
