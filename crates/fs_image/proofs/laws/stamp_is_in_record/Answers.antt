use Rattle.fs_image.proofs.StampLemmas.{stamp_in_record}
use Rattle.fs_image.proofs.laws.stamp_is_in_record.Goals as goal

pub returns : goal.returns
returns c = stamp_in_record
