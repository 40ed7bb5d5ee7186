use Rattle.std.proofs.Common.{length}
use Rattle.fs_content.proofs.writing.+write_bytes.Given as goal

abbrev pub decreases-write_bytes : goal.decreases-write_bytes
decreases-write_bytes l = length l.bytes.now
