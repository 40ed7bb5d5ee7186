use Rattle.std.proofs.lemmas.Result.{IfOk-weaker}
use Rattle.fs_listing.specs.Listing.{file_line}
use Rattle.fs_listing.proofs.file_lines.file_line.Goals as goal

pub returns : goal.returns
unfolding file_line
returns c = IfOk-weaker c.line_of.result _ _ (λ line is. cc) c.line_of.ensures
