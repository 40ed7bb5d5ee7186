use Rattle.std.proofs.Common.{◌+◌, ◌*◌, ◌/◌, ◌%◌, arith}
use Rattle.disk_model.specs.Frames.{bytes_of}
use Rattle.disk_model.proofs.ContentLemmas.{put_next}
use Rattle.disk_model.proofs.frames.Frames.write.Goals as goal

pub loop-done-preserved : goal.loop-done-preserved
loop-done-preserved c = (
  omega arith,
  put_next (bytes_of c.args.self.now) (bytes_of c.loop-done.self) (bytes_of c.write_piece.new.self) c.args.from.now c.args.at c.loop-done.done c.min.result
      (4096 * ((c.args.at + c.loop-done.done) / 4096) + (c.args.at + c.loop-done.done) % 4096)
      (omega arith) (omega arith) c.loop-done.invariant.1 c.in_ok-write_piece.ensures,
)
