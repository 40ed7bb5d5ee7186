use Rattle.std.proofs.Common.{◌∙◌}
use Rattle.nfs_proto.proofs.EntryLemmas.{entries_step, entries_fit}
use Rattle.nfs_proto.proofs.answer_writer.write_entries.Goals as goal

pub loop-entry-preserved : goal.loop-entry-preserved
loop-entry-preserved c = record {
  written = entries_step c.loop-entry.writer c.boolean.new.self c.write.new.writer c.args.entries.now c.loop-entry.entry-index c.entry-item.result c.loop-entry-test.true c.entry-item.is
      ((c.in_ok-boolean.ensures {u = tt}).ok) (c.in_ok-write.ensures {u = tt})
      ∙ c.loop-entry.invariant.written;
  fits = entries_fit c.args.entries.now c.loop-entry.entry-index c.entry-item.result c.loop-entry-test.true c.loop-entry.invariant.fits;
}
