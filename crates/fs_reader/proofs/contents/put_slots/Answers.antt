use Rattle.std.proofs.Common.{◌++◌, map, ap, ◌∙◌, arith}
use Rattle.fs_reader.specs.Contents.{entry_of}
use Rattle.fs_reader.proofs.PutLemmas.{more_slots}
use Rattle.fs_reader.proofs.contents.put_slots.Goals as goal

pub returns-clause-ok : goal.returns-clause-ok
returns-clause-ok c =
    more_slots c.args.slots.now c.args.index c.args.bytes.now c.in-Ok.read c.add_entries.new.slots (omega (arith, c.if-len-index.false, c.len.ensures)) c.in-Ok.ensures.found
    (c.in_ok-add_entries.ensures ∙ ap (λ read. c.args.slots.now ++ map entry_of read) c.as_slice.ensures.value)
