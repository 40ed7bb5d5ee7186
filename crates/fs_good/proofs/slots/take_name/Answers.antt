use Rattle.fs_good.proofs.NameLemmas.{name_taken}
use Rattle.fs_good.proofs.slots.take_name.Goals as goal

pub returns : goal.returns
returns c = name_taken c.args.names.now.keys c.insert.new.self.keys c.args.name c.in_ok-insert.field-0 c.in_ok-insert.ensures.added c.in_ok-insert.ensures.keys
