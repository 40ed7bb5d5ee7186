use Rattle.std.proofs.Common.{ap, ◌∙◌, arith}
use Rattle.sfs.specs.Command.{only_number}
use Rattle.sfs.proofs.CommandLemmas.{answered, read_alone}
use Rattle.sfs.proofs.command.u64_of.Goals as goal

pub returns : goal.returns
returns c =
    c.ok.ensures.value ∙ answered c.only_number.result (only_number 64 c.new.result) c.only_number.ensures
    ∙ ap (only_number 64) c.new.ensures ∙ read_alone 64 c.args.word.now (omega arith)
