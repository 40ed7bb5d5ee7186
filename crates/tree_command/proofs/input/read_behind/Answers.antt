use Rattle.tree_command.proofs.ImageLemmas.{byte_some, parts_some, trailing}
use Rattle.tree_command.proofs.input.read_behind.Goals as goal

pub returns-in-Ok-Some-clause-says : goal.returns-in-Ok-Some-clause-says
returns-in-Ok-Some-clause-says g c =
    let ok = c.in_ok-parts.ensures {u = tt} in
    trailing c.args.geometry _ _ _ c.in-Some.parts c.in-Ok-Some.field-0-0
    (parts_some _ _ c.args.geometry c.in_ok-parts.field-0 c.in-Some.parts c.in-Some.is ok.parts)
    (byte_some _ _ c.in-Ok-Some.field-0 c.in-Ok-Some.field-0-0 c.in-Ok-Some.field-0-is c.in-Ok-Some.ensures.read)
