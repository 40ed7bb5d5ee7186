use Rattle.sfs.proofs.CommandLemmas.{found_as}
use Rattle.sfs.proofs.run.check.Goals as goal

pub returns-in-Ok-clause-found : goal.returns-in-Ok-clause-found
returns-in-Ok-clause-found g c =
    found_as (g.S.Source.left c.args.input.now) (g.K.Sink.held c.args.output.now) (g.K.Sink.held c.check_texts.new.output) c.in-Ok.found c.status_of.result
    c.in-Ok.ensures.tells c.status_of.ensures
