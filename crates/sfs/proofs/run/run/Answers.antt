use Rattle.sfs.proofs.run.run.Goals as goal

pub returns-in-Some-Make-clause-causes : goal.returns-in-Some-Make-clause-causes
returns-in-Some-Make-clause-causes g c = c.make.ensures.causes (g.S.Source.faults c.args.input.now)
