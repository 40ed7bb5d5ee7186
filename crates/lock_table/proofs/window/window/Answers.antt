use Rattle.lock_table.proofs.WindowLemmas.{window_of}
use Rattle.lock_table.proofs.window.window.Goals as goal

pub returns : goal.returns
returns c =
    window_of c.args.locks.now c.args.span c.ended_by.result c.begun_by.result c.requires.some c.ended_by.ensures.bound c.begun_by.ensures.bound c.requires.line
    c.ended_by.ensures.place c.begun_by.ensures.place
