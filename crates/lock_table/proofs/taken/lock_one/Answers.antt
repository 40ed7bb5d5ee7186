use Rattle.std.proofs.Common.{◌∙◌, arith}
use Rattle.lock_table.proofs.TakenLemmas.{when_ok, put_in}
use Rattle.lock_table.proofs.taken.lock_one.Goals as goal

pub returns-clause-line : goal.returns-clause-line
returns-clause-line c =
    (put_in c.args.locks.now.items c.take_out-at.new.locks.items c.insert-inserted.new.self.items c.args.span c.take_out-at.result.0 c.take_out-at.result.1 c.args.holder
    c.requires.some c.requires.line c.requires.free c.take_out-at.ensures.taken
    (c.insert-inserted.ensures.items ∙ when_ok c.insert-inserted.result (c.insert-inserted.ensures.succeeds (omega (arith, c.take_out-at.ensures.fewer, c.take_out-at.ensures.capacity, c.requires.room))) _ _)).0

pub returns-clause-locked : goal.returns-clause-locked
returns-clause-locked c =
    (put_in c.args.locks.now.items c.take_out-at.new.locks.items c.insert-inserted.new.self.items c.args.span c.take_out-at.result.0 c.take_out-at.result.1 c.args.holder
    c.requires.some c.requires.line c.requires.free c.take_out-at.ensures.taken
    (c.insert-inserted.ensures.items ∙ when_ok c.insert-inserted.result (c.insert-inserted.ensures.succeeds (omega (arith, c.take_out-at.ensures.fewer, c.take_out-at.ensures.capacity, c.requires.room))) _ _)).1
