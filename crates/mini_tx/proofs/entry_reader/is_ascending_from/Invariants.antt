use Rattle.std.proofs.Common.{◌≡◌, drop}
use Rattle.mini_tx.specs.EntryGrammar.{ascends_from}
use Rattle.mini_tx.proofs.entry_reader.is_ascending_from.Given as goal

-- what is told of the numbers that are left is told of all
abbrev pub invariant-loop-number : goal.invariant-loop-number
invariant-loop-number l = ascends_from l.previous (drop l.number-index l.numbers) ≡ ascends_from l.fn.last l.numbers
