use Rattle.std.proofs.Common.{string_bytes, sym, arith}
use Rattle.sfs.proofs.CommandLemmas.{nothing_asked}
use Rattle.sfs.proofs.command.Command.of.Goals as goal

pub returns-in_default-2 : goal.returns-in_default-2
returns-in_default-2 c =
    let least = c.in_default.len_at_least in
    let below = c.in_default.len_below in
    sym (nothing_asked (λ w. string_bytes w) c.args.words.now (λ e. omega (arith, e, least, below)) (λ e. omega (arith, e, least, below)))

pub returns-in_default-3 : goal.returns-in_default-3
returns-in_default-3 c =
    let least = c.in_default.len_at_least in
    sym (nothing_asked (λ w. string_bytes w) c.args.words.now (λ e. omega (arith, e, least)) (λ e. omega (arith, e, least)))
