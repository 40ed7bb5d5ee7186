use Rattle.std.proofs.Common.{◌∷◌, ◌+◌, ◌++◌, take, sym, ap, ◌∙◌}
use Rattle.std.proofs.lemmas.List.{take_rest}
use Rattle.line_stream.specs.Lines.{lines_of}
use Rattle.line_stream.proofs.LineLemmas.{none_found, one_found}
use Rattle.line_stream.proofs.ScheduleLemmas.{lines_of-line, lines_of-last}
use Rattle.check_input.proofs.InputLemmas.{nothing, no_bytes, some_bytes}
use Rattle.check_input.proofs.splitting.split_line.Goals as goal

pub returns-in-Some-clause-some : goal.returns-in-Some-clause-some
returns-in-Some-clause-some c =
    let f = one_found c.args.text.now c.in-Some.at (c.in-Some.ensures {u = tt}) in
    ap lines_of (f.parts ∙ ap (λ rest. take c.in-Some.at c.args.text.now ++ 10 ∷ rest) (sym (take_rest c.args.text.now (c.in-Some.at + 1)))) ∙ lines_of-line _ _ f.unended

pub returns-in-None-clause-some : goal.returns-in-None-clause-some
returns-in-None-clause-some c =
    let whole = none_found c.args.text.now (c.in-None.ensures {u = tt}) in
    lines_of-last c.args.text.now whole (some_bytes c.args.text.now (sym (c.if-is_empty.ensures {u = tt}))) ∙ ap (λ rest. c.args.text.now ∷ rest) nothing

pub returns-then-is_empty-clause-none : goal.returns-then-is_empty-clause-none
returns-then-is_empty-clause-none c = no_bytes c.args.text.now (sym c.is_empty.ensures ∙ c.if-is_empty.true)
