use Rattle.std.proofs.Common.{◌≡◌, false, Option, is_some, sym, ap, ◌∙◌}
use Rattle.mem_rules.specs.declared.kept.Kept.{Kept}
use Rattle.mem_rules.specs.Records.{records_in}
use Rattle.mem_rules.specs.Memory.{node_of}
use Rattle.mem_rules.specs.Rules.{Reaction}
use Rattle.mem_rules.specs.State.{kept_of}
use Rattle.mem_rules.proofs.AnswerLemmas.{asked_above, some_copied}
use Rattle.mem_rules.proofs.memory.Memory.on_ask.Goals as goal

pub returns-then-is_above : goal.returns-then-is_above
returns-then-is_above c =
    let n = node_of c.args.self.now in
    let k = kept_of (records_in c.args.self.now.kept) c.args.id in
    let none : is_some k ≡ false = ap (λ (o : Option Kept). is_some o) (sym c.get.ensures) ∙ some_copied c.get.result (sym c.is_some.ensures ∙ c.if-is_some.false) in
    let e = asked_above n c.args.id k none (sym c.is_above.ensures ∙ c.if-is_above.true) in
    (c.forces.ensures.0 ∙ ap (λ (r : Reaction). r.entry) e, c.forces.ensures.1 ∙ ap (λ (r : Reaction). r.answer) e)
