use Rattle.std.proofs.Common.{sym, ◌∙◌}
use Rattle.plan_rules.specs.declared.look.Look.TheVariants as look
use Rattle.plan_looks.proofs.GoesLemmas.{looks_on, looks_in_vain}
use Rattle.plan_looks.proofs.maps.look_block_bits.Goals as goal

pub returns-then-not-has_maps-clause-goes : goal.returns-then-not-has_maps-clause-goes
returns-then-not-has_maps-clause-goes c =
    looks_in_vain c.args.held.now (look.BlockBits c.args.memory) (sym c.has_maps.ensures ∙ c.if-not-has_maps.true)

pub returns-clause-goes : goal.returns-clause-goes
returns-clause-goes c =
    looks_on c.args.held.now (look.BlockBits c.args.memory) c.args.looks.now c.push.new.self (sym c.has_maps.ensures ∙ c.if-not-has_maps.false) ((c.in_ok-push.ensures {u = tt}).ok)
