use Rattle.std.proofs.Common.{sym, subst, arith}
use Rattle.mem_rules.specs.Fit.{AreInside, size_of}
use Rattle.mem_rules.proofs.ItemLemmas.{valid_inside, small_image}
use Rattle.mem_rules.proofs.memory.Memory.on_prepare.Goals as goal

pub rule_for-requires-clause-inside : goal.rule_for-requires-clause-inside
rule_for-requires-clause-inside c = valid_inside c.args.self.now.setup.geometry.memories (size_of c.args.self.now.setup) c.args.items.now c.requires.valid

pub vote-requires : goal.vote-requires
vote-requires c =
    subst (λ n. AreInside n c.args.items.now) (sym c.args.self.now.good.image)
    (valid_inside c.args.self.now.setup.geometry.memories (size_of c.args.self.now.setup) c.args.items.now c.requires.valid)

pub entry_of-requires : goal.entry_of-requires
entry_of-requires c = λ k d below.
    let within = valid_inside c.args.self.now.setup.geometry.memories (size_of c.args.self.now.setup) c.args.items.now c.requires.valid k d below in
    let ends = within.1 in
    omega (arith, ends, small_image c.args.self.now.setup c.args.self.now.valid)
