use Rattle.std.proofs.Common.{sym, subst, ◌∙◌}
use Rattle.fs_rules.specs.declared.plain_tree.PlainTree.{PlainTree}
use Rattle.fs_rules.specs.Good.{IsGood}
use Rattle.fs_rules.specs.Respond.{IsPick}
use Rattle.fs_decisions.specs.Given.{AllAreGiven}
use Rattle.fs_tree.proofs.LeftLemmas.{good_left, told_left, given_left, made_left}
use Rattle.fs_tree.proofs.tree.Tree.respond.Goals as goal
use Rattle.fs_tree.proofs.tree.Tree.respond.Goals.{in-Some, in_default}

pub invariant_of-self : goal.invariant_of-self
invariant_of-self c =
    subst (λ (t : PlainTree). IsGood t × AllAreGiven t c.self.inside.given.counts) (sym ((c.in_err-response.ensures {u = tt}).err)) c.self.invariant

pub invariant_of-self-in-Some : goal.invariant_of-self-in-Some
invariant_of-self-in-Some c =
    let old = c.self.inside.plain in
    let start = c.requires.pick.0 in
    let picked : IsPick old c.args.call.now c.args.cred.now c.args.now start c.args.pick =
    subst (λ (t : PlainTree). IsPick t c.args.call.now c.args.cred.now c.args.now start c.args.pick) (sym c.self.view_is) c.requires.pick.1 in
    let meets = (c.in_ok-response.ensures {u = tt}).meets start picked in (
      good_left old c.carry_out.new.tree c.args.call.now c.args.cred.now c.args.now start c.in_ok-response.response meets c.self.invariant.0 c.requires.fits c.call_bytes.ensures,
      c.count.ensures c.carry_out.new.tree
          (given_left old c.carry_out.new.tree c.args.call.now c.args.cred.now c.args.now start c.in_ok-response.response meets c.self.inside.given.counts c.self.invariant.1)
          (made_left old c.carry_out.new.tree c.args.call.now c.args.cred.now c.args.now start c.in_ok-response.response meets c.in-Some.number c.in-Some.field-0-1
          (sym c.made.ensures ∙ c.in-Some.is)),
    )

pub invariant_of-self-in_default : goal.invariant_of-self-in_default
invariant_of-self-in_default c =
    let old = c.self.inside.plain in
    let start = c.requires.pick.0 in
    let picked : IsPick old c.args.call.now c.args.cred.now c.args.now start c.args.pick =
    subst (λ (t : PlainTree). IsPick t c.args.call.now c.args.cred.now c.args.now start c.args.pick) (sym c.self.view_is) c.requires.pick.1 in
    let meets = (c.in_ok-response.ensures {u = tt}).meets start picked in (
      good_left old c.carry_out.new.tree c.args.call.now c.args.cred.now c.args.now start c.in_ok-response.response meets c.self.invariant.0 c.requires.fits c.call_bytes.ensures,
      given_left old c.carry_out.new.tree c.args.call.now c.args.cred.now c.args.now start c.in_ok-response.response meets c.self.inside.given.counts c.self.invariant.1,
    )

pub returns-clause-good : goal.returns-clause-good
returns-clause-good c =
    let old = c.self.inside.plain in
    let start = c.requires.pick.0 in
    let picked : IsPick old c.args.call.now c.args.cred.now c.args.now start c.args.pick =
    subst (λ (t : PlainTree). IsPick t c.args.call.now c.args.cred.now c.args.now start c.args.pick) (sym c.self.view_is) c.requires.pick.1 in
    let meets = (c.in_ok-response.ensures {u = tt}).meets start picked in
    let good = good_left old c.carry_out.new.tree c.args.call.now c.args.cred.now c.args.now start c.in_ok-response.response meets c.self.invariant.0 c.requires.fits c.call_bytes.ensures in
    elim c.match-made.branch [ in-Some w ↦ subst IsGood (sym w.self-is) good | in_default w ↦ subst IsGood (sym w.self-is) good ]

pub returns-clause-told : goal.returns-clause-told
returns-clause-told c =
    let old = c.self.inside.plain in
    let start = c.requires.pick.0 in
    let picked : IsPick old c.args.call.now c.args.cred.now c.args.now start c.args.pick =
    subst (λ (t : PlainTree). IsPick t c.args.call.now c.args.cred.now c.args.now start c.args.pick) (sym c.self.view_is) c.requires.pick.1 in
    told_left old c.carry_out.new.tree c.args.call.now c.args.cred.now c.args.now start c.in_ok-response.response ((c.in_ok-response.ensures {u = tt}).meets start picked) c.self.invariant.0
