use Rattle.std.proofs.Common.{◌≡◌, ◌-◌, ◌≤◌, length, Some, refl, ◌∙◌, arith}
use Rattle.std.specs.Prelude.{slice_get}
use Rattle.std.proofs.lemmas.Option.{slice_get_read}
use Rattle.transcript_trees.proofs.TreeLemmas.{answered_at, set_same, unchanged_is}
use Rattle.transcript_trees.proofs.trees.Trees.answer.Goals as goal

pub returns-clause-answers : goal.returns-clause-answers
returns-clause-answers c trees are =
    let kept = c.args.self.now.kept.items in
    let at = c.args.at - c.args.self.now.oldest in
    let old = c.index_mut.result.now in
    let low : c.args.self.now.oldest ≤ c.args.at = omega (arith, c.if-at-self.false) in
    let there : slice_get kept at ≡ Some old = slice_get_read kept (length kept) at old refl (omega (arith, c.if-at-self-2.false, c.len.ensures)) c.index_mut.ensures.value in
    let came = c.in_ok-of.ensures {u = tt} in
    record {
      tree = old;
      new = c.of.new.tree;
      there = answered_at trees kept c.args.self.now.oldest c.args.at old are.kept low there;
      comes = came.comes;
      same = λ none.
          let unchanged = unchanged_is old c.of.new.tree c.in_ok-of.field-0 _ came.comes none in
          record { kept = rw unchanged (set_same kept at old there) ∙ are.kept; last = are.last };
    }
