use Rattle.std.proofs.Common.{◌≡◌, get_or, ◌-◌, ◌+◌, ◌<◌, ◌≤◌, ◌∷◌, ◌++◌, [], length, drop, Some, refl, sym, ap, ◌∙◌, arith, length-append, length-drop}
use Rattle.std.specs.Prelude.{slice_get}
use Rattle.std.proofs.lemmas.Option.{slice_get_read}
use Rattle.transcript_trees.proofs.TreeLemmas.{last_kept, kept_more}
use Rattle.transcript_trees.proofs.trees.Trees.step_copied.Goals as goal

pub returns-clause-step : goal.returns-clause-step
returns-clause-step c trees are =
    let kept = c.args.self.now.kept.items in
    let old = c.in_ok-tree.tree in
    let new = c.of.new.tree in
    let oldest = c.args.self.now.oldest in
    let passed = c.args.keep - c.min.result in
    let some = c.requires.there in
    let same : old ≡ c.index.result.now = c.in_ok-tree.ensures {u = tt} in
    let count : c.len.result ≡ length kept = c.len.ensures ∙ c.args.self.now.kept.ok.0 in
    let read : old ≡ get_or kept (length kept - 1) old = (same ∙ c.index.ensures ∙ ap (λ n. get_or kept (n - 1) c.index.result.now) count ∙ ap (get_or kept (length kept - 1)) (sym same)) in
    let there : slice_get kept (length kept - 1) ≡ Some old = slice_get_read kept (length kept) (length kept - 1) old refl (omega (arith, some)) read in
    let came = c.in_ok-outcome.ensures {u = tt} in
    let many : length kept ≡ length trees - oldest = ap length are.kept ∙ length-drop oldest trees in
    let more : length (trees ++ new ∷ []) ≡ length trees + 1 = length-append trees (new ∷ []) in
    let last = are.last in
    let bound = c.requires.keep in
    let least = c.min.ensures in
    record {
      tree = old;
      new = new;
      there = last_kept trees kept oldest old are.kept are.last there;
      comes = came.comes;
      kept = record {
        kept = c.drop_front.ensures ∙ ap (drop passed) ((c.in_ok-push.ensures {u = tt}).items) ∙ kept_more trees kept oldest passed new are.kept are.last;
        last = omega (arith, many, more, last, bound, least);
      };
    }
