use Rattle.std.proofs.Common.{◌≡◌, get_or, ◌-◌, ◌+◌, ◌<◌, ◌≤◌, ◌∷◌, ◌++◌, [], length, drop, Some, refl, sym, ap, ◌∙◌, arith, length-append, length-drop}
use Rattle.std.specs.Prelude.{slice_get, slice_set}
use Rattle.std.proofs.lemmas.Option.{slice_get_read}
use Rattle.transcript_trees.proofs.TreeLemmas.{last_kept, drop_set_last, alone_kept}
use Rattle.transcript_trees.proofs.trees.Trees.step_in_place.Goals as goal

pub returns-clause-step : goal.returns-clause-step
returns-clause-step c trees are =
    let kept = c.args.self.now.kept.items in
    let old = c.index_mut.result.now in
    let new = c.of.new.tree in
    let oldest = c.args.self.now.oldest in
    let count : c.len-last.result ≡ length kept = c.len-last.ensures ∙ c.args.self.now.kept.ok.0 in
    let some = c.requires.there in
    let there : slice_get kept (length kept - 1) ≡ Some old = slice_get_read kept (length kept) (length kept - 1) old refl (omega (arith, some)) (c.index_mut.ensures.value ∙ ap (λ n. get_or kept (n - 1) old) count) in
    let came = c.in_ok-outcome.ensures {u = tt} in
    let many : length kept ≡ length trees - oldest = ap length are.kept ∙ length-drop oldest trees in
    let more : length (trees ++ new ∷ []) ≡ length trees + 1 = length-append trees (new ∷ []) in
    let last = are.last in
    record {
      tree = old;
      new = new;
      there = last_kept trees kept oldest old are.kept are.last there;
      comes = came.comes;
      kept = record {
        kept = c.drop_front.ensures ∙ ap (λ n. drop (n - 1) (slice_set kept (n - 1) new)) count ∙ drop_set_last kept new some ∙ alone_kept trees kept oldest new are.kept are.last
            ∙ ap (λ n. drop n (trees ++ new ∷ [])) (omega (arith, count, some));
        last = omega (arith, many, more, last, count);
      };
    }
