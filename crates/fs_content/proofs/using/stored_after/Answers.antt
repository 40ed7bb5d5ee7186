use Rattle.std.proofs.Common.{◌≡◌, ◌+◌, sym, ap, ◌∙◌, arith}
use Rattle.fs_content.proofs.UsedLemmas.{len_begun, len_absent, len_there}
use Rattle.fs_content.proofs.using.stored_after.Goals as goal
use Rattle.fs_content.proofs.using.stored_after.Goals.{in-Some, in-None}

pub loop-index-init : goal.loop-index-init
loop-index-init c = record {
  exact = λ block. len_begun block c.args.first c.args.blocks.now c.len-stored.result c.args.first c.len-stored.ensures.len;
  small = omega arith;
}

pub loop-index-preserved : goal.loop-index-preserved
loop-index-preserved c =
    elim c.match-get.branch [
      | in-Some w ↦ record {
        exact = λ block.
            (let e : c.loop-index.stored + c.match-get.stored ≡ c.loop-index.stored = omega (arith, w.stored-is) in e)
            ∙ len_there block c.args.first c.args.blocks.now c.loop-index.index c.loop-index.stored _ c.loop-index.auto.index (c.loop-index.invariant.exact block) (sym w.in-Some.ensures);
        small = omega (arith, w.stored-is, c.loop-index.invariant.small);
      }
      | in-None w ↦ record {
        exact = λ block.
            ap (λ n. c.loop-index.stored + n) w.stored-is
            ∙ len_absent block c.args.first c.args.blocks.now c.loop-index.index c.loop-index.stored c.loop-index.auto.index (c.loop-index.invariant.exact block) (sym w.in-None.ensures);
        small = omega (arith, w.stored-is, c.loop-index.invariant.small);
      }
    ]
