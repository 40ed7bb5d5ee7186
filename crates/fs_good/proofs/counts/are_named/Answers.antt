use Rattle.fs_good.proofs.CountLemmas.{all_named, named_counted}
use Rattle.fs_good.proofs.counts.are_named.Goals as goal

pub returns : goal.returns
returns c = (
  λ is. all_named c.args.tree.now c.requires c.in_ok-counts.counts c.in_ok-counts.ensures (c.are_due.ensures.0 is),
  λ named. c.are_due.ensures.1 (named_counted c.args.tree.now c.requires c.in_ok-counts.counts c.in_ok-counts.ensures named),
)
