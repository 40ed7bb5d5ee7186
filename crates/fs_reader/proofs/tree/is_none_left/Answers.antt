use Rattle.std.proofs.Common.{sym, ◌∙◌}
use Rattle.std.proofs.lemmas.Bool.{eqb-true, eq-eqb}
use Rattle.fs_reader.proofs.MapLemmas.{all_free, free_all}
use Rattle.fs_reader.proofs.tree.is_none_left.Goals as goal

pub returns : goal.returns
returns c = (
  λ is. all_free c.args.left.now _ (sym c.count_free.ensures ∙ eqb-true c.count_free.result _ is),
  λ free. eq-eqb c.count_free.result _ (c.count_free.ensures ∙ free_all c.args.left.now _ free),
)
