use Rattle.std.proofs.Common.{drop, ap, ◌∙◌}
use Rattle.std.proofs.lemmas.List.{drop_min, take_rest}
use Rattle.plan_looks.proofs.maps.inode_bits_of.Goals as goal

pub returns : goal.returns
returns c =
    take_rest c.page_of-page.result.now c.min.result ∙ ap (λ k. drop k c.page_of-page.result.now) c.min.ensures ∙ drop_min 2048 c.page_of-page.result.now
    ∙ ap (drop 2048) c.page_of-page.ensures
