use Rattle.std.proofs.Common.{take, ap, ◌∙◌}
use Rattle.std.proofs.lemmas.List.{take_min}
use Rattle.plan_looks.proofs.maps.block_bits_of.Goals as goal

pub returns : goal.returns
returns c =
    ap (λ k. take k c.page_of-page.result.now) c.min.ensures ∙ take_min 2048 c.page_of-page.result.now ∙ ap (take 2048) c.page_of-page.ensures
