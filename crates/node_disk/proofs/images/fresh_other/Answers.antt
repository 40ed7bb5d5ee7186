use Rattle.std.proofs.Common.{◌-◌, ℕ, ap, ◌∙◌}
use Rattle.node_disk.proofs.FreshNodeLemmas.{other_is}
use Rattle.node_disk.proofs.images.fresh_other.Goals as goal

pub returns : goal.returns
returns c =
    let size = c.image_bytes.result in
    let left = c.image_bytes.ensures.size in
    c.in_ok-push_zeros.ensures
    ∙ other_is c.args.setup.geometry c.args.setup.index (c.image_bytes.result - 4096) c.in_ok-image.image.items c.requires.other c.in_ok-image.ensures
    (ap (λ (n : ℕ). n - 4096) c.image_bytes.ensures.size)
