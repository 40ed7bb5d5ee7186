use Rattle.std.proofs.Common.{◌++◌, ◌-◌, ℕ, List, [], ◌∷◌, ap, ◌∙◌}
use Rattle.mini_tx.specs.FreshImages.{zeros}
use Rattle.node_disk.proofs.FreshNodeLemmas.{first_is}
use Rattle.node_disk.proofs.images.fresh_first.Goals as goal

pub returns : goal.returns
returns c =
    let one = c.in_ok-push.ensures.items ∙ ap (λ (x : List ℕ). x ++ 0x80 ∷ []) c.in_ok-push_zeros.ensures in
    let two = c.in_ok-push_zeros-2.ensures ∙ ap (λ (x : List ℕ). x ++ zeros 2047) one in
    let three = c.in_ok-extend_from_slice.ensures.items ∙ ap (λ (x : List ℕ). x ++ c.root_record.result) two in
    c.in_ok-push_zeros-3.ensures ∙ ap (λ (x : List ℕ). x ++ zeros (c.image_bytes.result - 8320)) three
    ∙ first_is c.args.setup.geometry c.args.setup.index (c.image_bytes.result - 8320) c.in_ok-image.image.items c.root_record.result c.requires.first c.requires.setup.inodes.0
    c.in_ok-image.ensures c.root_record.ensures (ap (λ (k : ℕ). k - 8320) c.image_bytes.ensures.size)
