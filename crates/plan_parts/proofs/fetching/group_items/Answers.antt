use Rattle.std.proofs.Common.{◌+◌, ◌*◌, ◌++◌, sym, ap, ◌∙◌}
use Rattle.fs_image.specs.Owners.{Block}
use Rattle.plan_rules.specs.Compared.{stamp_items}
use Rattle.plan_rules.specs.Fetched.{part_read}
use Rattle.plan_parts.proofs.PlaceLemmas.{none_yet, one_more}
use Rattle.plan_parts.proofs.fetching.group_items.Goals as goal

pub loop-index-init : goal.loop-index-init
loop-index-init c =
    let held = c.args.held.now in
    c.in_ok-push_stamp.ensures ∙ ap (λ xs. xs ++ stamp_items held c.args.number) c.new-items.ensures
    ∙ sym (none_yet (stamp_items held c.args.number) (λ j. part_read held c.args.number (Block (64 * c.args.group + j))))

pub loop-index-preserved : goal.loop-index-preserved
loop-index-preserved c =
    let held = c.args.held.now in
    c.in_ok-push_nth.ensures ∙ ap (λ xs. xs ++ part_read held c.args.number (Block (64 * c.args.group + c.loop-index.index))) c.loop-index.invariant
    ∙ one_more (stamp_items held c.args.number) (λ j. part_read held c.args.number (Block (64 * c.args.group + j))) c.loop-index.index
