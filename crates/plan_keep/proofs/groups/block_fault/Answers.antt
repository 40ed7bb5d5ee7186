use Rattle.std.proofs.Common.{◌+◌, ◌*◌, Option, refl, sym, subst, ◌∙◌, arith}
use Rattle.std.specs.Prelude.{IsSome, IfSome}
use Rattle.fs_layout.specs.declared.reference.Reference.{Reference}
use Rattle.fs_image.specs.Owners.{Block}
use Rattle.fs_image.specs.Stands.{IsBlock}
use Rattle.plan_parts.proofs.PlaceLemmas.{few_groups, places_inside}
use Rattle.plan_keep.proofs.GroupLemmas.{few_blocks, nth_lies}
use Rattle.plan_keep.proofs.groups.block_fault.Goals as goal

pub overflow_mul-nth : goal.overflow_mul-nth
overflow_mul-nth c =
    let few = few_groups c.args.held.now c.requires.work c.args.number c.args.group c.requires.told.0 in omega (arith, few)

pub overflow_add-nth : goal.overflow_add-nth
overflow_add-nth c =
    let few = few_groups c.args.held.now c.requires.work c.args.number c.args.group c.requires.told.0 in
    let less = few_blocks c.args.held.now c.requires.work c.args.number c.args.group c.requires.told c.args.index c.requires.inside in
    omega (arith, few, less)

pub unwrap-requires : goal.unwrap-requires
unwrap-requires c =
    let lies = nth_lies c.args.held.now c.requires.work c.args.number c.args.group c.requires.told c.args.index c.requires.inside in
    subst (λ (o : Option Reference). IsSome o) (sym (c.block_place.ensures ∙ lies.1)) refl

pub fault_at-requires-clause-inside : goal.fault_at-requires-clause-inside
fault_at-requires-clause-inside c =
    subst (λ (o : Option Reference). IfSome o (IsBlock c.args.held.now.geometry)) (sym c.block_place.ensures ∙ c.unwrap.ensures)
    (places_inside c.args.held.now c.requires.work c.args.number (Block (64 * c.args.group + c.args.index)))
