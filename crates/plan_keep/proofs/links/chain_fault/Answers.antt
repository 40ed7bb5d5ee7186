use Rattle.std.proofs.Common.{Option, refl, sym, subst, ◌∙◌}
use Rattle.std.specs.Prelude.{IsSome, IfSome}
use Rattle.fs_layout.specs.declared.reference.Reference.{Reference}
use Rattle.fs_image.specs.Owners.{Chain}
use Rattle.fs_image.specs.Stands.{IsBlock}
use Rattle.plan_parts.proofs.PlaceLemmas.{places_inside}
use Rattle.plan_keep.proofs.ToldLemmas.{chain_lies}
use Rattle.plan_keep.proofs.links.chain_fault.Goals as goal

pub unwrap-requires : goal.unwrap-requires
unwrap-requires c =
    let lies = chain_lies c.args.held.now c.requires.work c.args.number c.args.index c.requires.told in
    subst (λ (o : Option Reference). IsSome o) (sym (c.chain_place.ensures ∙ lies.1)) refl

pub fault_at-requires-clause-inside : goal.fault_at-requires-clause-inside
fault_at-requires-clause-inside c =
    subst (λ (o : Option Reference). IfSome o (IsBlock c.args.held.now.geometry)) (sym c.chain_place.ensures ∙ c.unwrap.ensures)
    (places_inside c.args.held.now c.requires.work c.args.number (Chain c.args.index))
