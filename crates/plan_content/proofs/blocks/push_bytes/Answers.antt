use Rattle.std.proofs.Common.{Option, subst, sym, ◌∙◌}
use Rattle.std.specs.Prelude.{IfSome}
use Rattle.fs_layout.specs.declared.reference.Reference.{Reference}
use Rattle.fs_image.specs.Owners.{Block}
use Rattle.fs_image.specs.Stands.{IsBlock}
use Rattle.plan_parts.proofs.PlaceLemmas.{places_inside}
use Rattle.plan_content.proofs.blocks.push_bytes.Goals as goal

pub bytes_read-requires-clause-inside : goal.bytes_read-requires-clause-inside
bytes_read-requires-clause-inside c =
    let held = c.args.held.now in
    subst (λ (p : Option Reference). IfSome p (IsBlock held.geometry)) (sym c.block_place.ensures ∙ c.in-Some.is)
    (places_inside held c.requires.work c.args.number (Block c.args.index))
