use Rattle.std.proofs.Common.{◌≡◌, [], ◌∷◌, Option, sym, ap, subst, ◌∙◌}
use Rattle.std.specs.Prelude.{IfSome}
use Rattle.fs_layout.specs.declared.reference.Reference.{Reference}
use Rattle.plan_keep.specs.declared.keep_fault.KeepFault.TheVariants.{Damaged}
use Rattle.plan_keep.specs.Links.{LiesThere}
use Rattle.plan_keep.proofs.ToldLemmas.{chain_lies, few_chains}
use Rattle.plan_keep.proofs.UnfitLemmas.{unfit_chain}
use Rattle.plan_keep.proofs.links.keep_chain.Goals as goal

pub link_in-requires : goal.link_in-requires
link_in-requires c = few_chains c.args.held.now c.requires.work c.args.number c.args.index c.requires.told

pub returns-in-None-clause-damaged : goal.returns-in-None-clause-damaged
returns-in-None-clause-damaged c = λ m at is.
    let held = c.args.held.now in
    let lies = chain_lies held c.requires.work c.args.number c.args.index c.requires.told in
    let fault : c.chain_fault.result ≡ Damaged m at = cc in
    let there : LiesThere held.geometry lies.0 m at =
    subst (λ (o : Option Reference). IfSome o (λ r. LiesThere held.geometry r m at)) lies.1 (c.chain_fault.ensures m at fault) in
    unfit_chain held c.args.number c.args.index m at c.as_slice.result.now c.args.reads.now lies.0
    (c.only.ensures ∙ ap (λ b. b ∷ []) (sym c.as_slice.ensures.value)) c.in-None.ensures.none lies.1 there
