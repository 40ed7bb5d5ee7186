use Rattle.std.proofs.Common.{◌≡◌, ◌+◌, ◌-◌, ◌*◌, List, Option, Some, None, Ok, get_or, refl, ap, subst, sym, ◌∙◌, arith}
use Rattle.std.specs.Prelude.{slice_get}
use Rattle.std.specs.Result.{IsOk}
use Rattle.fs_layout.specs.declared.reference.Reference.{Reference}
use Rattle.fs_layout.specs.References.{IsReference}
use Rattle.fs_chain.specs.ReferenceLists.{references_in}
use Rattle.fs_chain.proofs.ReferencesLemmas.{reference_fits, ok_one}
use Rattle.fs_chain.proofs.BytesLemmas.{reference_kept, element_at}
use Rattle.fs_chain.proofs.references.References.get.Goals as goal

-- what was read is the reference at the index
read : (c : goal.After-reference_of) → c.reference_of.result ≡ Ok (get_or (references_in c.self.inside.bytes) c.args.index None)
read c =
    let i = c.args.index in
    let kept = reference_kept (references_in c.self.inside.bytes) c.self.inside.bytes i (8 * i + 8 - 8 * i) c.self.invariant c.requires (omega arith) in
    c.reference_of.ensures.only (get_or (references_in c.self.inside.bytes) i None) kept.0 kept.1

-- and what is answered
answered : (c : goal.After-unwrap) → get_or (references_in c.self.inside.bytes) c.args.index None ≡ c.unwrap.result
answered c = ok_one c.reference_of.result (get_or (references_in c.self.inside.bytes) c.args.index None) c.unwrap.result (read c.before) c.unwrap.ensures

pub unwrap-requires : goal.unwrap-requires
unwrap-requires c = subst IsOk (sym (read c)) refl

pub returns-clause-found : goal.returns-clause-found
returns-clause-found c =
    let rs = references_in c.self.inside.bytes in
    let i = c.args.index in
    ap (λ (ts : List (Option Reference)). slice_get ts i) (sym c.self.view_is)
    ∙ element_at rs i (omega (arith, c.self.invariant.sized))
    ∙ ap Some (answered c)

pub returns-clause-word : goal.returns-clause-word
returns-clause-word c =
    let i = c.args.index in
    let kept = reference_kept (references_in c.self.inside.bytes) c.self.inside.bytes i 8 c.self.invariant c.requires (omega arith) in
    subst IsReference (answered c) (reference_fits (get_or (references_in c.self.inside.bytes) i None) kept.0)
