use Rattle.std.proofs.Common.{◌≡◌, ℕ, List, Some, ap, sym, subst, ◌∙◌}
use Rattle.std.proofs.lemmas.Bool.{true≢false}
use Rattle.fs_chain.specs.ReferenceLists.{SpellReferences, references_in}
use Rattle.fs_chain.proofs.BytesLemmas.{spelled_sized, references_only, references_kept}
use Rattle.fs_chain.proofs.references.References.read.Goals as goal

pub returns-in_err-bytes-clause-only : goal.returns-in_err-bytes-clause-only
returns-in_err-bytes-clause-only c = λ r is. absurd (c.in_err-bytes.ensures.cases (spelled_sized r c.args.bytes.now is))

pub returns-then-are_references-clause-found : goal.returns-then-are_references-clause-found
returns-then-are_references-clause-found c =
    let bytes = c.in_ok-bytes.bytes.now in
    subst (SpellReferences (references_in bytes)) c.in_ok-bytes.ensures.cases.same (c.are_references.ensures.0 c.if-are_references.true)

pub returns-then-are_references-clause-only : goal.returns-then-are_references-clause-only
returns-then-are_references-clause-only c = λ r is.
    ap Some (ap references_in c.in_ok-bytes.ensures.cases.same ∙ references_only r c.args.bytes.now is)

pub returns-else-are_references-clause-only : goal.returns-else-are_references-clause-only
returns-else-are_references-clause-only c = λ r is.
    let same : c.in_ok-bytes.bytes.now ≡ c.args.bytes.now = c.in_ok-bytes.ensures.cases.same in
    let kept = subst (λ (bytes : List ℕ). SpellReferences (references_in bytes) bytes) (sym same) (references_kept r c.args.bytes.now is) in
    absurd (true≢false (sym (c.are_references.ensures.1 kept) ∙ c.if-are_references.false))
