use Rattle.std.proofs.Common.{refl, sym, subst, ◌∙◌}
use Rattle.std.specs.FinMap.{entries}
use Rattle.std.proofs.lemmas.Bool.{true≢false}
use Rattle.fs_good.specs.Places.{IsStoredBlock}
use Rattle.fs_good.proofs.LoopLemmas.{Left, is_no, left_not, left_none, stored_from, stored_to}
use Rattle.fs_good.proofs.stored.is_stored.Goals as goal

pub returns-then-not-is_block : goal.returns-then-not-is_block
returns-then-not-is_block c =
    is_no (λ stored. left_not (λ e. IsStoredBlock c.args.size e.0 e.1) c.args.blocks.now (c.in-Some.index.now, c.in-Some.bytes.now) c.next.new.self
    (subst (λ es. Left (λ e. IsStoredBlock c.args.size e.0 e.1) es (entries c.args.blocks.now)) c.in-Some.ensures.steps c.loop-index.invariant)
    (λ holds. true≢false (sym (c.is_block.ensures.1 (subst (IsStoredBlock c.args.size c.in-Some.index.now) (sym c.as_slice.ensures.value) holds)) ∙ c.if-not-is_block.true))
    (stored_to c.args.size c.args.blocks.now stored))

pub returns : goal.returns
returns c = (
  λ _. stored_from c.args.size c.args.blocks.now (left_none (λ e. IsStoredBlock c.args.size e.0 e.1) c.args.blocks.now
      (subst (λ es. Left (λ e. IsStoredBlock c.args.size e.0 e.1) es (entries c.args.blocks.now)) c.in-None.ensures.steps.0 c.loop-index.invariant)),
  λ _. refl,
)
