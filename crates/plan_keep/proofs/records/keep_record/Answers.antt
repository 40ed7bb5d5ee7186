use Rattle.std.proofs.Common.{◌≡◌, [], ◌∷◌, sym, ap, ◌∙◌}
use Rattle.plan_keep.proofs.UnfitLemmas.{unfit_record}
use Rattle.plan_keep.proofs.records.keep_record.Goals as goal

pub returns-in-None-clause-damaged : goal.returns-in-None-clause-damaged
returns-in-None-clause-damaged c = λ m at is.
    let is_m : c.memory_of.result ≡ m = cc in
    let is_at : c.record_place.result ≡ at = cc in
    unfit_record c.args.held.now c.args.number m at c.as_slice.result.now c.args.reads.now
    (c.only.ensures ∙ ap (λ b. b ∷ []) (sym c.as_slice.ensures.value)) c.in-None.ensures.none (sym is_m ∙ c.memory_of.ensures) (sym is_at ∙ c.record_place.ensures.value)
