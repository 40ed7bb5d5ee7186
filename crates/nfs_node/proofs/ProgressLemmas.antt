-- What an outcome comes to, put together of what its parts do.
use Rattle.std.proofs.Common.{◌≡◌, ℕ, ◌+◌, ◌<◌, ◌≤◌, List, Result, Ok, Err, IfOk, OnOk, sym, ap, subst, arith}
use Rattle.mini_tx.specs.declared.vote.Vote.{Vote}
use Rattle.node_cache.specs.declared.want.Want.{Want}
use Rattle.node_cache.specs.Cached.{Cached}
use Rattle.tx_coord.specs.declared.outcome.Outcome.{Outcome}
use Rattle.tx_coord.specs.declared.outcome.Outcome.TheVariants as outcome
use Rattle.node_rules.specs.declared.attempt.Attempt.TheVariants as attempt
use Rattle.node_rules.specs.declared.attempt.Pending.{Pending}
use Rattle.node_rules.specs.declared.cause.Cause.{Cause}
use Rattle.node_rules.specs.declared.output.Output.TheVariants as output
use Rattle.node_rules.specs.declared.running.Running.{Running}
use Rattle.node_rules.specs.declared.running.Work.{Work}
use Rattle.node_rules.specs.End as end
use Rattle.node_rules.specs.End.{Comes, cache_after, cached_after, cause_of, work_after}
use Rattle.nfs_node.specs.declared.next.Next.{Next}
use Rattle.nfs_node.specs.declared.next.Next.TheVariants as next
use Rattle.nfs_node.specs.Progress.{IsHeld, IsRefused, again, damaged, failed, is_answered, kept, progress_of}

-- of a call that succeeded
pub if_ok : {X E : Type 0} {P R : X → Type 0} → (r : Result X E) → IfOk r P → ((x : X) → P x → R x) → IfOk r R
if_ok (Ok x) is go = go x is
if_ok (Err e) is go = tt

pub if_both : {X E : Type 0} {P R : X → Type 0} {Q : Type 0} → (r : Result X E) → IfOk r P → OnOk r Q → ((x : X) → P x → Q → R x) → IfOk r R
if_both (Ok x) is on go = go x is on
if_both (Err e) is on go = tt

module _ (work : Work) (places : List ℕ) (m : ℕ) (v : Vote) (new : Work) (is : new ≡ work_after v work) where
  pub again_of : new.failures < 8 → IsRefused work places m v (next.GoesOn new)
  again_of less =
      subst (λ w. IsRefused work places m v (next.GoesOn w)) (sym is) (again (subst (λ (w : Work). w.failures < 8) is less))

  pub failed_of : work.failures < 8 → 8 ≤ new.failures → (cause : Cause) → cause ≡ cause_of m v places
      → IsRefused work places m v (next.Ends (output.Retry new.arrival.id cause))
  failed_of few more cause same =
      let one : new.failures ≡ work.failures + 1 = ap (λ (w : Work). w.failures) is in
      subst (λ w. IsRefused work places m v (next.Ends (output.Retry w.arrival.id cause))) (sym is)
      (subst (λ c. IsRefused work places m v (next.Ends (output.Retry work.arrival.id c))) (sym same) (failed (omega (arith, few, more, one))))

module _ (r : Running) (cache : Cached) where
  abbrev ComesTo : Outcome → Next → Cached → Type 0
  ComesTo o n new = Comes r cache o (progress_of n new)

  held_by : {w : Want} {reads : List (List ℕ)} → r.attempt ≡ attempt.Fetch w → (n : Next) → IsHeld r.work w reads n → ComesTo (outcome.Committed reads) n cache
  held_by {w = w} {reads = reads} is _ (kept new one) = end.kept w reads new is one
  held_by {w = w} {reads = reads} is _ (damaged m at one) = end.damaged w reads m at is one

  pub comes_held : {w : Want} {reads : List (List ℕ)} → (o : Outcome) → o ≡ outcome.Committed reads → r.attempt ≡ attempt.Fetch w → (n : Next)
      → IsHeld r.work w reads n → Comes r cache o (progress_of n cache)
  comes_held o same is n held = subst (λ x. ComesTo x n cache) (sym same) (held_by is n held)

  pub comes_answered : {p : Pending} {reads : List (List ℕ)} (new : Cached) → (o : Outcome) → o ≡ outcome.Committed reads → r.attempt ≡ attempt.Final p
      → new ≡ cached_after p r.work.held cache → (n : Next) → n ≡ is_answered r.work p reads → Comes r cache o (progress_of n new)
  comes_answered {p = p} {reads = reads} new o same is after n answered =
      subst (λ x. ComesTo x n new) (sym same)
      (subst (λ x. ComesTo (outcome.Committed reads) x new) (sym answered)
      (subst (λ c. Comes r cache (outcome.Committed reads) (progress_of (is_answered r.work p reads) c)) (sym after) (end.answered p reads is)))

  refused_by : {m : ℕ} {v : Vote} → (n : Next) → IsRefused r.work r.places m v n → ComesTo (outcome.Refused m v) n (cache_after v cache)
  refused_by {m = m} {v = v} _ (again few) = end.again m v few
  refused_by {m = m} {v = v} _ (failed last) = end.failed m v last

  pub comes_refused : {m : ℕ} {v : Vote} (new : Cached) → (o : Outcome) → o ≡ outcome.Refused m v → new ≡ cache_after v cache → (n : Next)
      → IsRefused r.work r.places m v n → Comes r cache o (progress_of n new)
  comes_refused {m = m} {v = v} new o same after n refused =
      subst (λ x. ComesTo x n new) (sym same) (subst (λ c. ComesTo (outcome.Refused m v) n c) (sym after) (refused_by n refused))
