-- What the functions of a node do, as its rules say it.
use Rattle.std.proofs.Common.{◌≡◌, ℕ, ◌<◌, ◌≤◌, true, false, List, [], ◌∷◌, ◌++◌, length, drop, Option, Some, None, Result, Ok, Err, IfOk, OnOk, refl, sym, subst, ◌∙◌, arith}
use Rattle.std.specs.Prelude.{nat_eq, is_some, slice_get}
use Rattle.std.proofs.lemmas.Bool.{eqb-true, eqb-false}
use Rattle.nfs_proto.specs.declared.answer.Answer.TheVariants as answer
use Rattle.nfs_proto.specs.declared.call.Call.{Call}
use Rattle.nfs_proto.specs.declared.stamp.Stamp.{Stamp}
use Rattle.nfs_proto.specs.Answers.{answer_spelling}
use Rattle.rpc_msg.specs.declared.cred.Cred.{Cred}
use Rattle.rpc_msg.specs.Messages.{accepted}
use Rattle.fs_rules.specs.Statuses.{stale}
use Rattle.nfs_service.specs.declared.request.Request.{Request}
use Rattle.nfs_service.specs.declared.request.Request.TheVariants as request
use Rattle.nfs_service.specs.Needs.{needs_files}
use Rattle.node_cache.specs.Cached.{Cached}
use Rattle.tx_coord.specs.declared.outcome.Outcome.{Outcome}
use Rattle.node_rules.specs.declared.arrival.Arrival.{Arrival}
use Rattle.node_rules.specs.declared.cause.Cause.TheVariants as cause
use Rattle.node_rules.specs.declared.cause.Why.TheVariants as why
use Rattle.node_rules.specs.declared.node_state.NodeState.{NodeState}
use Rattle.node_rules.specs.declared.output.Output.{Output}
use Rattle.node_rules.specs.declared.output.Output.TheVariants as output
use Rattle.node_rules.specs.declared.running.Running.{Running}
use Rattle.node_rules.specs.declared.running.Work.{Work}
use Rattle.node_rules.specs.Begin.{GoesNext, IsStarted, fresh}
use Rattle.node_rules.specs.End.{Comes, Ends, GoesOn}
use Rattle.node_rules.specs.Order.{IsCacheInOrder, IsInOrder, IsWorkInOrder}
use Rattle.node_rules.specs.Plans.{Plans}
use Rattle.node_rules.specs.Steps as steps
use Rattle.node_rules.specs.Steps.{Arrives, IsEnded, IsGivenUp, came, on, over}
use Rattle.plan_laws.specs.Kept.{KeptIsInOrder}
use Rattle.nfs_node.specs.declared.next.Next.{Next}
use Rattle.nfs_node.specs.declared.next.Next.TheVariants as next
use Rattle.nfs_node.specs.Gathers.{GoesNextAfter, IsAdmitted, full, starts, waits}
use Rattle.nfs_node.specs.Progress.{IsOutcomeOf, progress_of}
use Rattle.nfs_node.proofs.OrderLemmas.{IsProgressInOrder, comes_order}
use Rattle.nfs_node.proofs.StepLemmas.{arrives_of, fewer_order, idle_order, next_idle, next_on}

-- what a call that succeeded leaves
pub on_of : {X E : Type 0} {P : X → Type 0} {Q : Type 0} → (r : Result X E) → IfOk r P → ((x : X) → P x → Q) → OnOk r Q
on_of (Ok x) is go = go x is
on_of (Err e) is go = tt

-- ---- a call of the file system

module _ (plans : Plans) (node : NodeState) (a : Arrival) where
  pub admitted_full : nat_eq (length node.waiting) 32 ≡ true → (outputs : List Output) → outputs ≡ output.Dropped a.id why.Full ∷ [] → IsAdmitted plans node a node outputs
  admitted_full many outputs is = subst (λ os. IsAdmitted plans node a node os) (sym is) (full (eqb-true (length node.waiting) 32 many))

  few_of : nat_eq (length node.waiting) 32 ≡ false → length node.waiting ≤ 32 → length node.waiting < 32
  few_of not most = let other = eqb-false (length node.waiting) 32 not in omega (arith, other, most)

  waits_by : (x : Option Running) → node.running ≡ x → is_some x ≡ true → length node.waiting < 32
      → IsAdmitted plans node a (record node { waiting = node.waiting ++ a ∷ [] }) []
  waits_by None runs is few = absurd cc
  waits_by (Some r) runs is few = waits r few runs

  pub admitted_waits : nat_eq (length node.waiting) 32 ≡ false → length node.waiting ≤ 32 → is_some node.running ≡ true → (w : List Arrival)
      → w ≡ node.waiting ++ a ∷ [] → (outputs : List Output) → outputs ≡ [] → IsAdmitted plans node a (record node { waiting = w }) outputs
  admitted_waits not most runs w is outputs none =
      subst (λ os. IsAdmitted plans node a (record node { waiting = w }) os) (sym none)
      (subst (λ x. IsAdmitted plans node a (record node { waiting = x }) []) (sym is) (waits_by node.running refl runs (few_of not most)))

  none_by : (x : Option Running) → is_some x ≡ false → x ≡ None
  none_by None is = refl
  none_by (Some r) is = absurd cc

  pub admitted_starts : nat_eq (length node.waiting) 32 ≡ false → length node.waiting ≤ 32 → is_some node.running ≡ false → (work : Work)
      → work ≡ fresh node.geometry a → (new : NodeState) (o : Output) → IsStarted plans node work new o → (outputs : List Output) → outputs ≡ o ∷ []
      → IsAdmitted plans node a new outputs
  admitted_starts not most rests work is new o started outputs only =
      subst (λ os. IsAdmitted plans node a new os) (sym only)
      (starts new o (few_of not most) (none_by node.running rests) (subst (λ x. IsStarted plans node x new o) is started))

-- ---- a datagram

module _ (plans : Plans) (node : NodeState) (id : ℕ) (now : Stamp) (q : Request) where
  pub arrives_silent : q ≡ request.Silent → (outputs : List Output) → outputs ≡ output.Dropped id why.Silent ∷ [] → Arrives plans node id now q node outputs
  arrives_silent same outputs is =
      subst (λ r. Arrives plans node id now r node outputs) (sym same) (subst (λ os. Arrives plans node id now request.Silent node os) (sym is) steps.silent)

  pub arrives_told : (reply : List ℕ) → q ≡ request.Told reply → (outputs : List Output) → outputs ≡ output.Reply id reply ∷ [] → Arrives plans node id now q node outputs
  arrives_told reply same outputs is =
      subst (λ r. Arrives plans node id now r node outputs) (sym same)
      (subst (λ os. Arrives plans node id now (request.Told reply) node os) (sym is) (steps.told reply))

  module _ (xid : ℕ) (call : Call) (cred : Cred) (same : q ≡ request.Asked xid call cred) where
    pub arrives_foreign : needs_files node.geometry q ≡ false → (outputs : List Output)
        → outputs ≡ output.Reply id (accepted xid (answer_spelling (answer.Fault stale))) ∷ [] → Arrives plans node id now q node outputs
    arrives_foreign needs outputs is =
        subst (λ r. Arrives plans node id now r node outputs) (sym same)
        (subst (λ os. Arrives plans node id now (request.Asked xid call cred) node os) (sym is)
        (steps.foreign xid call cred (subst (λ r. needs_files node.geometry r ≡ false) same needs)))

    pub arrives_admitted : needs_files node.geometry q ≡ true → (new : NodeState) (outputs : List Output) → IsAdmitted plans node (came id now xid call cred) new outputs
        → Arrives plans node id now q new outputs
    arrives_admitted needs new outputs admitted =
        subst (λ r. Arrives plans node id now r new outputs) (sym same)
        (arrives_of plans node id now xid call cred (subst (λ r. needs_files node.geometry r ≡ true) same needs) new outputs admitted)

-- ---- an outcome

module _ (node : NodeState) (r : Running) (runs : node.running ≡ Some r) (o : Outcome) (law : KeptIsInOrder) (order : IsInOrder node) (fits : IsOutcomeOf r o) where
  ended_order : (n : Next) (cache : Cached) → Comes r node.cache o (progress_of n cache) → IsProgressInOrder node.geometry (progress_of n cache)
  ended_order n cache comes = comes_order node.geometry r node.cache law (order.running r runs) o (progress_of n cache) fits comes

  pub ends_order : (n : Next) (cache : Cached) (out : Output) → n ≡ next.Ends out → Comes r node.cache o (progress_of n cache) → IsCacheInOrder node.geometry cache
  ends_order n cache out is comes = subst (λ x. IsProgressInOrder node.geometry (progress_of x cache)) is (ended_order n cache comes)

  pub goes_on_order : (n : Next) (cache : Cached) (work : Work) → n ≡ next.GoesOn work → Comes r node.cache o (progress_of n cache) → IsWorkInOrder node.geometry cache work
  goes_on_order n cache work is comes = subst (λ x. IsProgressInOrder node.geometry (progress_of x cache)) is (ended_order n cache comes)

module _ (plans : Plans) (node : NodeState) (r : Running) (runs : node.running ≡ Some r) (o : Outcome) (n : Next) (cache : Cached)
    (comes : Comes r node.cache o (progress_of n cache)) where
  pub ended_on : (x : Option Running) → x ≡ None → (work : Work) → n ≡ next.GoesOn work → (new : NodeState) (out : Output)
      → IsStarted plans (record node { cache = cache; running = x }) work new out → (outputs : List Output) → outputs ≡ out ∷ [] → IsEnded plans node o new outputs
  ended_on x none work is new out started outputs only =
      subst (λ os. IsEnded plans node o new os) (sym only) (record {
        running = r;
        runs = runs;
        progress = GoesOn work cache;
        comes = subst (λ x. Comes r node.cache o (progress_of x cache)) is comes;
        goes = on work cache new out (subst (λ y. IsStarted plans (record node { cache = cache; running = y }) work new out) none started);
      })

  pub ended_over : (x : Option Running) → x ≡ None → (out : Output) → n ≡ next.Ends out → (new : NodeState) (outputs : List Output)
      → GoesNextAfter plans out (record node { cache = cache; running = x }) new outputs → IsEnded plans node o new outputs
  ended_over x none out is new outputs goes =
      subst (λ os. IsEnded plans node o new os) (sym goes.outputs_are) (record {
        running = r;
        runs = runs;
        progress = Ends out cache;
        comes = subst (λ x. Comes r node.cache o (progress_of x cache)) is comes;
        goes = over out cache new goes.rest (subst (λ y. GoesNext plans (record node { cache = cache; running = y }) new goes.rest) none goes.next);
      })

pub given_up_of : (plans : Plans) (node : NodeState) (r : Running) → node.running ≡ Some r → (new : NodeState) (outputs : List Output)
    → (x : Option Running) → x ≡ None → GoesNextAfter plans (output.Retry r.work.arrival.id cause.Unreached) (record node { running = x }) new outputs
    → IsGivenUp plans node new outputs
given_up_of plans node r runs new outputs x none goes =
    record {
      running = r;
      runs = runs;
      rest = goes.rest;
      next = subst (λ y. GoesNext plans (record node { running = y }) new goes.rest) none goes.next;
      outputs_are = goes.outputs_are;
    }

-- a node that rests is in order with any cache in order
pub idle_again : (node : NodeState) → IsInOrder node → (cache : Cached) → IsCacheInOrder node.geometry cache → (x : Option Running) → x ≡ None
    → IsInOrder (record node { cache = cache; running = x })
idle_again node order cache fits x none = subst (λ y. IsInOrder (record node { cache = cache; running = y })) (sym none) (idle_order node order cache fits)

-- ---- the next one

module _ (node : NodeState) (order : IsInOrder node) where
  pub popped_order : (w : List Arrival) → w ≡ drop 1 node.waiting → IsInOrder (record node { waiting = w })
  popped_order w is = subst (λ x. IsInOrder (record node { waiting = x })) (sym is) (fewer_order node order)

module _ (plans : Plans) (node : NodeState) (rests : node.running ≡ None) (first : Option Arrival) (gives : first ≡ slice_get node.waiting 0) (w : List Arrival)
    (after : w ≡ drop 1 node.waiting) where
  pub idle_of : first ≡ None → (outputs : List Output) → outputs ≡ [] → GoesNext plans node (record node { waiting = w }) outputs
  idle_of none outputs empty =
      subst (λ os. GoesNext plans node (record node { waiting = w }) os) (sym empty)
      (subst (λ x. GoesNext plans node (record node { waiting = x }) []) (sym after) (next_idle plans node rests (sym gives ∙ none)))

  pub next_of : (a : Arrival) → first ≡ Some a → (work : Work) → work ≡ fresh node.geometry a → (new : NodeState) (o : Output)
      → IsStarted plans (record node { waiting = w }) work new o → (outputs : List Output) → outputs ≡ o ∷ [] → GoesNext plans node new outputs
  next_of a some work is new o started outputs only =
      subst (λ os. GoesNext plans node new os) (sym only)
      (next_on plans node rests a work new o (sym gives ∙ some) is (subst (λ x. IsStarted plans (record node { waiting = x }) work new o) after started))
