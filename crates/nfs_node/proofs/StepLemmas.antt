-- The steps of a node, put together of what its functions do.
use Rattle.std.proofs.Common.{◌≡◌, ℕ, true, false, cond, Bool, List, [], ◌∷◌, ◌++◌, drop, Some, None, Result, Ok, Err, refl, sym, ap, subst, ◌∙◌}
use Rattle.std.specs.Prelude.{◌==◌, slice_get}
use Rattle.std.specs.List.{AllByRecursion}
use Rattle.fs_rules.specs.declared.geometry.Geometry.{Geometry}
use Rattle.nfs_proto.specs.declared.call.Call.{Call}
use Rattle.nfs_proto.specs.declared.stamp.Stamp.{Stamp}
use Rattle.sfs_xdr.specs.declared.arg_fault.ArgFault.{ArgFault}
use Rattle.rpc_msg.specs.declared.cred.Cred.{Cred}
use Rattle.rpc_msg.specs.Heard.{Called, Outcome}
use Rattle.rpc_msg.specs.Heard as heard_as
use Rattle.rpc_msg.specs.Hearing.{as_they_are, heard_of}
use Rattle.nfs_proto.specs.Arguments.{args_of}
use Rattle.mount_proto.specs.Mount.{answer_of}
use Rattle.nfs_service.specs.declared.request.Request.{Request}
use Rattle.nfs_service.specs.declared.request.Request.TheVariants as request
use Rattle.nfs_service.specs.Reply.{asked_of_files, asked_to_mount, does_nothing, heard, requested, with_arguments, with_mount}
use Rattle.nfs_service.specs.Needs.{needs_files}
use Rattle.rpc_msg.specs.Messages.{accepted}
use Rattle.node_cache.specs.declared.held.Held.{Held}
use Rattle.node_cache.specs.Cached.{Cached}
use Rattle.plan_rules.specs.Works.{IsWorkSet}
use Rattle.node_rules.specs.declared.arrival.Arrival.{Arrival}
use Rattle.node_rules.specs.declared.node_state.NodeState.{NodeState}
use Rattle.node_rules.specs.declared.output.Output.{Output}
use Rattle.plan_forms.specs.declared.plan.Plan.{Plan}
use Rattle.plan_forms.specs.declared.plan.Plan.TheVariants as plan
use Rattle.node_rules.specs.declared.running.Running.{Running}
use Rattle.node_rules.specs.declared.running.Work.{Work}
use Rattle.node_rules.specs.Begin.{GoesNext, IsPlanned, IsStarted, begun_by, begun_output, fresh, idle, next, running_with, stock_of}
use Rattle.node_rules.specs.Order.{IsAttemptInOrder, IsCacheInOrder, IsInOrder, IsRunningInOrder, IsStockInOrder, IsWorkInOrder}
use Rattle.node_rules.specs.Plans.{Plans, IsServed, IsSound, IsWantTold, read_sizes}
use Rattle.node_rules.specs.Stock.{Stock}
use Rattle.node_rules.specs.Steps as steps
use Rattle.node_rules.specs.Steps.{Arrives, came}
use Rattle.nfs_node.specs.Gathers.{IsAdmitted, IsBegun, IsGathered, IsLacking, IsReady, full, starts, waits}

-- ---- what a request that is heard asks

module _ (xid : ℕ) (call : Call) (cred : Cred) where
  abbrev Asks : Request → Type 0
  Asks r = r ≡ request.Asked xid call cred

  by_doing : (x : ℕ) (c : Call) (who : Cred) (b : Bool) → does_nothing c ≡ b → Asks (cond b (request.Told (accepted x [])) (request.Asked x c who)) → does_nothing call ≡ false
  by_doing x c who true is asks = absurd cc
  by_doing x c who false is asks = let same : c ≡ call = cc in subst (λ (d : Call). does_nothing d ≡ false) same is

  by_arguments : (x : ℕ) (who : Cred) (r : Result Call ArgFault) → Asks (with_arguments x who r) → does_nothing call ≡ false
  by_arguments x who (Ok c) asks = by_doing x c who (does_nothing c) refl asks
  by_arguments x who (Err fault) asks = absurd cc

  by_mount : (x : ℕ) (r : Result (List ℕ) ArgFault) → Asks (with_mount x r) → does_nothing call ≡ false
  by_mount x (Ok body) asks = absurd cc
  by_mount x (Err fault) asks = absurd cc

  by_program : (c : Called (List ℕ)) (b : Bool) → Asks (cond b (asked_of_files c) (asked_to_mount c)) → does_nothing call ≡ false
  by_program c true asks = by_arguments c.xid c.cred (args_of c.procedure c.arguments) asks
  by_program c false asks = by_mount c.xid (answer_of c.procedure c.arguments) asks

  by_outcome : (o : Outcome (List ℕ)) → Asks (requested o) → does_nothing call ≡ false
  by_outcome (heard_as.Call c) asks = by_program c (c.program == 100003) asks
  by_outcome (heard_as.Refuse reply) asks = absurd cc
  by_outcome heard_as.Silent asks = absurd cc

  -- a call that is asked does something
  pub acts_of : (bytes : List ℕ) → request.Asked xid call cred ≡ heard bytes → does_nothing call ≡ false
  acts_of bytes is = by_outcome (heard_of as_they_are bytes) (sym is)

-- ---- an arrival goes on

pub ready : (held : Held) (p : Plan) → IsWorkSet held → IsWantTold held p → IsReady held p
ready held (plan.Need w) work told = (work, told)
ready held (plan.Final items answer made changed) work told = tt

attempt_order : (held : Held) (cache : Cached) (p : Plan) → IsWantTold held p → IsSound p → IsLacking cache p
    → IsAttemptInOrder held cache (begun_by held p).attempt (read_sizes (begun_by held p).items)
attempt_order held cache (plan.Need w) told sound lacks = record { told = told; lacks = lacks; sized = refl }
attempt_order held cache (plan.Final items answer made changed) told sound lacks = sound

module _ (plans : Plans) (node : NodeState) (work : Work) (t : Stock) (p : Plan) (new : NodeState) (o : Output)
    (all : IsGathered plans work.arrival (stock_of node work) t p) (b : IsBegun (record node { cache = t.cache }) (record work { held = t.held }) p new o) where
  pub started_of : IsStarted plans node work new o
  started_of =
      record {
        plan = p;
        planned = subst (λ (x : Stock). IsPlanned plans work.arrival x.held p) all.all all.planned;
        new_is = b.new_is
            ∙ ap (λ (x : Stock). let y : NodeState = record node { cache = x.cache; running = Some (running_with work x.held (begun_by x.held p)) } in y) all.all;
        output_is = b.output_is ∙ ap (λ (x : Stock). begun_output work.arrival.id (begun_by x.held p)) all.all;
      }

  running_order : IsWorkInOrder node.geometry node.cache work → (r : Running) → Some (running_with work t.held (begun_by t.held p)) ≡ Some r → IsRunningInOrder node.geometry t.cache r
  running_order order r is =
      let same : running_with work t.held (begun_by t.held p) ≡ r = cc in
      subst (λ (x : Running). IsRunningInOrder node.geometry t.cache x) same (record {
        work = record { served = order.served; stock = subst (λ g. IsStockInOrder g t) order.stock.size all.order; few = order.few };
        attempt = attempt_order t.held t.cache p all.told all.sound all.lacks;
      })

  pub started_order : IsInOrder node → IsWorkInOrder node.geometry node.cache work → IsInOrder new
  started_order order going =
      subst (λ (x : NodeState). IsInOrder x) (sym b.new_is) (record {
        limits = order.limits;
        cache = (subst (λ g. IsStockInOrder g t) going.stock.size all.order).cache;
        running = running_order going;
        waiting = order.waiting;
      })

-- ---- the next one starts

first_of : (xs : List Arrival) (a : Arrival) → slice_get xs 0 ≡ Some a → xs ≡ a ∷ drop 1 xs
first_of [] a is = absurd cc
first_of (x ∷ xs) a is = let same : x ≡ a = cc in ap (λ y. y ∷ xs) same

none_first : (xs : List Arrival) → slice_get xs 0 ≡ None → xs ≡ []
none_first [] is = refl
none_first (x ∷ xs) is = absurd cc

module _ (plans : Plans) (node : NodeState) (rests : node.running ≡ None) where
  pub next_idle : slice_get node.waiting 0 ≡ None → GoesNext plans node (record node { waiting = drop 1 node.waiting }) []
  next_idle is =
      let empty = none_first node.waiting is in
      let same : ◌≡◌ {A = NodeState} (record node { running = None }) (record node { waiting = drop 1 node.waiting }) =
      ap (λ r. let y : NodeState = record node { running = r } in y) (sym rests)
      ∙ ap (λ w. let y : NodeState = record node { waiting = w } in y) (empty ∙ ap (drop 1) (sym empty)) in
      subst (λ (x : NodeState). GoesNext plans node x []) same (idle empty)

  pub next_on : (a : Arrival) (work : Work) (new : NodeState) (o : Output) → slice_get node.waiting 0 ≡ Some a → work ≡ fresh node.geometry a
      → IsStarted plans (record node { waiting = drop 1 node.waiting }) work new o → GoesNext plans node new (o ∷ [])
  next_on a work new o is same started =
      next a (drop 1 node.waiting) new o (first_of node.waiting a is)
      (subst (λ r. IsStarted plans (record node { running = r; waiting = drop 1 node.waiting }) (fresh node.geometry a) new o) rests
      (subst (λ w. IsStarted plans (record node { waiting = drop 1 node.waiting }) w new o) same started))

-- ---- order of the rest

module _ (node : NodeState) (order : IsInOrder node) where
  none_runs : (g : Geometry) (cache : Cached) (r : Running) → None ≡ Some r → IsRunningInOrder g cache r
  none_runs g cache r is = absurd cc

  pub idle_order : (cache : Cached) → IsCacheInOrder node.geometry cache → IsInOrder (record node { cache = cache; running = None })
  idle_order cache fits = record { limits = order.limits; cache = fits; running = none_runs node.geometry cache; waiting = order.waiting }

  dropped : (xs : List Arrival) → AllByRecursion (λ a. IsServed node.geometry a.call) xs → AllByRecursion (λ a. IsServed node.geometry a.call) (drop 1 xs)
  dropped [] all = tt
  dropped (x ∷ xs) all = all.1

  pub fewer_order : IsInOrder (record node { waiting = drop 1 node.waiting })
  fewer_order = record { limits = order.limits; cache = order.cache; running = order.running; waiting = dropped node.waiting order.waiting }

  first_served : (xs : List Arrival) (a : Arrival) → slice_get xs 0 ≡ Some a → AllByRecursion (λ x. IsServed node.geometry x.call) xs → IsServed node.geometry a.call
  first_served [] a is all = absurd cc
  first_served (x ∷ xs) a is all = let same : x ≡ a = cc in subst (λ (y : Arrival). IsServed node.geometry y.call) same all.0

  pub next_served : (a : Arrival) → slice_get node.waiting 0 ≡ Some a → IsServed node.geometry a.call
  next_served a is = first_served node.waiting a is order.waiting

  pushed : (xs : List Arrival) (a : Arrival) → AllByRecursion (λ x. IsServed node.geometry x.call) xs → IsServed node.geometry a.call
      → AllByRecursion (λ x. IsServed node.geometry x.call) (xs ++ a ∷ [])
  pushed [] a all one = (one, tt)
  pushed (x ∷ xs) a all one = (all.0, pushed xs a all.1 one)

  pub more_order : (a : Arrival) → IsServed node.geometry a.call → IsInOrder (record node { waiting = node.waiting ++ a ∷ [] })
  more_order a one = record { limits = order.limits; cache = order.cache; running = order.running; waiting = pushed node.waiting a order.waiting one }

-- ---- a call of the file system

module _ (plans : Plans) (node : NodeState) (id : ℕ) (now : Stamp) (xid : ℕ) (call : Call) (cred : Cred)
    (needs : needs_files node.geometry (request.Asked xid call cred) ≡ true) where
  pub arrives_of : (new : NodeState) (outputs : List Output) → IsAdmitted plans node (came id now xid call cred) new outputs
      → Arrives plans node id now (request.Asked xid call cred) new outputs
  arrives_of _ _ (full many) = steps.full xid call cred needs many
  arrives_of _ _ (waits r few runs) = steps.waits xid call cred r needs few runs
  arrives_of _ _ (starts new o few rests started) = steps.starts xid call cred new o needs few rests started
