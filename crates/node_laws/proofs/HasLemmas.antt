-- What all entries of a node have they have after each event.
use Rattle.std.proofs.Common.{◌≡◌, ℕ, zero, suc, true, false, cond, Bool, List, Option, Some, None, refl, sym, subst}
use Rattle.std.specs.Prelude.{option_map, option_and_then}
use Rattle.std.specs.Option.{option_map_or}
use Rattle.std.specs.List.{AllByRecursion}
use Rattle.nfs_proto.specs.declared.stamp.Stamp.{Stamp}
use Rattle.nfs_service.specs.declared.request.Request.{Request}
use Rattle.node_cache.specs.declared.entry.Entry.{Entry}
use Rattle.node_cache.specs.declared.held.Held.{Held}
use Rattle.node_cache.specs.declared.want.Want.{Want}
use Rattle.node_cache.specs.declared.want.Want.TheVariants as want
use Rattle.node_cache.specs.Cached.{Cached, held_of}
use Rattle.plan_rules.specs.Fetched.{IsKept}
use Rattle.tx_coord.specs.declared.outcome.Outcome.{Outcome}
use Rattle.tx_coord.specs.declared.outcome.Outcome.TheVariants as outcome
use Rattle.node_rules.specs.declared.arrival.Arrival.{Arrival}
use Rattle.node_rules.specs.declared.attempt.Attempt.TheVariants as attempt
use Rattle.node_rules.specs.declared.node_state.NodeState.{NodeState}
use Rattle.node_rules.specs.declared.output.Output.{Output}
use Rattle.node_rules.specs.declared.running.Running.{Running}
use Rattle.node_rules.specs.declared.running.Work.{Work}
use Rattle.node_rules.specs.Begin.{GoesNext, IsStarted, begun_by, fresh, idle, next, running_with, stock_after, stock_of}
use Rattle.node_rules.specs.End.{Progress, GoesOn, Ends, Comes, again, answered, damaged, failed, is_mismatch, kept}
use Rattle.node_rules.specs.Plans.{Plans}
use Rattle.node_rules.specs.Steps as steps
use Rattle.node_rules.specs.Steps.{Arrives, GoesOnWith, IsEnded, IsGivenUp, came, on, over}
use Rattle.node_rules.specs.Stock.{Stock, empty_cache, empty_held, gathered_in, map_in, moved, parts, wanted_by, with_file, with_map}
use Rattle.nfs_node.proofs.StockLemmas.{but_fit, found_fit, put_fit}
use Rattle.nfs_node.proofs.OrderLemmas.{files_fit}

module _ (P : Entry → Type 0) where
  abbrev Have : List Entry → Type 0
  Have es = AllByRecursion P es

  -- ---- what is moved

  record StockHas (s : Stock) : Type 0 where
    held : Have s.held.entries
    cache : Have s.cache.files

  file_has : (s u : Stock) (n : ℕ) (o : Option Entry) → held_of n s.cache.files ≡ o → StockHas s → option_map (with_file s n) o ≡ Some u → StockHas u
  file_has s u n None there have is = absurd cc
  file_has s u n (Some e) there have is =
      let same : with_file s n e ≡ u = cc in
      subst (λ t. StockHas t) same (record {
        held = put_fit P e s.held.entries (found_fit P n e s.cache.files have.cache there).0 have.held;
        cache = but_fit P n s.cache.files have.cache;
      })

  map_has : (s u : Stock) (m : ℕ) (o : Option (List ℕ)) → StockHas s → option_map (with_map s m) o ≡ Some u → StockHas u
  map_has s u m None have is = absurd cc
  map_has s u m (Some page) have is =
      let same : with_map s m page ≡ u = cc in subst (λ t. StockHas t) same (record { held = have.held; cache = have.cache })

  moved_has : (s u : Stock) (w : Want) → moved s w ≡ Some u → StockHas s → StockHas u
  moved_has s u (want.Inode n) is have = file_has s u n (held_of n s.cache.files) refl have is
  moved_has s u (want.Chain n k) is have = absurd cc
  moved_has s u (want.Slots n g) is have = absurd cc
  moved_has s u (want.Map m) is have = map_has s u m (map_in s.cache m) have is

  wanted_has : (s u : Stock) (o : Option Want) → StockHas s → option_and_then (moved s) o ≡ Some u → StockHas u
  wanted_has s u None have is = absurd cc
  wanted_has s u (Some w) have is = moved_has s u w is have

  step_has : (f : Stock → Stock) (s : Stock) (o : Option Stock) → StockHas s → ((u : Stock) → o ≡ Some u → StockHas u) → ((u : Stock) → StockHas u → StockHas (f u))
      → StockHas (option_map_or f o s)
  step_has f s None have some rest = have
  step_has f s (Some u) have some rest = rest u (some u refl)

  gathered_has : (k : ℕ) (a : Arrival) (s : Stock) → StockHas s → StockHas (gathered_in k a s)
  unfolding gathered_in
  gathered_has zero a s have = have
  gathered_has (suc k) a s have =
      step_has (gathered_in k a) s (option_and_then (moved s) (wanted_by a s.held)) have (λ u is. wanted_has s u (wanted_by a s.held) have is) (gathered_has k a)

  pub stock_has : (node : NodeState) (work : Work) → AllByRecursion P node.cache.files → AllByRecursion P work.held.entries
      → AllByRecursion P (stock_after node work).held.entries × AllByRecursion P (stock_after node work).cache.files
  stock_has node work files entries =
      let all = gathered_has (parts node.cache) work.arrival (stock_of node work) (record { held = entries; cache = files }) in (all.held, all.cache)

  -- ---- what is begun

  pub record NodeHas (node : NodeState) : Type 0 where
    pub cache : AllByRecursion P node.cache.files
    pub running : (r : Running) → node.running ≡ Some r → AllByRecursion P r.work.held.entries

  module _ (plans : Plans) where
    started_has : (node : NodeState) (work : Work) (new : NodeState) (o : Output) → Have node.cache.files → Have work.held.entries → IsStarted plans node work new o → NodeHas new
    started_has node work new o files entries started =
        let all = stock_has node work files entries in
        let held = (stock_after node work).held in
        let runs : (r : Running) → Some (running_with work held (begun_by held started.plan)) ≡ Some r → Have r.work.held.entries =
        λ r is. let same : running_with work held (begun_by held started.plan) ≡ r = cc in subst (λ (x : Running). Have x.work.held.entries) same all.0 in
        subst (λ n. NodeHas n) (sym started.new_is) (record { cache = all.1; running = runs })

    goes_next_has : (node new : NodeState) (outputs : List Output) → Have node.cache.files → GoesNext plans node new outputs → NodeHas new
    goes_next_has node _ _ files (idle none) = record { cache = files; running = λ r is. absurd cc }
    goes_next_has node _ _ files (next a rest new o is started) =
        started_has (record node { running = None; waiting = rest }) (fresh node.geometry a) new o files tt started

    pub arrives_has : (node new : NodeState) (id : ℕ) (now : Stamp) (request : Request) (outputs : List Output) → NodeHas node
        → Arrives plans node id now request new outputs → NodeHas new
    arrives_has node _ id now _ _ have steps.silent = have
    arrives_has node _ id now _ _ have (steps.told reply) = have
    arrives_has node _ id now _ _ have (steps.foreign xid call cred needs) = have
    arrives_has node _ id now _ _ have (steps.full xid call cred needs many) = have
    arrives_has node _ id now _ _ have (steps.waits xid call cred r needs few runs) = record { cache = have.cache; running = have.running }
    arrives_has node _ id now _ _ have (steps.starts xid call cred new o needs few rests started) =
        started_has node (fresh node.geometry (came id now xid call cred)) new o have.cache tt started

    pub given_up_has : (node new : NodeState) (outputs : List Output) → NodeHas node → IsGivenUp plans node new outputs → NodeHas new
    given_up_has node new outputs have up = goes_next_has (record node { running = None }) new up.rest have.cache up.next

    -- ---- how it ends

    abbrev pub KeepsIt : Running → Outcome → Type 0
    KeepsIt r (outcome.Committed reads) = (w : Want) (new : Held) → r.attempt ≡ attempt.Fetch w → IsKept r.work.held w reads new → AllByRecursion P new.entries
    KeepsIt r (outcome.Refused m v) = Unit {0}

    abbrev ProgressHas : Progress → Type 0
    ProgressHas (GoesOn work cache) = Have work.held.entries × Have cache.files
    ProgressHas (Ends o cache) = Have cache.files

    cache_by : (b : Bool) (cache : Cached) → Have cache.files → Have (cond b empty_cache cache).files
    cache_by true cache have = tt
    cache_by false cache have = have

    held_by : (b : Bool) (held : Held) → Have held.entries → Have (cond b (empty_held held.geometry) held).entries
    held_by true held have = tt
    held_by false held have = have

    comes_has : (r : Running) (cache : Cached) (o : Outcome) (p : Progress) → Have cache.files → Have r.work.held.entries → KeepsIt r o → Comes r cache o p → ProgressHas p
    comes_has r cache _ _ files entries keeps (kept w reads new is one) = (keeps w new is one, files)
    comes_has r cache _ _ files entries keeps (damaged w reads m at is one) = files
    comes_has r cache _ _ files entries keeps (answered p reads is) = files_fit P p.changed r.work.held.entries cache.files entries files
    comes_has r cache _ _ files entries keeps (again m v few) = (held_by (is_mismatch v) r.work.held entries, cache_by (is_mismatch v) cache files)
    comes_has r cache _ _ files entries keeps (failed m v last) = cache_by (is_mismatch v) cache files

    goes_has : (node : NodeState) (p : Progress) (new : NodeState) (outputs : List Output) → ProgressHas p → GoesOnWith plans node p new outputs → NodeHas new
    goes_has node _ _ _ have (on work cache new o started) = started_has (record node { cache = cache; running = None }) work new o have.1 have.0 started
    goes_has node _ _ _ have (over o cache new outputs rest) = goes_next_has (record node { cache = cache; running = None }) new outputs have rest

    pub ended_has : (node new : NodeState) (o : Outcome) (outputs : List Output) → NodeHas node → ((r : Running) → node.running ≡ Some r → KeepsIt r o)
        → IsEnded plans node o new outputs → NodeHas new
    ended_has node new o outputs have keeps ended =
        goes_has node ended.progress new outputs
        (comes_has ended.running node.cache o ended.progress have.cache (have.running ended.running ended.runs) (keeps ended.running ended.runs) ended.comes) ended.goes
