-- A node stays in order over each event.
use Rattle.std.proofs.Common.{◌≡◌, ◌⊎◌, inl, inr, ℕ, zero, suc, ◌+◌, true, false, cond, Bool, List, [], ◌∷◌, ◌++◌, length, take, replicate, Option, Some, None, refl, sym, ap, subst, ◌∙◌, arith}
use Rattle.std.specs.Prelude.{is_some, slice_get, slice_set}
use Rattle.std.specs.List.{AllByRecursion}
use Rattle.std.proofs.lemmas.List.{length-set, length-replicate}
use Rattle.fs_rules.specs.declared.geometry.Geometry.{Geometry}
use Rattle.fs_rules.specs.Geometry.{IsWithinLimits}
use Rattle.node_cache.specs.declared.entry.Entry.{Entry}
use Rattle.node_cache.specs.declared.entry.HeldChain.{HeldChain}
use Rattle.node_cache.specs.declared.entry.HeldGroup.{HeldGroup}
use Rattle.node_cache.specs.declared.held.Held.{Held}
use Rattle.node_cache.specs.declared.want.Want.{Want}
use Rattle.node_cache.specs.declared.want.Want.TheVariants as want
use Rattle.node_cache.specs.Cached.{Cached, held_of, but_for, put_first}
use Rattle.plan_laws.specs.Kept.{KeptIsInOrder}
use Rattle.plan_rules.specs.Fetched.{AreReads, IsKept, fetched}
use Rattle.plan_rules.specs.Works.{IsFitEntry, IsWorkSet}
use Rattle.tx_coord.specs.declared.outcome.Outcome.{Outcome}
use Rattle.node_rules.specs.declared.arrival.Arrival.{Arrival}
use Rattle.node_rules.specs.declared.attempt.Pending.{Pending}
use Rattle.node_rules.specs.declared.running.Running.{Running}
use Rattle.node_rules.specs.End.{Progress, GoesOn, Ends, Comes, answered, again, cached_after, damaged, failed, files_after, is_among, is_mismatch, kept, map_after, maps_after}
use Rattle.node_rules.specs.Order.{AreApart, IsAttemptInOrder, IsFetchInOrder, IsCacheInOrder, IsPage, IsRunningInOrder, IsStockInOrder, IsWorkInOrder}
use Rattle.node_rules.specs.Plans.{IsServed}
use Rattle.node_rules.specs.Stock.{empty_cache, empty_held, is_cached}
use Rattle.node_rules.specs.Begin.{fresh}
use Rattle.nfs_node.specs.Progress.{IsOutcomeOf}
use Rattle.nfs_node.proofs.StockLemmas.{but_fit, by_place, changed_found, pages_of, put_found, set_page}

-- ---- what is empty

no_place : {X : Type 0} (x : X) (n m : ℕ) → slice_get (replicate {A = Option X} n None) m ≡ Some (Some x) → ⊥
no_place x zero zero is = absurd cc
no_place x zero (suc m) is = absurd cc
no_place x (suc n) zero is = absurd cc
no_place x (suc n) (suc m) is = no_place x n m is

none_at : {X : Type 0} (x : X) (i : ℕ) → slice_get [] i ≡ Some x → ⊥
none_at x zero is = absurd cc
none_at x (suc i) is = absurd cc

pub empty_set : (g : Geometry) → IsWithinLimits g → IsWorkSet (empty_held g)
empty_set g limits =
    record {
      limits = limits;
      ascending = λ k less. absurd (omega (arith, less));
      entries = λ i e is. absurd (none_at e i is);
      places = length-replicate g.memories None;
      pages = λ m page is. absurd (no_place page g.memories m is);
    }

pub empty_cache_order : (g : Geometry) → IsCacheInOrder g empty_cache
empty_cache_order g = record { entries = tt; places = refl; pages = (tt, (tt, (tt, (tt, (tt, (tt, (tt, (tt, tt)))))))) }

empty_apart : (g : Geometry) (cache : Cached) → AreApart (empty_held g) cache
empty_apart g cache n is = absurd cc

-- an arrival as it starts
pub fresh_order : (g : Geometry) (cache : Cached) (a : Arrival) → IsWithinLimits g → IsCacheInOrder g cache → IsServed g a.call → IsWorkInOrder g cache (fresh g a)
fresh_order g cache a limits order served =
    record {
      served = served;
      stock = record { size = refl; held = empty_set g limits; cache = order; apart = empty_apart g cache };
      few = omega arith;
    }

-- ---- what was read is held

module _ (g : Geometry) (cache : Cached) (held new : Held) (apart : AreApart held cache) where
  one_more : (n k : ℕ) (e : Entry) → n ≡ e.number → is_some (held_of n cache.files) ≡ false → (k ≡ e.number) ⊎ (is_some (held_of k held.entries) ≡ true) → held_of k cache.files ≡ None
  one_more n k e same lacks (inl is) = none_of (held_of k cache.files) (subst (λ j. is_some (held_of j cache.files) ≡ false) (same ∙ sym is) lacks)
    where
      none_of : (o : Option Entry) → is_some o ≡ false → o ≡ None
      none_of None is = refl
      none_of (Some x) is = absurd cc
  one_more n k e same lacks (inr is) = apart k is

  pub kept_apart : (w : Want) (reads : List (List ℕ)) → IsKept held w reads new → is_cached cache w ≡ false → AreApart new cache
  kept_apart (want.Inode n) reads one lacks =
      let e : Entry = record { number = n; attrs = one.attrs; chains = []; groups = [] } in
      subst (λ h. AreApart h cache) (sym one.new_is) (λ k is. one_more n k e refl lacks (put_found k e held.entries is))
  kept_apart (want.Chain n i) reads one lacks =
      let c : HeldChain = record { index = i; chain = one.chain } in
      subst (λ h. AreApart h cache) (sym one.new_is)
      (λ k is. apart k (changed_found n k (λ e. record e { chains = e.chains ++ c ∷ [] }) (λ e. refl) held.entries is))
  kept_apart (want.Slots n i) reads one lacks =
      let c : HeldGroup = record { group = i; slots = one.slots } in
      subst (λ h. AreApart h cache) (sym one.new_is)
      (λ k is. apart k (changed_found n k (λ e. record e { groups = e.groups ++ c ∷ [] }) (λ e. refl) held.entries is))
  kept_apart (want.Map m) reads one lacks = subst (λ h. AreApart h cache) (sym one.new_is) apart

  pub kept_size : (w : Want) (reads : List (List ℕ)) → IsKept held w reads new → new.geometry ≡ held.geometry
  kept_size (want.Inode n) reads one = ap (λ h. h.geometry) one.new_is
  kept_size (want.Chain n i) reads one = ap (λ h. h.geometry) one.new_is
  kept_size (want.Slots n i) reads one = ap (λ h. h.geometry) one.new_is
  kept_size (want.Map m) reads one = ap (λ h. h.geometry) one.new_is

-- ---- what goes to the cache

module _ (P : Entry → Type 0) where
  abbrev AreFit : List Entry → Type 0
  AreFit es = AllByRecursion P es

  take_fit : (n : ℕ) (es : List Entry) → AreFit es → AreFit (take n es)
  take_fit zero es all = tt
  take_fit (suc n) [] all = tt
  take_fit (suc n) (e ∷ es) all = (all.0, take_fit n es all.1)

  file_by : (b : Bool) (e : Entry) (files : List Entry) → P e → AreFit files → AreFit (cond b files (put_first e files))
  file_by true e files fit all = all
  file_by false e files fit all = (fit, take_fit 63 (but_for e.number files) (but_fit P e.number files all))

  pub files_fit : (changed : List ℕ) (es files : List Entry) → AllByRecursion P es → AllByRecursion P files → AllByRecursion P (files_after changed es files)
  unfolding files_after
  files_fit changed [] files some all = all
  files_fit changed (e ∷ es) files some all = files_fit changed es (cond (is_among changed e.number) files (put_first e files)) some.1 (file_by (is_among changed e.number) e files some.0 all)

map_by : (b : Bool) (m : ℕ) (page : List ℕ) (maps : List (Option (List ℕ))) → length page ≡ 4096 → AllByRecursion IsPage maps
    → AllByRecursion IsPage (cond b maps (slice_set maps m (Some page))) × (length (cond b maps (slice_set maps m (Some page))) ≡ length maps)
map_by true m page maps sized all = (all, refl)
map_by false m page maps sized all = (set_page maps m (Some page) all sized, length-set maps m (Some page))

map_one : (written : List ℕ) (m : ℕ) (o : Option (List ℕ)) (maps : List (Option (List ℕ))) → IsPage o → AllByRecursion IsPage maps
    → AllByRecursion IsPage (map_after written m o maps) × (length (map_after written m o maps) ≡ length maps)
map_one written m None maps one all = (all, refl)
map_one written m (Some page) maps one all = map_by (is_among written m) m page maps one all

maps_all : (written : List ℕ) (m : ℕ) (pages maps : List (Option (List ℕ))) → AllByRecursion IsPage pages → AllByRecursion IsPage maps
    → AllByRecursion IsPage (maps_after written m pages maps) × (length (maps_after written m pages maps) ≡ length maps)
unfolding maps_after
maps_all written m [] maps some all = (all, refl)
maps_all written m (o ∷ pages) maps some all =
    let one = map_one written m o maps some.0 all in
    let rest = maps_all written (m + 1) pages (map_after written m o maps) some.1 one.0 in
    (rest.0, rest.1 ∙ one.1)

pub after_final : (g : Geometry) (p : Pending) (held : Held) (cache : Cached) → IsStockInOrder g (record { held = held; cache = cache }) → IsCacheInOrder g (cached_after p held cache)
after_final g p held cache order =
    let maps = maps_all p.written 0 held.maps cache.maps (pages_of held.maps order.held.pages) order.cache.pages in
    let fits = subst (λ h. AllByRecursion (IsFitEntry h) held.entries) order.size (by_place (IsFitEntry held.geometry) held.entries order.held.entries) in
    record { entries = files_fit (IsFitEntry g) p.changed held.entries cache.files fits order.cache.entries; places = maps.1 ∙ order.cache.places; pages = maps.0 }

-- ---- a vote that is not Granted

cache_by : (g : Geometry) (b : Bool) (cache : Cached) → IsCacheInOrder g cache → IsCacheInOrder g (cond b empty_cache cache)
cache_by g true cache order = empty_cache_order g
cache_by g false cache order = order

work_by : (g : Geometry) (b : Bool) (held : Held) (cache : Cached) → IsStockInOrder g (record { held = held; cache = cache })
    → IsStockInOrder g (record { held = cond b (empty_held held.geometry) held; cache = cond b empty_cache cache })
work_by g true held cache order =
    record { size = order.size; held = empty_set held.geometry order.held.limits; cache = empty_cache_order g; apart = empty_apart held.geometry empty_cache }
work_by g false held cache order = order

-- ---- all outcomes

abbrev pub IsProgressInOrder : Geometry → Progress → Type 0
IsProgressInOrder g (GoesOn work cache) = IsWorkInOrder g cache work
IsProgressInOrder g (Ends o cache) = IsCacheInOrder g cache

module _ (g : Geometry) (r : Running) (cache : Cached) (law : KeptIsInOrder)
    (order : IsRunningInOrder g cache r) where
  pub comes_order : (o : Outcome) (p : Progress) → IsOutcomeOf r o → Comes r cache o p → IsProgressInOrder g p
  comes_order _ _ fits (kept w reads new is one) =
      let tried : IsFetchInOrder r.work.held cache w r.sizes = subst (λ x. IsAttemptInOrder r.work.held cache x r.sizes) is order.attempt in
      let read : AreReads (fetched r.work.held w) reads = fits ∙ tried.sized in
      record {
        served = order.work.served;
        stock = record {
          size = kept_size g cache r.work.held new order.work.stock.apart w reads one ∙ order.work.stock.size;
          held = law r.work.held new w reads order.work.stock.held tried.told read one;
          cache = order.work.stock.cache;
          apart = kept_apart g cache r.work.held new order.work.stock.apart w reads one tried.lacks;
        };
        few = order.work.few;
      }
  comes_order _ _ fits (damaged w reads m at is one) = order.work.stock.cache
  comes_order _ _ fits (answered p reads is) = after_final g p r.work.held cache order.work.stock
  comes_order _ _ fits (again m v few) =
      record { served = order.work.served; stock = work_by g (is_mismatch v) r.work.held cache order.work.stock; few = few }
  comes_order _ _ fits (failed m v last) = cache_by g (is_mismatch v) cache order.work.stock.cache
