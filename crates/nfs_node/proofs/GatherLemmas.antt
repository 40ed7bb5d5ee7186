-- A work set and the cache stay in order while parts move, and what is gathered at the end.
use Rattle.std.proofs.Common.{◌≡◌, ◌⊎◌, inl, inr, ℕ, zero, suc, ◌*◌, ◌<◌, true, false, List, [], ◌∷◌, length, Option, Some, None, refl, sym, ap, subst, ◌∙◌, arith}
use Rattle.std.specs.Prelude.{is_some, slice_get, slice_set, option_map, option_and_then}
use Rattle.std.specs.Option.{option_map_or}
use Rattle.std.proofs.lemmas.List.{length-set}
use Rattle.fs_rules.specs.declared.geometry.Geometry.{Geometry}
use Rattle.node_cache.specs.declared.entry.Entry.{Entry}
use Rattle.node_cache.specs.declared.want.Want.{Want}
use Rattle.node_cache.specs.declared.want.Want.TheVariants as want
use Rattle.node_cache.specs.Cached.{held_of, but_for}
use Rattle.plan_rules.specs.Fetched.{put_entry}
use Rattle.plan_rules.specs.Told.{dir_blocks}
use Rattle.plan_rules.specs.Works.{IsFitEntry, IsTold, IsWorkSet}
use Rattle.node_rules.specs.declared.arrival.Arrival.{Arrival}
use Rattle.plan_forms.specs.declared.plan.Plan.{Plan}
use Rattle.plan_forms.specs.declared.plan.Plan.TheVariants as plan
use Rattle.node_rules.specs.Order.{IsStockInOrder}
use Rattle.node_rules.specs.Plans.{Plans, IsSound, IsWantTold, want_of}
use Rattle.node_rules.specs.Stock.{Stock, is_cached, map_in, moved, wanted_by, with_entry, with_file, with_map}
use Rattle.node_parts.specs.Moves.{IsGone, Moves}
use Rattle.nfs_node.specs.Gathers.{IsGathered, IsLacking}
use Rattle.nfs_node.proofs.AscendingLemmas.{ascends, is_up, numbers, put_ascends}
use Rattle.nfs_node.proofs.StockLemmas.{at_place, but_fit, by_place, found_fit, gathered_done, gathered_on, page_at, put_fit, put_found, set_page, still_none}

set_there : {X : Type 0} (xs : List X) (m : ℕ) (v : X) (k : ℕ) (x : X) → slice_get (slice_set xs m v) k ≡ Some x → (v ≡ x) ⊎ (slice_get xs k ≡ Some x)
set_there [] m v k x is = inr is
set_there (y ∷ ys) zero v zero x is = inl cc
set_there (y ∷ ys) zero v (suc k) x is = inr is
set_there (y ∷ ys) (suc m) v zero x is = inr is
set_there (y ∷ ys) (suc m) v (suc k) x is = set_there ys m v k x is

module _ (g : Geometry) (s : Stock) (order : IsStockInOrder g s) where
  -- ---- an entry moves

  apart_by : (n k : ℕ) (e : Entry) → n ≡ e.number → held_of n (but_for n s.cache.files) ≡ None → (k ≡ e.number) ⊎ (is_some (held_of k s.held.entries) ≡ true)
      → held_of k (but_for n s.cache.files) ≡ None
  apart_by n k e same gone (inl is) = subst (λ j. held_of j (but_for n s.cache.files) ≡ None) (same ∙ sym is) gone
  apart_by n k e same gone (inr is) = still_none n k s.cache.files (order.apart k is)

  fit_set : (e : Entry) → IsFitEntry g e → IsWorkSet (with_entry s.held e)
  fit_set e fit =
      let f : IsFitEntry s.held.geometry e = subst (λ h. IsFitEntry h e) (sym order.size) fit in
      record {
        limits = order.held.limits;
        ascending = is_up (numbers (put_entry e s.held.entries)) (put_ascends e s.held.entries (ascends (numbers s.held.entries) order.held.ascending));
        entries = at_place (IsFitEntry s.held.geometry) (put_entry e s.held.entries) (put_fit (IsFitEntry s.held.geometry) e s.held.entries f (by_place (IsFitEntry s.held.geometry) s.held.entries order.held.entries));
        places = order.held.places;
        pages = order.held.pages;
      }

  file_order : (n : ℕ) (e : Entry) → held_of n s.cache.files ≡ Some e → held_of n (but_for n s.cache.files) ≡ None → IsStockInOrder g (with_file s n e)
  file_order n e there gone =
      let one = found_fit (IsFitEntry g) n e s.cache.files order.cache.entries there in
      record {
        size = order.size;
        held = fit_set e one.0;
        cache = record { entries = but_fit (IsFitEntry g) n s.cache.files order.cache.entries; places = order.cache.places; pages = order.cache.pages };
        apart = λ k is. apart_by n k e one.1 gone (put_found k e s.held.entries is);
      }

  -- ---- a map moves

  page_by : (page : List ℕ) (x : List ℕ) (m : ℕ) → length page ≡ 4096 → ((Some page) ≡ (Some x)) ⊎ (slice_get s.held.maps m ≡ Some (Some x)) → length x ≡ 4096
  page_by page x m sized (inl same) = let is : page ≡ x = cc in subst (λ b. length b ≡ 4096) is sized
  page_by page x m sized (inr is) = order.held.pages m x is

  map_order : (m : ℕ) (page : List ℕ) → map_in s.cache m ≡ Some page → IsStockInOrder g (with_map s m page)
  map_order m page there =
      record {
        size = order.size;
        held = record {
          limits = order.held.limits;
          ascending = order.held.ascending;
          entries = order.held.entries;
          places = length-set s.held.maps m (Some page) ∙ order.held.places;
          pages = λ k x is. page_by page x k (page_at s.cache.maps m page order.cache.pages there) (set_there s.held.maps m (Some page) k (Some x) is);
        };
        cache = record {
          entries = order.cache.entries;
          places = length-set s.cache.maps m None ∙ order.cache.places;
          pages = set_page s.cache.maps m None order.cache.pages tt;
        };
        apart = order.apart;
      }

  file_moves : (u : Stock) (n : ℕ) (o : Option Entry) → held_of n s.cache.files ≡ o → option_map (with_file s n) o ≡ Some u → IsGone (want.Inode n) u.cache
      → IsStockInOrder g u × (u.held.geometry ≡ s.held.geometry)
  file_moves u n None there is gone = absurd cc
  file_moves u n (Some e) there is gone =
      let same : with_file s n e ≡ u = cc in
      let left : held_of n (but_for n s.cache.files) ≡ None = subst (λ t. held_of n t.cache.files ≡ None) (sym same) gone in
      subst (λ t. IsStockInOrder g t × (t.held.geometry ≡ s.held.geometry)) same (file_order n e there left, refl)

  map_moves : (u : Stock) (m : ℕ) (o : Option (List ℕ)) → map_in s.cache m ≡ o → option_map (with_map s m) o ≡ Some u → IsStockInOrder g u × (u.held.geometry ≡ s.held.geometry)
  map_moves u m None there is = absurd cc
  map_moves u m (Some page) there is =
      let same : with_map s m page ≡ u = cc in
      subst (λ t. IsStockInOrder g t × (t.held.geometry ≡ s.held.geometry)) same (map_order m page there, refl)

  -- all is in order once something moved
  pub moved_order : (u : Stock) (w : Want) → moved s w ≡ Some u → IsGone w u.cache → IsStockInOrder g u × (u.held.geometry ≡ s.held.geometry)
  moved_order u (want.Inode n) is gone = file_moves u n (held_of n s.cache.files) refl is gone
  moved_order u (want.Chain n k) is gone = absurd cc
  moved_order u (want.Slots n h) is gone = absurd cc
  moved_order u (want.Map m) is gone = map_moves u m (map_in s.cache m) refl is

  -- ---- nothing is left to move

  none_of : {X Y : Type 0} (f : X → Y) (o : Option X) → option_map f o ≡ None → is_some o ≡ false
  none_of f None is = refl
  none_of f (Some x) is = absurd cc

  told_chain : (n k : ℕ) (o : Option Entry) → k < option_map_or (λ e. e.attrs.chains) o 0 → is_some o ≡ true
  told_chain n k None less = absurd (omega (arith, less))
  told_chain n k (Some e) less = refl

  told_slots : (n k : ℕ) (o : Option Entry) → k < option_map_or (λ e. dir_blocks e.attrs) o 0 → is_some o ≡ true
  told_slots n k None less = absurd (omega (arith, less))
  told_slots n k (Some e) less = refl

  -- the cache has nothing of what is wanted and was not there to move
  pub not_cached : (w : Want) → IsTold s.held w → moved s w ≡ None → is_cached s.cache w ≡ false
  not_cached (want.Inode n) told is = none_of (with_file s n) (held_of n s.cache.files) is
  not_cached (want.Chain n k) told is = ap is_some (order.apart n (told_chain n k (held_of n s.held.entries) told.0))
  not_cached (want.Slots n h) told is = ap is_some (order.apart n (told_slots n (64 * h) (held_of n s.held.entries) told.0))
  not_cached (want.Map m) told is = none_of (with_map s m) (map_in s.cache m) is

-- ---- what is gathered

module _ (plans : Plans) (a : Arrival) (s : Stock) (p : Plan) (order : IsStockInOrder s.held.geometry s)
    (needs : want_of p ≡ wanted_by a s.held) (told : IsWantTold s.held p) (sound : IsSound p) (planned : plans s.held a.call a.cred a.now a.id p) where
  -- something was moved, and the rest was gathered behind it
  pub gathered_more : (w : Want) (u t : Stock) (q : Plan) → p ≡ plan.Need w → Moves s w true u → IsGone w u.cache → IsGathered plans a u t q → IsGathered plans a s t q
  gathered_more w u t q is moves gone rest =
      let wants : wanted_by a s.held ≡ Some w = sym needs ∙ ap want_of is in
      record {
        all = rest.all ∙ sym (gathered_on a s u w wants moves);
        planned = rest.planned;
        order = subst (λ h. IsStockInOrder h t) (moved_order s.held.geometry s order u w moves gone).1 rest.order;
        told = rest.told;
        sound = rest.sound;
        lacks = rest.lacks;
      }

  here : (t : Stock) → option_and_then (moved s) (want_of p) ≡ None → t ≡ s → IsLacking s.cache p → IsGathered plans a s t p
  here t none same lacks =
      subst (λ x. IsGathered plans a s x p) (sym same) (record {
        all = sym (gathered_done a s (ap (option_and_then (moved s)) (sym needs) ∙ none));
        planned = record { needs = needs; planned = planned };
        order = order;
        told = told;
        sound = sound;
        lacks = lacks;
      })

  -- what is needed was not there
  pub gathered_need : (w : Want) (t : Stock) → p ≡ plan.Need w → Moves s w false t → IsGathered plans a s t (plan.Need w)
  gathered_need w t is moves =
      let told_so : IsTold s.held w = subst (IsWantTold s.held) is told in
      let none : option_and_then (moved s) (want_of p) ≡ None = ap (λ x. option_and_then (moved s) (want_of x)) is ∙ moves.0 in
      let lacks : IsLacking s.cache p = subst (IsLacking s.cache) (sym is) (not_cached s.held.geometry s order w told_so moves.0) in
      subst (IsGathered plans a s t) is (here t none moves.1 lacks)

  -- nothing is needed
  pub gathered_final : (q : Plan) → p ≡ q → want_of q ≡ None → IsLacking s.cache q → IsGathered plans a s s q
  gathered_final q is none lacks =
      subst (IsGathered plans a s s) is
      (here s (ap (λ x. option_and_then (moved s) (want_of x)) is ∙ ap (option_and_then (moved s)) none) refl (subst (IsLacking s.cache) (sym is) lacks))
