-- A work set stays in order.
use Rattle.std.proofs.Common.{◌≡◌, ◌⊎◌, inl, inr, ℕ, zero, suc, true, false, cond, Bool, List, [], ◌∷◌, ◌++◌, length, replicate, Option, Some, None, refl, sym, ap, subst, ◌∙◌}
use Rattle.std.specs.Prelude.{nat_eq, map, slice_get, slice_set, slice_index}
use Rattle.std.specs.List.{AllByRecursion}
use Rattle.std.specs.List.Sorted.{IsStrictlyIncreasing}
use Rattle.std.proofs.lemmas.Bool.{eqb-true}
use Rattle.std.proofs.lemmas.List.{length-replicate, length-set}
use Rattle.fs_rules.specs.declared.geometry.Geometry.{Geometry}
use Rattle.node_cache.specs.declared.entry.Entry.{Entry}
use Rattle.node_cache.specs.declared.entry.HeldChain.{HeldChain}
use Rattle.node_cache.specs.declared.entry.HeldGroup.{HeldGroup}
use Rattle.node_cache.specs.declared.held.Held.{Held}
use Rattle.node_cache.specs.declared.want.Want.TheVariants as want
use Rattle.node_cache.specs.Cached.{held_of}
use Rattle.plan_rules.specs.Fits.{IsFitChain, AreFitSlots}
use Rattle.plan_rules.specs.Fetched.{changed_in, put_entry, fetched, AreReads, IsRecordKept, IsChainKept, IsGroupKept, AreMapsKept}
use Rattle.plan_rules.specs.Works.{IsFitEntry, IsTold, IsWorkSet}
use Rattle.plan_rules.proofs.SearchLemmas.{found_there}
use Rattle.plan_laws.specs.Kept.{EmptyIsInOrder, KeptIsInOrder}
use Rattle.plan_laws.proofs.AscendingLemmas.{ascends, is_up, numbers, put_ascends}
use Rattle.plan_laws.proofs.EntryLemmas.{added, all_changed, all_put, at_place, by_place, none_there}

same_numbers : (n : ℕ) (change : Entry → Entry) → ((e : Entry) → (change e).number ≡ e.number) → (es : List Entry) → numbers (changed_in n change es) ≡ numbers es
unfolding changed_in
same_numbers n change same [] = refl
same_numbers n change same (e ∷ es) = by (nat_eq n e.number) (same_numbers n change same es)
  where
    by : (b : Bool) → numbers (changed_in n change es) ≡ numbers es → numbers (cond b (change e ∷ es) (e ∷ changed_in n change es)) ≡ numbers (e ∷ es)
    by true rest = ap (λ k. k ∷ numbers es) (same e)
    by false rest = ap (λ ks. e.number ∷ ks) rest

no_page : (n m : ℕ) (page : List ℕ) → slice_get (replicate n None) m ≡ Some (Some page) → ⊥
no_page zero m page is = none_there m (Some page) is
no_page (suc n) zero page is = absurd cc
no_page (suc n) (suc m) page is = no_page n m page is

pub empty_is_in_order : EmptyIsInOrder
empty_is_in_order g limits =
    record {
      limits = limits;
      ascending = is_up [] tt;
      entries = λ i e is. absurd (none_there i e is);
      places = length-replicate g.memories None;
      pages = λ m page is. absurd (no_page g.memories m page is);
    }

-- entries in order
module _ (held : Held) (work : IsWorkSet held) where
  abbrev g : Geometry
  g = held.geometry

  abbrev AreFit : List Entry → Type 0
  AreFit es = AllByRecursion (IsFitEntry g) es

  with_entries : (es : List Entry) → numbers es ≡ numbers held.entries → AreFit es → IsWorkSet (record held { entries = es })
  with_entries es same all =
      record {
        limits = work.limits;
        ascending = subst (λ ks. IsStrictlyIncreasing ks) (sym same) work.ascending;
        entries = at_place (IsFitEntry g) es all;
        places = work.places;
        pages = work.pages;
      }

  record_kept : (n : ℕ) (reads : List (List ℕ)) (new : Held) → IsTold held (want.Inode n) → IsRecordKept held n reads new → IsWorkSet new
  record_kept n reads new told kept =
      let e : Entry = record { number = n; attrs = kept.attrs; chains = []; groups = [] } in
      let fit : IsFitEntry g e = record {
        number = told;
        bytes = kept.bytes;
        spelled = kept.spelled;
        attrs = kept.fit;
        chains = λ i c is. absurd (none_there i c is);
        groups = λ i s is. absurd (none_there i s is);
      } in
      subst IsWorkSet (sym kept.new_is) (record {
        limits = work.limits;
        ascending = is_up (numbers (put_entry e held.entries)) (put_ascends e held.entries (ascends (numbers held.entries) work.ascending));
        entries = at_place (IsFitEntry g) (put_entry e held.entries) (all_put (IsFitEntry g) e held.entries fit (by_place (IsFitEntry g) held.entries work.entries));
        places = work.places;
        pages = work.pages;
      })

  chain_by : (e : Entry) (c d : HeldChain) → IsFitEntry g e → IsFitChain g e.attrs e.number c.index c.chain → (i : ℕ)
      → (slice_get e.chains i ≡ Some d) ⊎ (c ≡ d) → IsFitChain g e.attrs e.number d.index d.chain
  chain_by e c d fit one i (inl is) = fit.chains i d is
  chain_by e c d fit one i (inr same) = subst (λ (x : HeldChain). IsFitChain g e.attrs e.number x.index x.chain) same one

  one_chain_more : (e : Entry) (c : HeldChain) → IsFitEntry g e → IsFitChain g e.attrs e.number c.index c.chain → IsFitEntry g (record e { chains = e.chains ++ c ∷ [] })
  one_chain_more e c fit one =
      record {
        number = fit.number;
        bytes = fit.bytes;
        spelled = fit.spelled;
        attrs = fit.attrs;
        chains = λ i d is. chain_by e c d fit one i (added c d e.chains i is);
        groups = fit.groups;
      }

  group_by : (e : Entry) (c d : HeldGroup) → IsFitEntry g e → AreFitSlots g c.slots → (i : ℕ) → (slice_get e.groups i ≡ Some d) ⊎ (c ≡ d) → AreFitSlots g d.slots
  group_by e c d fit one i (inl is) = fit.groups i d is
  group_by e c d fit one i (inr same) = subst (λ (x : HeldGroup). AreFitSlots g x.slots) same one

  one_group_more : (e : Entry) (c : HeldGroup) → IsFitEntry g e → AreFitSlots g c.slots → IsFitEntry g (record e { groups = e.groups ++ c ∷ [] })
  one_group_more e c fit one =
      record {
        number = fit.number;
        bytes = fit.bytes;
        spelled = fit.spelled;
        attrs = fit.attrs;
        chains = fit.chains;
        groups = λ i d is. group_by e c d fit one i (added c d e.groups i is);
      }

  -- the entry that was found
  that_one : (n : ℕ) (e f : Entry) → held_of n held.entries ≡ Some e → held_of n held.entries ≡ Some f → (e ≡ f) × (n ≡ f.number)
  that_one n e f here there =
      let both : ◌≡◌ {A = Option Entry} (Some e) (Some f) = sym here ∙ there in
      let same : e ≡ f = cc in (same, eqb-true n f.number (found_there (λ x. nat_eq n x.number) f held.entries there).2)

  chain_kept : (n k : ℕ) (reads : List (List ℕ)) (new : Held) → IsChainKept held n k reads new → IsWorkSet new
  chain_kept n k reads new kept =
      let c : HeldChain = record { index = k; chain = kept.chain } in
      let keeps = λ (f : Entry) (is : held_of n held.entries ≡ Some f) (fit : IsFitEntry g f).
      (let one = that_one n kept.entry f kept.here is in
      one_chain_more f c fit (subst (λ m. IsFitChain g f.attrs m k kept.chain) one.1 (subst (λ (x : Entry). IsFitChain g x.attrs n k kept.chain) one.0 kept.fit))) in
      subst IsWorkSet (sym kept.new_is)
      (with_entries (changed_in n (λ e. record e { chains = e.chains ++ c ∷ [] }) held.entries)
      (same_numbers n (λ e. record e { chains = e.chains ++ c ∷ [] }) (λ e. refl) held.entries)
      (all_changed (IsFitEntry g) n (λ e. record e { chains = e.chains ++ c ∷ [] }) held.entries keeps (by_place (IsFitEntry g) held.entries work.entries)))

  group_kept : (n s : ℕ) (reads : List (List ℕ)) (new : Held) → IsGroupKept held n s reads new → IsWorkSet new
  group_kept n s reads new kept =
      let c : HeldGroup = record { group = s; slots = kept.slots } in
      subst IsWorkSet (sym kept.new_is)
      (with_entries (changed_in n (λ e. record e { groups = e.groups ++ c ∷ [] }) held.entries)
      (same_numbers n (λ e. record e { groups = e.groups ++ c ∷ [] }) (λ e. refl) held.entries)
      (all_changed (IsFitEntry g) n (λ e. record e { groups = e.groups ++ c ∷ [] }) held.entries (λ f is fit. one_group_more f c fit kept.fit) (by_place (IsFitEntry g) held.entries work.entries)))

  set_there : {X : Type 0} (xs : List X) (m : ℕ) (v : X) (k : ℕ) (x : X) → slice_get (slice_set xs m v) k ≡ Some x → (v ≡ x) ⊎ (slice_get xs k ≡ Some x)
  set_there [] m v k x is = inr is
  set_there (y ∷ ys) zero v zero x is = inl cc
  set_there (y ∷ ys) zero v (suc k) x is = inr is
  set_there (y ∷ ys) (suc m) v zero x is = inr is
  set_there (y ∷ ys) (suc m) v (suc k) x is = set_there ys m v k x is

  page_sized : (m : ℕ) (reads : List (List ℕ)) (bytes : List ℕ) → AreReads (fetched held (want.Map m)) reads → reads ≡ bytes ∷ [] → length bytes ≡ 4096
  unfolding fetched
  page_sized m reads bytes all is = ap (λ ls. slice_index ls 0) (sym (ap (map (λ b. length b)) is) ∙ all)

  page_by : (bytes page : List ℕ) (m : ℕ) → length bytes ≡ 4096 → ((Some bytes) ≡ (Some page)) ⊎ (slice_get held.maps m ≡ Some (Some page)) → length page ≡ 4096
  page_by bytes page m sized (inl same) = let is : bytes ≡ page = cc in subst (λ b. length b ≡ 4096) is sized
  page_by bytes page m sized (inr is) = work.pages m page is

  maps_kept : (m : ℕ) (reads : List (List ℕ)) (new : Held) → AreReads (fetched held (want.Map m)) reads → AreMapsKept held m reads new → IsWorkSet new
  maps_kept m reads new all kept =
      subst IsWorkSet (sym kept.new_is) (record {
        limits = work.limits;
        ascending = work.ascending;
        entries = work.entries;
        places = length-set held.maps m (Some kept.bytes) ∙ work.places;
        pages = λ k page is. page_by kept.bytes page k (page_sized m reads kept.bytes all kept.read) (set_there held.maps m (Some kept.bytes) k (Some page) is);
      })

pub kept_is_in_order : KeptIsInOrder
kept_is_in_order held new (want.Inode n) reads work told all kept = record_kept held work n reads new told kept
kept_is_in_order held new (want.Chain n k) reads work told all kept = chain_kept held work n k reads new kept
kept_is_in_order held new (want.Slots n s) reads work told all kept = group_kept held work n s reads new kept
kept_is_in_order held new (want.Map m) reads work told all kept = maps_kept held work m reads new all kept
