-- Parts that a work set tells lie somewhere.
use Rattle.std.proofs.Common.{◌≡◌, ℕ, zero, suc, ◌+◌, ◌*◌, ◌<◌, ◌≤◌, true, false, cond, Bool, IsTrue, List, [], ◌∷◌, Option, Some, None, refl, ap, subst, ◌∙◌, arith}
use Rattle.std.specs.Prelude.{◌||◌, ◌/◌, ◌%◌, ◌==◌, nat_eq, nat_lt, find, get_or, option_map, option_and_then, is_some}
use Rattle.std.specs.Option.{option_map_or}
use Rattle.std.specs.List.{list_any}
use Rattle.std.proofs.lemmas.Bool.{lt-ltb, eqb-true}
use Rattle.fs_layout.specs.declared.attrs.Attrs.{Attrs}
use Rattle.fs_layout.specs.declared.reference.Reference.{Reference}
use Rattle.fs_chain.specs.declared.chain_block.ChainBlock.{ChainBlock}
use Rattle.fs_image.specs.Owners.{Chain, Block}
use Rattle.node_cache.specs.declared.entry.Entry.{Entry}
use Rattle.node_cache.specs.declared.entry.HeldChain.{HeldChain}
use Rattle.node_cache.specs.declared.held.Held.{Held}
use Rattle.node_cache.specs.declared.want.Want.TheVariants as want
use Rattle.node_cache.specs.Cached.{held_of}
use Rattle.plan_rules.specs.Steps.{is_held}
use Rattle.plan_rules.specs.Told.{at_record, chain_of, chains_of, place_of, dir_blocks}
use Rattle.plan_rules.specs.Fits.{most_bytes}
use Rattle.plan_rules.specs.Works.{IsWorkSet, IsTold}
use Rattle.plan_parts.proofs.PlaceLemmas.{entry_fits, chain_fits}

-- where one of a list passes a test one is found
any_by : {X : Type 0} (p : X → Bool) (x : X) (xs : List X) (b : Bool) → (list_any p xs ≡ true → (y : X) × (find p xs ≡ Some y)) → b || list_any p xs ≡ true
    → (y : X) × (cond b (Some x) (find p xs) ≡ Some y)
any_by p x xs true rest is = (x, refl)
any_by p x xs false rest is = rest is

any_found : {X : Type 0} (p : X → Bool) (xs : List X) → list_any p xs ≡ true → (y : X) × (find p xs ≡ Some y)
any_found p [] is = absurd cc
any_found p (x ∷ xs) is = any_by p x xs (p x) (any_found p xs) is

some_there : {X : Type 0} (o : Option X) → is_some o ≡ true → (x : X) × (o ≡ Some x)
some_there None is = absurd cc
some_there (Some x) is = (x, refl)

module _ (held : Held) (work : IsWorkSet held) where
  held_by : (n k : ℕ) (o : Option Entry) → held_of n held.entries ≡ o
      → option_map_or (λ e. list_any (λ c. c.index == k) e.chains) o false ≡ true
      → (c : ChainBlock) × (option_and_then (λ e. option_map (λ x. x.chain) (find (λ x. x.index == k) e.chains)) o ≡ Some c)
  held_by n k None here is = absurd cc
  held_by n k (Some e) here is =
      let there = any_found (λ (x : HeldChain). x.index == k) e.chains is in
      (there.0.chain, ap (λ o. option_map (λ (x : HeldChain). x.chain) o) there.1)

  -- a chaining block that is held
  pub chain_there : (n k : ℕ) → IsTrue (is_held held (want.Chain n k)) → (c : ChainBlock) × (chain_of held n k ≡ Some c)
  chain_there n k is = held_by n k (held_of n held.entries) refl is

  first_by : (n : ℕ) (o : Option Entry) → held_of n held.entries ≡ o → 0 < option_map_or (λ e. e.attrs.chains) o 0
      → (r : Reference) × (option_map_or (λ e. e.attrs.first) o None ≡ Some r)
  first_by n None here some = absurd (omega (arith, some))
  first_by n (Some e) here some =
      some_there e.attrs.first ((entry_fits held work n e here).0.attrs.list ∙ lt-ltb 0 e.attrs.chains some)

  few_by : (n k : ℕ) (o : Option Entry) → held_of n held.entries ≡ o → k < option_map_or (λ e. e.attrs.chains) o 0 → k < 8
  few_by n k None here some = absurd (omega (arith, some))
  few_by n k (Some e) here some = most_by (nat_eq e.attrs.kind 2) (entry_fits held work n e here).0.attrs.chains
    where
      most_by : (b : Bool) → e.attrs.chains ≤ cond b 1 8 → k < 8
      most_by true most = omega (arith, most, some)
      most_by false most = omega (arith, most, some)

  -- a chaining block that is told is one of eight
  pub few_chains : (n k : ℕ) → IsTold held (want.Chain n k) → k < 8
  few_chains n k told = few_by n k (held_of n held.entries) refl told.0

  next_there : (n k : ℕ) (c : ChainBlock) → chain_of held n k ≡ Some c → suc k < chains_of held n → (r : Reference) × (c.next ≡ Some r)
  next_there n k c here told =
      let fits = chain_fits held work n k c here in
      let some : k + 1 < fits.entry.attrs.chains =
      let below : suc k < fits.entry.attrs.chains = subst (λ o. suc k < option_map_or (λ (e : Entry). e.attrs.chains) o 0) fits.here told in omega (arith, below) in
      some_there c.next (fits.fit.list ∙ lt-ltb (k + 1) fits.entry.attrs.chains some)

  -- and lies somewhere
  pub chain_lies : (n k : ℕ) → IsTold held (want.Chain n k) → (r : Reference) × (place_of held n (Chain k) ≡ Some r)
  chain_lies n zero told = first_by n (held_of n held.entries) refl told.0
  chain_lies n (suc k) told =
      let there = chain_there n k (told.1 k (omega arith)) in
      let next = next_there n k there.0 there.1 told.0 in
      (next.0, ap (λ o. option_and_then (λ (c : ChainBlock). c.next) o) there.1 ∙ next.1)

  -- ---- blocks of a directory

  most_of : (a : Attrs) (b : Bool) → nat_eq a.kind 2 ≡ b → a.size ≤ most_bytes a.kind → cond b (a.size / 4096) 0 ≤ 510
  most_of a true is size = let most : a.size ≤ 2088960 = subst (λ k. a.size ≤ most_bytes k) (eqb-true a.kind 2 is) size in omega (arith, most)
  most_of a false is size = omega arith

  due : (n i : ℕ) (c : ChainBlock) → chain_of held n 0 ≡ Some c → i < at_record held n 0 dir_blocks → (i < 510) × ((r : Reference) × (get_or c.references i None ≡ Some r))
  due n i c here below =
      let fits = chain_fits held work n 0 c here in
      let entry = entry_fits held work n fits.entry fits.here in
      let inside : i < dir_blocks fits.entry.attrs = subst (λ o. i < option_map_or (λ (e : Entry). dir_blocks e.attrs) o 0) fits.here below in
      let most = most_of fits.entry.attrs (nat_eq fits.entry.attrs.kind 2) refl entry.0.attrs.size in
      let few : i < 510 = omega (arith, inside, most) in
      let zero_more : 510 * 0 + i ≡ i = omega arith in
      let is_due : nat_lt (510 * 0 + i) (dir_blocks fits.entry.attrs) ≡ true = ap (λ k. nat_lt k (dir_blocks fits.entry.attrs)) zero_more ∙ lt-ltb i (dir_blocks fits.entry.attrs) inside in
      (few, some_there (get_or c.references i None) ((fits.fit.references i few).1 is_due))

  -- each block that the record of a directory tells lies somewhere
  pub block_lies : (n g i : ℕ) → IsTold held (want.Slots n g) → i < at_record held n 0 dir_blocks → (r : Reference) × (place_of held n (Block i) ≡ Some r)
  block_lies n g i told below =
      let there = chain_there n 0 told.1 in
      let is = due n i there.0 there.1 below in
      let few = is.0 in
      let chain : i / 510 ≡ 0 = omega (arith, few) in
      let nth : i % 510 ≡ i = omega (arith, few) in (
        is.1.0,
        ap (λ k. option_and_then (λ (c : ChainBlock). get_or c.references (i % 510) None) (chain_of held n k)) chain
            ∙ ap (λ o. option_and_then (λ (c : ChainBlock). get_or c.references (i % 510) None) o) there.1 ∙ ap (λ j. get_or there.0.references j None) nth ∙ is.1.1,
      )
