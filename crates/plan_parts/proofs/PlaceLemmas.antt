-- Where a work set tells parts of files: at blocks of the cluster.
use Rattle.std.proofs.Common.{◌≡◌, ℕ, zero, suc, ◌+◌, ◌*◌, ◌<◌, ◌≤◌, ◌++◌, cond, true, false, Bool, List, [], ◌∷◌, Option, Some, None, refl, sym, ap, subst, ◌∙◌, arith}
use Rattle.std.specs.Prelude.{◌/◌, ◌%◌, ◌==◌, nat_eq, find, get_or, flat_map, option_map, option_and_then, IfSome}
use Rattle.std.specs.Option.{option_map_or}
use Rattle.std.proofs.lemmas.Bool.{eqb-true}
use Rattle.std.proofs.lemmas.List.{append-nil, append_assoc}
use Rattle.std.proofs.lemmas.Grind.{flat_map-append}
use Rattle.fs_layout.specs.declared.attrs.Attrs.{Attrs}
use Rattle.fs_chain.specs.declared.chain_block.ChainBlock.{ChainBlock}
use Rattle.fs_image.specs.Owners.{Part, Chain, Block}
use Rattle.fs_image.specs.Stands.{IsBlock}
use Rattle.node_cache.specs.declared.entry.Entry.{Entry}
use Rattle.node_cache.specs.declared.entry.HeldChain.{HeldChain}
use Rattle.node_cache.specs.declared.held.Held.{Held}
use Rattle.node_cache.specs.Cached.{held_of}
use Rattle.fs_rules.specs.Lists.{below}
use Rattle.plan_rules.specs.Told.{at_record, chain_of, place_of, dir_blocks}
use Rattle.plan_rules.specs.Fits.{IsFitChain, most_bytes}
use Rattle.plan_rules.specs.Works.{IsFitEntry, IsWorkSet}
use Rattle.plan_rules.proofs.SearchLemmas.{found_there}

module _ (held : Held) (work : IsWorkSet held) where
  -- an entry that is found is fit, and has the number
  pub entry_fits : (n : ℕ) (e : Entry) → held_of n held.entries ≡ Some e → IsFitEntry held.geometry e × (n ≡ e.number)
  entry_fits n e is =
      let there = found_there (λ x. nat_eq n x.number) e held.entries is in (work.entries there.0 e there.1, eqb-true n e.number there.2)

  -- a chaining block that is found is fit at its place
  pub record IsFitAt (n k : ℕ) (c : ChainBlock) : Type 0 where
    pub entry : Entry
    pub here : held_of n held.entries ≡ Some entry
    pub fit : IsFitChain held.geometry entry.attrs n k c

  chain_by : (n k : ℕ) (c : ChainBlock) (e : Entry) (o : Option HeldChain) → held_of n held.entries ≡ Some e → find (λ x. x.index == k) e.chains ≡ o
      → option_map (λ x. x.chain) o ≡ Some c → IsFitAt n k c
  chain_by n k c e None here at is = absurd cc
  chain_by n k c e (Some x) here at is =
      let there = found_there (λ y. y.index == k) x e.chains at in
      let fits = entry_fits n e here in
      let same : x.chain ≡ c = cc in
      record {
        entry = e;
        here = here;
        fit = subst (λ (d : ChainBlock). IsFitChain held.geometry e.attrs n k d) same
            (subst (λ i. IsFitChain held.geometry e.attrs n i x.chain) (eqb-true x.index k there.2)
            (subst (λ m. IsFitChain held.geometry e.attrs m x.index x.chain) (sym fits.1) (fits.0.chains there.0 x there.1)));
      }

  chains_by : (n k : ℕ) (c : ChainBlock) (o : Option Entry) → held_of n held.entries ≡ o
      → option_and_then (λ e. option_map (λ x. x.chain) (find (λ x. x.index == k) e.chains)) o ≡ Some c → IsFitAt n k c
  chains_by n k c None here is = absurd cc
  chains_by n k c (Some e) here is = chain_by n k c e (find (λ x. x.index == k) e.chains) here refl is

  pub chain_fits : (n k : ℕ) (c : ChainBlock) → chain_of held n k ≡ Some c → IsFitAt n k c
  chain_fits n k c is = chains_by n k c (held_of n held.entries) refl is

  first_by : (n : ℕ) (o : Option Entry) → held_of n held.entries ≡ o → IfSome (option_map_or (λ e. e.attrs.first) o None) (IsBlock held.geometry)
  first_by n None here = tt
  first_by n (Some e) here = (entry_fits n e here).0.attrs.first

  next_by : (n k : ℕ) (o : Option ChainBlock) → chain_of held n k ≡ o → IfSome (option_and_then (λ c. c.next) o) (IsBlock held.geometry)
  next_by n k None here = tt
  next_by n k (Some c) here = (chain_fits n k c here).fit.next

  block_by : (n k j : ℕ) (o : Option ChainBlock) → j < 510 → chain_of held n k ≡ o
      → IfSome (option_and_then (λ c. get_or c.references j None) o) (IsBlock held.geometry)
  block_by n k j None below here = tt
  block_by n k j (Some c) below here = ((chain_fits n k c here).fit.references j below).0

  pub places_inside : (n : ℕ) (x : Part) → IfSome (place_of held n x) (IsBlock held.geometry)
  places_inside n (Chain zero) = first_by n (held_of n held.entries) refl
  places_inside n (Chain (suc k)) = next_by n k (chain_of held n k) refl
  places_inside n (Block i) = block_by n (i / 510) (i % 510) (chain_of held n (i / 510)) (omega arith) refl

  -- ---- groups

  -- a directory that tells so many blocks has few groups
  group_by : (n g : ℕ) (o : Option Entry) → held_of n held.entries ≡ o → 64 * g < option_map_or (λ e. dir_blocks e.attrs) o 0 → g < 8
  group_by n g None here told = absurd (omega (arith, told))
  group_by n g (Some e) here told = few_by e.attrs (nat_eq e.attrs.kind 2) refl (entry_fits n e here).0.attrs.size told
    where
      few_by : (a : Attrs) (b : Bool) → nat_eq a.kind 2 ≡ b → a.size ≤ most_bytes a.kind → 64 * g < cond b (a.size / 4096) 0 → g < 8
      few_by a true is size told =
          let most : a.size ≤ 2088960 = subst (λ k. a.size ≤ most_bytes k) (eqb-true a.kind 2 is) size in omega (arith, most, told)
      few_by a false is size told = absurd (omega (arith, told))

  pub few_groups : (n g : ℕ) → 64 * g < at_record held n 0 dir_blocks → g < 8
  few_groups n g told = group_by n g (held_of n held.entries) refl told

-- one number more
pub grown : {X : Type 0} (f : ℕ → List X) (i : ℕ) → flat_map f (below (i + 1)) ≡ flat_map f (below i) ++ f i
unfolding below
grown f i =
    let more : i + 1 ≡ suc i = omega arith in
    subst (λ n. flat_map f (below n) ≡ flat_map f (below i) ++ f i) (sym more)
    (flat_map-append f (below i) (i ∷ []) ∙ ap (λ xs. flat_map f (below i) ++ xs) (append-nil (f i)))

pub none_yet : {X : Type 0} (xs : List X) (f : ℕ → List X) → xs ++ flat_map f (below 0) ≡ xs
unfolding below
none_yet xs f = append-nil xs

pub one_more : {X : Type 0} (xs : List X) (f : ℕ → List X) (i : ℕ) → (xs ++ flat_map f (below i)) ++ f i ≡ xs ++ flat_map f (below (i + 1))
one_more xs f i = append_assoc xs (flat_map f (below i)) (f i) ∙ ap (λ ys. xs ++ ys) (sym (grown f i))
