-- The chaining blocks of a file, where all are held, tell where its blocks lie.
use Rattle.std.proofs.Common.{◌≡◌, ℕ, ◌+◌, ◌*◌, ◌/◌, ◌%◌, ◌<◌, true, false, Bool, List, [], length, Option, Some, None, get_or, refl, sym, ap, subst, ◌∙◌, arith}
use Rattle.std.specs.Prelude.{◌==◌, find, is_some, option_and_then, option_map, unwrap_or}
use Rattle.std.specs.FinMap as table
use Rattle.std.proofs.lemmas.Bool.{eqb-true, true≢false}
use Rattle.std.proofs.lemmas.Option.{get_or_from_slice_get}
use Rattle.fs_layout.specs.declared.attrs.Attrs.{Attrs}
use Rattle.fs_layout.specs.declared.reference.Reference.{Reference}
use Rattle.fs_chain.specs.declared.chain_block.ChainBlock.{ChainBlock}
use Rattle.fs_chain.specs.Chains.{SpellsChain}
use Rattle.fs_chain.proofs.ChainLemmas.{chain_one}
use Rattle.fs_content.specs.Pieces.{block_at}
use Rattle.fs_rules.specs.declared.content.Content.{Content}
use Rattle.fs_rules.specs.declared.content.Content.TheVariants.{Regular, Directory, Link}
use Rattle.fs_rules.specs.declared.file.File.{File}
use Rattle.fs_rules.specs.declared.geometry.Geometry.{Geometry}
use Rattle.fs_rules.specs.declared.plain_tree.PlainTree.{PlainTree}
use Rattle.fs_rules.specs.File.{blocks_of, is_directory}
use Rattle.fs_rules.specs.Good.{IsGood, IsInOrder, IsStored}
use Rattle.fs_rules.specs.Numbers.{kept_at, IsNumber}
use Rattle.mini_tx.specs.FlatMemory.{Flat}
use Rattle.fs_image.specs.Owners.{Owners, Chain, Block}
use Rattle.fs_image.specs.Parts as parts
use Rattle.fs_image.specs.Parts.{HoldsBlock, HoldsChain, inode_of, is_stored, live_inode}
use Rattle.fs_image.specs.Places.{block_bytes}
use Rattle.fs_image.specs.Stands.{Shows, ShowsFile}
use Rattle.fs_image.proofs.ContentLemmas.{stored_chains}
use Rattle.node_cache.specs.declared.entry.Entry.{Entry}
use Rattle.node_cache.specs.declared.entry.HeldChain.{HeldChain}
use Rattle.node_cache.specs.declared.held.Held.{Held}
use Rattle.node_cache.specs.declared.want.Want.TheVariants as want
use Rattle.node_cache.specs.Cached.{held_of}
use Rattle.node_cache.specs.Truth.{IsThere}
use Rattle.plan_rules.specs.Matched.{IsOwnFile}
use Rattle.plan_rules.specs.Steps.{is_held}
use Rattle.plan_rules.specs.Told.{at_record, chain_of, chains_of, place_of}
use Rattle.plan_rules.specs.Works.{IsWorkSet}
use Rattle.plan_rules.proofs.SearchLemmas.{found_there}
use Rattle.plan_looks.proofs.LookLemmas.{chain_is_held}
use Rattle.read_laws.proofs.OwnLemmas.{says_shown}
use Rattle.content_laws.proofs.JoinLemmas.{LieAt}

some_there : {X : Type 0} (o : Option X) → is_some o ≡ true → (x : X) × (o ≡ Some x)
some_there None is = absurd cc
some_there (Some x) is = (x, refl)

-- what is there
there_at : (g : Geometry) (flat : Flat) (IsIt : List ℕ → Type 0) (p : Option Reference) → IsThere g flat IsIt p → (r : Reference) × (p ≡ Some r) × IsIt (block_bytes g flat r)
there_at g flat IsIt None is = absurd is
there_at g flat IsIt (Some r) is = (r, refl, is)

-- a chaining block that is found in an entry
found_in : (o : Option HeldChain) (c : ChainBlock) → option_map (λ x. x.chain) o ≡ Some c → (x : HeldChain) × (o ≡ Some x) × (x.chain ≡ c)
found_in None c is = absurd cc
found_in (Some x) c is = (x, refl, (let same : x.chain ≡ c = cc in same))

none_there : {X : Type 0} (o : Option X) → is_some o ≡ false → o ≡ None
none_there None is = refl
none_there (Some x) is = absurd cc

-- ---- blocks of bytes

module _ (c : Content) (bytes : is_directory c ≡ false) where
  pub holds_bytes : (i : ℕ) (block : List ℕ) → HoldsBlock c i block → table.get (blocks_of c) i ≡ Some block
  holds_bytes i block holds = elim c as (λ (x : Content). is_directory x ≡ false → HoldsBlock x i block → table.get (blocks_of x) i ≡ Some block) [
    | Regular blocks ↦ λ no is. is
    | Directory slots parent ↦ λ no is. absurd cc
    | Link blocks ↦ λ no is. is
  ] bytes holds

  pub not_stored : (i : ℕ) → is_stored c i ≡ false → table.get (blocks_of c) i ≡ None
  not_stored i none = elim c as (λ (x : Content). is_directory x ≡ false → is_stored x i ≡ false → table.get (blocks_of x) i ≡ None) [
    | Regular blocks ↦ λ no is. none_there (table.get blocks i) is
    | Directory slots parent ↦ λ no is. absurd cc
    | Link blocks ↦ λ no is. none_there (table.get blocks i) is
  ] bytes none

  pub stored_of : (t : PlainTree) (n : ℕ) (f : File) → IsInOrder t n f c → IsStored f.size (blocks_of c)
  stored_of t n f order = elim c as (λ (x : Content). is_directory x ≡ false → IsInOrder t n f x → IsStored f.size (blocks_of x)) [
    | Regular blocks ↦ λ no is. is.1
    | Directory slots parent ↦ λ no is. absurd cc
    | Link blocks ↦ λ no is. is.1
  ] bytes order

module _ (held : Held) (flat : Flat) (t : PlainTree) (o : Owners) (work : IsWorkSet held) (same : held.geometry ≡ t.geometry) (shows : Shows flat t o) (good : IsGood t)
    (n : ℕ) (f : File) (there_is : table.get t.files n ≡ Some f) (there : is_held held (want.Inode n) ≡ true) (own : IsOwnFile t.geometry flat o held n) where
  pub lies : IsNumber t.geometry n
  lies = (good.files n f there_is).number

  pub shown : ShowsFile flat t (o.place n) lies.memory lies.inode (Some f)
  shown =
      subst (λ (p : Option File). ShowsFile flat t (o.place n) lies.memory lies.inode p) there_is
      (subst (λ k. ShowsFile flat t (o.place k) lies.memory lies.inode (table.get t.files k)) (sym lies.is) (shows.files lies.memory lies.inode lies.there.0 lies.there.1))

  -- the record is that of the file
  pub says_file : {A : Type 0} (other : A) (said : Attrs → A) → at_record held n other said ≡ said (live_inode f (o.place n (Chain 0)))
  says_file other said =
      says_shown held flat t o work same shows n there own other said
      ∙ ap (λ (p : Option File). said (inode_of p (kept_at t n) (o.place n (Chain 0)))) there_is

  pub chains_told : chains_of held n ≡ parts.chains_of f.content
  chains_told = says_file 0 (λ a. a.chains)

  abbrev entry : (e : Entry) × (held_of n held.entries ≡ Some e)
  entry = some_there (held_of n held.entries) there

  -- the file has such a chaining block, which refers to its blocks
  pub record HasChain (k : ℕ) (c : ChainBlock) : Type 0 where
    pub place : Reference
    pub lies_there : o.place n (Chain k) ≡ Some place
    pub holds : HoldsChain (o.place n) n k (block_bytes t.geometry flat place)
    pub chain_is : c ≡ holds.chain

  pub has_chain : (k : ℕ) (c : ChainBlock) → chain_of held n k ≡ Some c → HasChain k c
  has_chain k c is =
      let e = entry.0 in
      let one = found_in (find (λ x. x.index == k) e.chains) c
      (ap (λ (p : Option Entry). option_and_then (λ e. option_map (λ x. x.chain) (find (λ x. x.index == k) e.chains)) p) (sym entry.1) ∙ is) in
      let x = one.0 in
      let at = found_there (λ (y : HeldChain). y.index == k) x e.chains one.1 in
      let number : x.index ≡ k = eqb-true x.index k at.2 in
      let place = there_at t.geometry flat (SpellsChain x.chain) (o.place n (Chain x.index)) ((own e entry.1).chains at.0 x at.1) in
      let here : o.place n (Chain k) ≡ Some place.0 = ap (λ i. o.place n (Chain i)) (sym number) ∙ place.1 in
      let holds : HoldsChain (o.place n) n k (block_bytes t.geometry flat place.0) =
      subst (λ m. HoldsChain (o.place n) m k (block_bytes t.geometry flat place.0)) (sym lies.is) (shown.holds f (Chain k) place.0 refl here) in
      record {
        place = place.0;
        lies_there = here;
        holds = holds;
        chain_is = sym one.2 ∙ chain_one x.chain holds.chain (block_bytes t.geometry flat place.0) place.2 holds.spelled;
      }

  -- it tells where these lie
  pub chain_tells : (k : ℕ) (c : ChainBlock) (j : ℕ) → chain_of held n k ≡ Some c → j < 510 → get_or c.references j None ≡ o.place n (Block (510 * k + j))
  chain_tells k c j is below =
      let has = has_chain k c is in
      ap (λ (d : ChainBlock). get_or d.references j None) has.chain_is
      ∙ get_or_from_slice_get has.holds.chain.references j (o.place n (Block (510 * k + j))) None (has.holds.references j below)

  pub chain_within : (k : ℕ) (c : ChainBlock) → chain_of held n k ≡ Some c → is_some (o.place n (Chain k)) ≡ true
  chain_within k c is = ap (λ (p : Option Reference). is_some p) (has_chain k c is).lies_there

  module _ (all : (k : ℕ) → k < chains_of held n → is_held held (want.Chain n k) ≡ true) where
    no_chain : (i : ℕ) → chain_of held n (i / 510) ≡ None → is_stored f.content i ≡ false
    no_chain i none = elim (is_stored f.content i) as (λ (b : Bool). is_stored f.content i ≡ b → b ≡ false) [
      | false ↦ λ is. refl
      | true ↦ λ is. (
          let far = stored_chains f.content i is in
          let held_there = all (i / 510) (omega (arith, chains_told, far)) in
          absurd (true≢false (sym held_there ∙ chain_is_held held n (i / 510) ∙ ap (λ (p : Option ChainBlock). is_some p) none)))
    ] refl

    place_by : (i : ℕ) (p : Option ChainBlock) → chain_of held n (i / 510) ≡ p → option_and_then (λ c. get_or c.references (i % 510) None) p ≡ o.place n (Block i)
    place_by i None is = sym (none_there (o.place n (Block i)) (shown.there (Block i) ∙ no_chain i is))
    place_by i (Some c) is =
        let whole : 510 * (i / 510) + i % 510 ≡ i = omega arith in
        chain_tells (i / 510) c (i % 510) is (omega arith) ∙ ap (λ j. o.place n (Block j)) whole

    -- the blocks lie where what is held tells it
    pub place_told : (i : ℕ) → place_of held n (Block i) ≡ o.place n (Block i)
    place_told i = place_by i (chain_of held n (i / 510)) refl

    -- and are those of the file
    module _ (bytes : is_directory f.content ≡ false) where
      stored : IsStored f.size (blocks_of f.content)
      stored = stored_of f.content bytes t n f (good.files n f there_is).content

      stored_at : (i : ℕ) (r : Reference) → place_of held n (Block i) ≡ Some r
          → (block_at (blocks_of f.content) i ≡ block_bytes t.geometry flat r) × (length (block_bytes t.geometry flat r) ≡ 4096)
      stored_at i r is =
          let there_at = holds_bytes f.content bytes i (block_bytes t.geometry flat r) (shown.holds f (Block i) r refl (sym (place_told i) ∙ is)) in
          (ap (λ (p : Option (List ℕ)). unwrap_or p []) there_at, (stored.whole i (block_bytes t.geometry flat r) there_at).0)

      hole_at : (i : ℕ) → place_of held n (Block i) ≡ None → block_at (blocks_of f.content) i ≡ []
      hole_at i is =
          let none : is_stored f.content i ≡ false = sym (shown.there (Block i)) ∙ ap (λ (p : Option Reference). is_some p) (sym (place_told i) ∙ is) in
          ap (λ (p : Option (List ℕ)). unwrap_or p []) (not_stored f.content bytes i none)

      pub blocks_lie : LieAt held.geometry flat (λ i. place_of held n (Block i)) (blocks_of f.content)
      blocks_lie =
          subst (λ (g : Geometry). LieAt g flat (λ i. place_of held n (Block i)) (blocks_of f.content)) (sym same)
          (record { stored = stored_at; holes = hole_at })
