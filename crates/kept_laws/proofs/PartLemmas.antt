-- Where the parts of a file lie of which what is held is the memory's own.
use Rattle.std.proofs.Common.{◌≡◌, ℕ, zero, suc, ◌+◌, ◌*◌, ◌/◌, ◌%◌, ◌<◌, true, false, cond, length, Option, Some, None, get_or, refl, sym, ap, subst, ◌∙◌, arith}
use Rattle.std.specs.Prelude.{◌==◌, nat_lt, is_some, option_and_then}
use Rattle.std.specs.FinMap as table
use Rattle.fs_chain.specs.declared.chain_block.ChainBlock.{ChainBlock}
use Rattle.fs_rules.specs.declared.content.Content.{Content}
use Rattle.fs_rules.specs.declared.content.Content.TheVariants.{Regular, Directory, Link}
use Rattle.fs_rules.specs.declared.file.File.{File}
use Rattle.fs_rules.specs.declared.plain_tree.PlainTree.{PlainTree}
use Rattle.fs_rules.specs.File.{kind_of}
use Rattle.fs_rules.specs.Good.{IsGood, IsInOrder}
use Rattle.fs_rules.specs.Numbers.{kept_at}
use Rattle.mini_tx.specs.FlatMemory.{Flat}
use Rattle.fs_image.specs.Owners.{Owners, Chain, Block}
use Rattle.fs_image.specs.Parts.{inode_of, is_stored}
use Rattle.fs_image.specs.Stands.{Shows}
use Rattle.node_cache.specs.declared.held.Held.{Held}
use Rattle.node_cache.specs.declared.want.Want.TheVariants as want
use Rattle.plan_rules.specs.Matched.{IsOwnFile}
use Rattle.plan_rules.specs.Steps.{is_held}
use Rattle.plan_rules.specs.Told.{at_record, chain_of, chains_of, dir_blocks, place_of}
use Rattle.plan_rules.specs.Works.{IsWorkSet}
use Rattle.plan_looks.proofs.LookLemmas.{chain_is_held}
use Rattle.read_laws.proofs.OwnLemmas.{says_shown}
use Rattle.content_laws.proofs.PlaceLemmas.{chain_tells, has_chain, says_file, shown}

some_there : {X : Type 0} (o : Option X) → is_some o ≡ true → (x : X) × (o ≡ Some x)
some_there None is = absurd cc
some_there (Some x) is = (x, refl)

module _ (held : Held) (flat : Flat) (t : PlainTree) (o : Owners) (work : IsWorkSet held) (same : held.geometry ≡ t.geometry) (shows : Shows flat t o) (good : IsGood t)
    (n : ℕ) (there : is_held held (want.Inode n) ≡ true) (own : IsOwnFile t.geometry flat o held n) where
  -- a file whose record tells chaining blocks is there
  file_by : (p : Option File) → table.get t.files n ≡ p → 0 < chains_of held n → (f : File) × (table.get t.files n ≡ Some f)
  file_by None is some =
      let none : chains_of held n ≡ 0 =
      says_shown held flat t o work same shows n there own 0 (λ a. a.chains) ∙ ap (λ (q : Option File). (inode_of q (kept_at t n) (o.place n (Chain 0))).chains) is in
      absurd (omega (arith, some, none))
  file_by (Some f) is some = (f, is)

  pub file_there : 0 < chains_of held n → (f : File) × (table.get t.files n ≡ Some f)
  file_there some = file_by (table.get t.files n) refl some

  module _ (f : File) (there_is : table.get t.files n ≡ Some f) where
    chain_at : (k : ℕ) → is_held held (want.Chain n k) ≡ true → (c : ChainBlock) × (chain_of held n k ≡ Some c)
    chain_at k is = some_there (chain_of held n k) (sym (chain_is_held held n k) ∙ is)

    -- a chaining block lies where the one before it tells it
    pub chain_placed : (k : ℕ) → ((i : ℕ) → i < k → is_held held (want.Chain n i) ≡ true) → place_of held n (Chain k) ≡ o.place n (Chain k)
    chain_placed zero before = says_file held flat t o work same shows good n f there_is there own None (λ a. a.first)
    chain_placed (suc j) before =
        let c = chain_at j (before j (omega arith)) in
        let has = has_chain held flat t o work same shows good n f there_is there own j c.0 c.1 in
        let sum : j + 1 ≡ suc j = omega arith in
        ap (λ (p : Option ChainBlock). option_and_then (λ x. x.next) p) c.1 ∙ ap (λ (x : ChainBlock). x.next) has.chain_is ∙ has.holds.next
        ∙ ap (λ i. o.place n (Chain i)) sum

    -- a block of a directory where its first chaining block tells it
    pub block_placed : is_held held (want.Chain n 0) ≡ true → (i : ℕ) → i < 510 → place_of held n (Block i) ≡ o.place n (Block i)
    block_placed first i few =
        let c = chain_at 0 first in
        let index : i / 510 ≡ 0 = omega (arith, few) in
        let at : i % 510 ≡ i = omega (arith, few) in
        let sum : 510 * 0 + i ≡ i = omega arith in
        ap (λ k. option_and_then (λ (x : ChainBlock). get_or x.references (i % 510) None) (chain_of held n k)) index
        ∙ ap (λ (p : Option ChainBlock). option_and_then (λ x. get_or x.references (i % 510) None) p) c.1
        ∙ ap (λ j. get_or c.0.references j None) at
        ∙ chain_tells held flat t o work same shows good n f there_is there own 0 c.0 i c.1 few
        ∙ ap (λ j. o.place n (Block j)) sum

    no_blocks : (k : ℕ) → kind_of f.content ≡ k → (k == 2) ≡ false → 0 < at_record held n 0 dir_blocks → ⊥
    no_blocks k kind other some =
        let none : at_record held n 0 dir_blocks ≡ 0 =
        says_file held flat t o work same shows good n f there_is there own 0 dir_blocks ∙ ap (λ j. cond (j == 2) (f.size / 4096) 0) kind
        ∙ ap (λ b. cond b (f.size / 4096) 0) other in
        omega (arith, some, none)

    -- a directory's blocks are those that its record tells
    stored_by : (c : Content) → f.content ≡ c → 0 < at_record held n 0 dir_blocks → (i : ℕ) → is_stored f.content i ≡ nat_lt i (at_record held n 0 dir_blocks)
    stored_by (Regular blocks) is some i = absurd (no_blocks 1 (ap kind_of is) refl some)
    stored_by (Directory slots parent) is some i =
        let size = (subst (λ (c : Content). IsInOrder t n f c) is (good.files n f there_is).content).0 in
        let count : f.size / 4096 ≡ length slots / 15 = omega (arith, size) in
        let told : at_record held n 0 dir_blocks ≡ length slots / 15 =
        says_file held flat t o work same shows good n f there_is there own 0 dir_blocks ∙ ap (λ (c : Content). cond (kind_of c == 2) (f.size / 4096) 0) is ∙ count in
        ap (λ (c : Content). is_stored c i) is ∙ ap (nat_lt i) (sym told)
    stored_by (Link blocks) is some i = absurd (no_blocks 5 (ap kind_of is) refl some)

    pub block_told : 0 < at_record held n 0 dir_blocks → (i : ℕ) → is_some (o.place n (Block i)) ≡ nat_lt i (at_record held n 0 dir_blocks)
    block_told some i =
        (shown held flat t o work same shows good n f there_is there own).there (Block i) ∙ stored_by f.content refl some i
