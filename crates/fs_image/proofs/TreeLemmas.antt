-- A flat memory stands for at most one tree.
use Rattle.std.proofs.Common.{◌≡◌, ◌≢◌, ℕ, ◌<◌, Option, Some, None, refl, sym, ap, subst, ◌∙◌, arith}
use Rattle.std.specs.Prelude.{IsSome, unwrap_or}
use Rattle.std.specs.Ordering.{nat_cmp}
use Rattle.std.specs.FinMap as table
use Rattle.std.specs.FinMap.{FinMap}
use Rattle.std.proofs.lemmas.Bool.{true≢false}
use Rattle.std.proofs.lemmas.Option.{none-some}
use Rattle.sfs_base.proofs.MapLemmas.{same_look_ups}
use Rattle.fs_layout.specs.declared.attrs.Attrs.{Attrs}
use Rattle.fs_layout.specs.declared.reference.Reference.{Reference}
use Rattle.fs_layout.specs.Places.{number_of}
use Rattle.fs_layout.proofs.RecordLemmas.{inode_one}
use Rattle.fs_rules.specs.declared.content.Content.{Content}
use Rattle.fs_rules.specs.declared.content.Content.TheVariants.{Regular, Link, Directory}
use Rattle.fs_rules.specs.declared.file.File.{File}
use Rattle.fs_rules.specs.declared.geometry.Geometry.{Geometry}
use Rattle.fs_rules.specs.declared.kept.Kept.{Kept}
use Rattle.fs_rules.specs.declared.plain_tree.PlainTree.{PlainTree}
use Rattle.fs_rules.specs.File.{kind_of}
use Rattle.fs_rules.specs.Good.{IsGood, IsInOrder, AreSlots}
use Rattle.fs_rules.specs.Numbers.{IsNumber, kept_at}
use Rattle.mini_tx.specs.FlatMemory.{Flat}
use Rattle.fs_image.specs.Owners.{Part, Chain, Owners}
use Rattle.fs_image.specs.Parts.{has_part_of, inode_of}
use Rattle.fs_image.specs.Places.{inode_bytes, block_bytes}
use Rattle.fs_image.specs.Stands.{ShowsFile, Shows, Stands}
use Rattle.fs_image.specs.Laws.{OneTree}
use Rattle.fs_image.proofs.ContentLemmas.{IsWhole}
use Rattle.fs_image.proofs.WalkLemmas.{IsShown, file_one}

abbrev pub tree : Geometry → FinMap nat_cmp File → FinMap nat_cmp Kept → PlainTree
tree g files freed = record { geometry = g; files = files; freed = freed }

-- ---- the files of a good tree

no_zero : (t : PlainTree) → IsGood t → (n : ℕ) (o : Option File) → table.get t.files n ≡ o → IsSome o → n ≢ 0
no_zero t good n None is live = absurd (true≢false (sym live))
no_zero t good n (Some f) is live = λ none. let number = (good.files n f is).number in omega (arith, none, number.is)

whole : (t : PlainTree) → IsGood t → (n : ℕ) (f : File) (c : Content) → IsInOrder t n f c → IsWhole c
whole t good n f (Regular blocks) order = record { sized = refl; names = λ i e is. absurd (none-some (Some e) is) }
whole t good n f (Directory slots parent) order =
    let are : AreSlots t slots = order.1 in
    record {
      sized = omega (arith, are.whole);
      names = λ i e is. no_zero t good e.file (table.get t.files e.file) refl (are.names i e is).1;
    }
whole t good n f (Link blocks) order = record { sized = refl; names = λ i e is. absurd (none-some (Some e) is) }

some_kind : (c : Content) → kind_of c ≡ 0 → ⊥
some_kind (Regular blocks) none = omega (arith, none)
some_kind (Directory slots parent) none = omega (arith, none)
some_kind (Link blocks) none = omega (arith, none)

-- ---- what is there of one number

shown : {flat : Flat} {u : PlainTree} {place : Part → Option Reference} {m inode : ℕ} {file : Option File} → ShowsFile flat u place m inode file → (f : File) → file ≡ Some f
    → IsShown (block_bytes u.geometry flat) (number_of m inode) place f.content
shown shows f is =
    record {
      there = λ x. shows.there x ∙ ap (λ o. has_part_of o x) is;
      holds = λ x r at. shows.holds f x r is at;
    }

-- what a number keeps is not nothing
same_kept : (a b : Option Kept) → ((k : Kept) → a ≡ Some k → k.generation ≡ 0 → k.change ≡ 0 → ⊥) → ((k : Kept) → b ≡ Some k → k.generation ≡ 0 → k.change ≡ 0 → ⊥)
    → unwrap_or a (record { generation = 0; change = 0 }) ≡ unwrap_or b (record { generation = 0; change = 0 }) → a ≡ b
same_kept None None ma mb same = refl
same_kept None (Some k) ma mb same = absurd (mb k refl (sym (ap (λ (x : Kept). x.generation) same)) (sym (ap (λ (x : Kept). x.change) same)))
same_kept (Some k) None ma mb same = absurd (ma k refl (ap (λ (x : Kept). x.generation) same) (ap (λ (x : Kept). x.change) same))
same_kept (Some k) (Some j) ma mb same = ap Some same

-- a live number keeps nothing
live_none : (t : PlainTree) → IsGood t → (n : ℕ) (f : File) (o : Option Kept) → table.get t.files n ≡ Some f → table.get t.freed n ≡ o → o ≡ None
live_none t good n f None live is = refl
live_none t good n f (Some k) live is = absurd (none-some f (sym (good.freed n k is).free ∙ live))

module _ (g : Geometry) (files others : FinMap nat_cmp File) (freed left : FinMap nat_cmp Kept) (flat : Flat) (o p : Owners)
    (gt : IsGood (tree g files freed)) (gu : IsGood (tree g others left)) (st : Shows flat (tree g files freed) o) (su : Shows flat (tree g others left) p)
  where
    abbrev t : PlainTree
    t = tree g files freed

    abbrev u : PlainTree
    u = tree g others left

    module _ (m inode : ℕ) (below : m < g.memories) (within : inode < g.inodes) where
      abbrev n : ℕ
      n = number_of m inode

      same_inode : inode_of (table.get files n) (kept_at t n) (o.place n (Chain 0)) ≡ inode_of (table.get others n) (kept_at u n) (p.place n (Chain 0))
      same_inode = inode_one _ _ (inode_bytes flat m inode) (st.files m inode below within).record_is (su.files m inode below within).record_is

      same_file : (a b : Option File) → table.get files n ≡ a → table.get others n ≡ b → a ≡ b
      same_file None None is too = refl
      same_file None (Some f) is too =
          let same = sym (ap (λ x. inode_of x (kept_at t n) (o.place n (Chain 0))) is) ∙ same_inode ∙ ap (λ x. inode_of x (kept_at u n) (p.place n (Chain 0))) too in
          absurd (some_kind f.content (sym (ap (λ (a : Attrs). a.kind) same)))
      same_file (Some f) None is too =
          let same = sym (ap (λ x. inode_of x (kept_at t n) (o.place n (Chain 0))) is) ∙ same_inode ∙ ap (λ x. inode_of x (kept_at u n) (p.place n (Chain 0))) too in
          absurd (some_kind f.content (ap (λ (a : Attrs). a.kind) same))
      same_file (Some f) (Some h) is too =
          let same = sym (ap (λ x. inode_of x (kept_at t n) (o.place n (Chain 0))) is) ∙ same_inode ∙ ap (λ x. inode_of x (kept_at u n) (p.place n (Chain 0))) too in
          ap Some (file_one (block_bytes g flat) n (o.place n) (p.place n) f h (shown (st.files m inode below within) f is) (shown (su.files m inode below within) h too)
          (whole t gt n f f.content (gt.files n f is).content) (whole u gu n h h.content (gu.files n h too).content) same)

      pub files_here : table.get files n ≡ table.get others n
      files_here = same_file (table.get files n) (table.get others n) refl refl

      kept_here : (a b : Option File) → table.get files n ≡ a → table.get others n ≡ b → table.get freed n ≡ table.get left n
      kept_here None None is too =
          let same = sym (ap (λ x. inode_of x (kept_at t n) (o.place n (Chain 0))) is) ∙ same_inode ∙ ap (λ x. inode_of x (kept_at u n) (p.place n (Chain 0))) too in
          same_kept (table.get freed n) (table.get left n) (λ k at. (gt.freed n k at).more) (λ k at. (gu.freed n k at).more)
          (λ i. record { generation = (ap (λ (a : Attrs). a.generation) same) i; change = (ap (λ (a : Attrs). a.change) same) i })
      kept_here None (Some f) is too = absurd (none-some f (sym is ∙ files_here ∙ too))
      kept_here (Some f) None is too = absurd (none-some f (sym too ∙ sym files_here ∙ is))
      kept_here (Some f) (Some h) is too = live_none t gt n f (table.get freed n) is refl ∙ sym (live_none u gu n h (table.get left n) too refl)

      pub freed_here : table.get freed n ≡ table.get left n
      freed_here = kept_here (table.get files n) (table.get others n) refl refl

    -- and of all numbers: the others have nothing
    files_at : (q : ℕ) → IsNumber g q → table.get files q ≡ table.get others q
    files_at q number = subst (λ (k : ℕ). table.get files k ≡ table.get others k) (sym number.is) (files_here number.memory number.inode number.there.0 number.there.1)

    freed_at : (q : ℕ) → IsNumber g q → table.get freed q ≡ table.get left q
    freed_at q number = subst (λ (k : ℕ). table.get freed k ≡ table.get left k) (sym number.is) (freed_here number.memory number.inode number.there.0 number.there.1)

    files_all : (q : ℕ) (a b : Option File) → table.get files q ≡ a → table.get others q ≡ b → table.get files q ≡ table.get others q
    files_all q None None is too = is ∙ sym too
    files_all q (Some f) b is too = files_at q (gt.files q f is).number
    files_all q None (Some f) is too = files_at q (gu.files q f too).number

    freed_all : (q : ℕ) (a b : Option Kept) → table.get freed q ≡ a → table.get left q ≡ b → table.get freed q ≡ table.get left q
    freed_all q None None is too = is ∙ sym too
    freed_all q (Some k) b is too = freed_at q (gt.freed q k is).number
    freed_all q None (Some k) is too = freed_at q (gu.freed q k too).number

    pub trees_same : tree g files freed ≡ tree g others left
    trees_same =
        let same = same_look_ups files others (λ q. files_all q (table.get files q) (table.get others q) refl refl) in
        let also = same_look_ups freed left (λ q. freed_all q (table.get freed q) (table.get left q) refl refl) in
        λ i. record { geometry = g; files = same i; freed = also i }

pub one_tree : OneTree
one_tree flat t u geometry st su =
    let other : u ≡ tree t.geometry u.files u.freed = (λ i. record u { geometry = (sym geometry) i }) in
    let moved : Stands flat (tree t.geometry u.files u.freed) = subst (Stands flat) other su in
    trees_same t.geometry t.files u.files t.freed u.freed flat st.owners moved.owners st.good moved.good st.shows moved.shows ∙ sym other
