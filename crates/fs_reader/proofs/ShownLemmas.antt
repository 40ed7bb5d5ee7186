-- A file that images show is the one that is read from its record and its blocks.
use Rattle.std.proofs.Common.{◌≡◌, ◌≢◌, ℕ, ◌-◌, ◌*◌, ◌<◌, ◌≤◌, length, Option, Some, None, inl, inr, refl, sym, ap, subst, ◌∙◌, arith}
use Rattle.std.specs.Prelude.{◌/◌, nat_lt, IsSome, if◌then◌else◌}
use Rattle.std.specs.FinMap as table
use Rattle.std.proofs.lemmas.Bool.{cases_Bool, true≢false}
use Rattle.std.proofs.lemmas.Option.{none-some}
use Rattle.sfs_base.proofs.MapLemmas.{greatest_has}
use Rattle.fs_layout.specs.declared.attrs.Attrs.{Attrs}
use Rattle.fs_layout.specs.declared.reference.Reference.{Reference}
use Rattle.fs_layout.specs.Places.{number_of}
use Rattle.fs_layout.proofs.RecordLemmas.{inode_one}
use Rattle.fs_rules.specs.declared.content.Content.{Content}
use Rattle.fs_rules.specs.declared.content.Content.TheVariants.{Regular, Link, Directory}
use Rattle.fs_rules.specs.declared.file.File.{File}
use Rattle.fs_rules.specs.declared.plain_tree.PlainTree.{PlainTree}
use Rattle.fs_rules.specs.File.{BlockMap, greatest, last_of, chains_up_to, slots_of}
use Rattle.fs_rules.specs.Good.{IsGood, IsInOrder, AreSlots, IsStored}
use Rattle.fs_image.specs.Owners.{Part, Chain}
use Rattle.fs_image.specs.Parts.{chains_of, live_inode}
use Rattle.fs_image.specs.Places.{inode_bytes, block_bytes}
use Rattle.fs_image.specs.Records.{NameFiles}
use Rattle.fs_reader.specs.Contents.{IsContentAt}
use Rattle.fs_reader.specs.Shown.{ShownFilesAreRead}
use Rattle.fs_reader.specs.Walk.{places}
use Rattle.fs_reader.proofs.WalkLemmas.{places_are}

-- ---- a content of a good tree

few_up_to : (g : Option ℕ) (size : ℕ) → ((k : ℕ) → g ≡ Some k → 4096 * k < size) → size ≤ 16711680 → chains_up_to g ≤ 8
few_up_to None size below small = omega arith
few_up_to (Some k) size below small = let within = below k refl in omega (arith, within, small)

few_blocks : (blocks : BlockMap) (size : ℕ) → IsStored size blocks → size ≤ 16711680 → chains_up_to (greatest blocks) ≤ 8
few_blocks blocks size stored small = few_up_to (greatest blocks) size (λ k is. stored.below k ((greatest_has blocks k is).0)) small

few_last : (n : ℕ) → n ≤ 510 → chains_up_to (last_of n) ≤ 8
few_last n small = elim (cases_Bool (nat_lt 0 n)) [
  | inl some ↦ subst (λ b. chains_up_to (if b then Some (n - 1) else None) ≤ 8) (sym some) (omega (arith, small))
  | inr none ↦ subst (λ b. chains_up_to (if b then Some (n - 1) else None) ≤ 8) (sym none) (omega arith)
]

few_chains : (t : PlainTree) (n : ℕ) (f : File) (c : Content) → IsInOrder t n f c → chains_of c ≤ 8
few_chains t n f (Regular blocks) order = few_blocks blocks f.size order.1 order.0
few_chains t n f (Link blocks) order = let small : f.size ≤ 1024 = order.0 in few_blocks blocks f.size order.1 (omega (arith, small))
few_chains t n f (Directory slots parent) order = let are : AreSlots t slots = order.1 in few_last (length slots / 15) (omega (arith, are.few))

fifteens : (t : PlainTree) (n : ℕ) (f : File) (c : Content) → IsInOrder t n f c → length (slots_of c) ≡ 15 * (length (slots_of c) / 15)
fifteens t n f (Regular blocks) order = refl
fifteens t n f (Link blocks) order = refl
fifteens t n f (Directory slots parent) order = let are : AreSlots t slots = order.1 in omega (arith, are.whole)

no_zero : (t : PlainTree) → IsGood t → (n : ℕ) (o : Option File) → table.get t.files n ≡ o → IsSome o → n ≢ 0
no_zero t good n None is live = absurd (true≢false (sym live))
no_zero t good n (Some f) is live = λ none. let number = (good.files n f is).number in omega (arith, none, number.is)

name_files : (t : PlainTree) → IsGood t → (n : ℕ) (f : File) (c : Content) → IsInOrder t n f c → NameFiles (slots_of c)
name_files t good n f (Regular blocks) order i e is = absurd (none-some (Some e) is)
name_files t good n f (Link blocks) order i e is = absurd (none-some (Some e) is)
name_files t good n f (Directory slots parent) order i e is =
    let are : AreSlots t slots = order.1 in
    no_zero t good e.file (table.get t.files e.file) refl (are.names i e is).1

-- ---- the file

pub shown_read : ShownFilesAreRead
shown_read flat t place m inode f a good live shows spells =
    record { file = record { attrs = told; content = content }; places_are = same }
  where
    record_is : live_inode f (place (Chain 0)) ≡ a
    record_is = inode_one _ _ (inode_bytes flat m inode) shows.record_is spells

    first : place (Chain 0) ≡ a.first
    first = ap (λ (b : Attrs). b.first) record_is

    told : live_inode f a.first ≡ a
    told = ap (live_inode f) (sym first) ∙ record_is

    same : (x : Part) → place x ≡ places (block_bytes t.geometry flat) a.first x
    same = places_are (block_bytes t.geometry flat) a.first (number_of m inode) place f.content shows.there (λ x r at. shows.holds f x r refl at) first

    all : place ≡ places (block_bytes t.geometry flat) a.first
    all = λ i x. same x i

    order : IsInOrder t (number_of m inode) f f.content
    order = (good.files (number_of m inode) f live).content

    content : IsContentAt (block_bytes t.geometry flat) (number_of m inode) (places (block_bytes t.geometry flat) a.first) f.content
    content =
        subst (λ (w : Part → Option Reference). IsContentAt (block_bytes t.geometry flat) (number_of m inode) w f.content) all
        (record {
          there = shows.there;
          holds = λ x r at. shows.holds f x r refl at;
          sized = fifteens t (number_of m inode) f f.content order;
          names = name_files t good (number_of m inode) f f.content order;
          few = few_chains t (number_of m inode) f f.content order;
        })
