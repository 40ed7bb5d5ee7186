-- Each record of a good tree within its words has bytes.
use Rattle.std.proofs.Common.{◌≡◌, ◌≢◌, ℕ, ◌<◌, ◌≤◌, List, ◌++◌, Option, Some, None, inl, inr, refl, subst, arith}
use Rattle.std.specs.Prelude.{◌^◌, replicate, is_some, unwrap_or}
use Rattle.std.specs.FinMap as table
use Rattle.std.specs.Option.{option_map_or}
use Rattle.std.proofs.lemmas.Bool.{cases_eq}
use Rattle.std.proofs.lemmas.List.Sums.{count_by-le-length}
use Rattle.std.proofs.lemmas.Nat.{mul-le}
use Rattle.sfs_base.proofs.MapLemmas.{sum_has}
use Rattle.sfs_xdr.specs.Items as items
use Rattle.fs_laws.specs.Words.{FitsWords, IsKeptInWords}
use Rattle.fs_layout.specs.declared.reference.Reference.{Reference}
use Rattle.fs_layout.specs.Inodes.{IsKind, SpellsInode, free_inode, inode_words}
use Rattle.fs_layout.specs.References.{IsReference, reference_words}
use Rattle.fs_layout.specs.Words.{spelled}
use Rattle.fs_layout.proofs.WordLemmas.{words_items}
use Rattle.fs_rules.specs.declared.content.Content.{Content}
use Rattle.fs_rules.specs.declared.content.Content.TheVariants.{Regular, Link, Directory}
use Rattle.fs_rules.specs.declared.file.File.{File}
use Rattle.fs_rules.specs.declared.geometry.Geometry.{Geometry}
use Rattle.fs_rules.specs.declared.kept.Kept.{Kept}
use Rattle.fs_rules.specs.declared.plain_tree.PlainTree.{PlainTree}
use Rattle.fs_rules.specs.File.{kind_of, parent_of, used}
use Rattle.fs_rules.specs.Geometry.{IsWithinLimits}
use Rattle.fs_rules.specs.Good.{IsGood, IsInOrder}
use Rattle.fs_rules.specs.Numbers.{IsNumber, kept_at, used_in_all}
use Rattle.fs_image.specs.Parts.{chains_of, inode_of, live_inode, names_of}
use Rattle.fs_image.specs.Words.{RecordsHaveBytes}

zero_word : 0 < 2 ^ 32
zero_word = omega arith

reference_first : (first : Option Reference) (rest : List ℕ) → IsReference first → items.AreWords rest → items.AreWords (reference_words first ++ rest)
reference_first None rest is words = (zero_word, (zero_word, words))
reference_first (Some to) rest is words = (is.0, (is.1, words))

zeros : items.AreWords (replicate 11 0)
zeros =
    let z = zero_word in
    (z, (z, (z, (z, (z, (z, (z, (z, (z, (z, (z, tt)))))))))))

-- ---- what a good tree makes small

kind_word : (c : Content) → kind_of c < 2 ^ 32
kind_word (Regular blocks) = omega arith
kind_word (Directory slots parent) = omega arith
kind_word (Link blocks) = omega arith

is_kind : (c : Content) → IsKind (kind_of c)
is_kind (Regular blocks) = inr (inl refl)
is_kind (Directory slots parent) = inr (inr (inl refl))
is_kind (Link blocks) = inr (inr (inr refl))

some_kind : (c : Content) → kind_of c ≡ 0 → ⊥
some_kind (Regular blocks) none = omega (arith, none)
some_kind (Directory slots parent) none = omega (arith, none)
some_kind (Link blocks) none = omega (arith, none)

no_directory : (c : Content) → kind_of c ≢ 2 → (unwrap_or (parent_of c) 0 ≡ 0) × (names_of c ≡ 0)
no_directory (Regular blocks) other = (refl, refl)
no_directory (Directory slots parent) other = absurd (other refl)
no_directory (Link blocks) other = (refl, refl)

chains_used : (c : Content) → chains_of c ≤ used c
chains_used (Regular blocks) = omega arith
chains_used (Directory slots parent) = omega arith
chains_used (Link blocks) = omega arith

number_word : (g : Geometry) (n : ℕ) → IsWithinLimits g → IsNumber g n → n < 2 ^ 32
number_word g n limits number =
    let is = number.is in
    let m = number.there.0 in
    let i = number.there.1 in
    omega (arith, is, m, i, limits.memories.1, limits.inodes.1)

module _ (t : PlainTree) (good : IsGood t) (n : ℕ) (f : File) where
  size_word : (c : Content) → IsInOrder t n f c → f.size < 2 ^ 32
  size_word (Regular blocks) order = let few = order.0 in omega (arith, few)
  size_word (Directory slots parent) order =
      let size = order.0 in
      let slots_few = order.1.few in
      omega (arith, size, slots_few)
  size_word (Link blocks) order = let few = order.0 in omega (arith, few)

  names_word : (c : Content) → IsInOrder t n f c → names_of c < 2 ^ 32
  names_word (Regular blocks) order = zero_word
  names_word (Directory slots parent) order =
      let few = order.1.few in
      omega (arith, few, count_by-le-length is_some slots)
  names_word (Link blocks) order = zero_word

  parent_word : (c : Content) → IsInOrder t n f c → unwrap_or (parent_of c) 0 < 2 ^ 32
  parent_word (Regular blocks) order = zero_word
  parent_word (Directory slots parent) order = elim (cases_eq n 1) [
    | inl one ↦ let root = (order.3.root one).0 in omega (arith, root)
    | inr other ↦
        let inside = order.3.inside other in
        number_word t.geometry parent good.geometry (good.files parent inside.0 inside.1).number
  ]
  parent_word (Link blocks) order = zero_word

  used_word : table.get t.files n ≡ Some f → used f.content < 2 ^ 32
  used_word is =
      let here : used f.content ≤ used_in_all t =
      subst (λ (o : Option File). option_map_or (λ (g : File). used g.content) o 0 ≤ used_in_all t) is (sum_has (λ e. used e.1.content) t.files n) in
      let all = mul-le t.geometry.memories t.geometry.blocks 8 16384 good.geometry.memories.1 good.geometry.blocks.1 in
      omega (arith, here, good.fits, all)

  live_bytes : (first : Option Reference) → table.get t.files n ≡ Some f → FitsWords f → IsReference first
      → SpellsInode (live_inode f first) (spelled (inode_words (live_inode f first)))
  unfolding inode_words
  live_bytes first is fits reference =
      let order = (good.files n f is).content in
      let mode = (good.files n f is).mode in
      let links = (good.files n f is).links in
      let blocks = used_word is in
      let chains = chains_used f.content in
      let change = fits.3 in
      record {
        fields = record {
          kind = is_kind f.content;
          mode = omega (arith, mode);
          first = reference;
          free = λ none. absurd (some_kind f.content none);
          no_directory = no_directory f.content;
        };
        words = (words_items (inode_words (live_inode f first))).2 (
          kind_word f.content,
          (
            omega (arith, mode),
            (
              omega (arith, links),
              (
                fits.0,
                (
                  fits.1,
                  (
                    size_word f.content order,
                    (
                      fits.2,
                      (
                        blocks,
                        (
                          omega (arith, change),
                          (
                            omega arith,
                            (
                              fits.4.0,
                              (
                                fits.4.1,
                                (
                                  fits.5.0,
                                  (
                                    fits.5.1,
                                    (
                                      fits.6.0,
                                      (
                                        fits.6.1,
                                        reference_first first _ reference (omega (arith, chains, blocks), (parent_word f.content order, (names_word f.content order, zeros))),
                                      ),
                                    ),
                                  ),
                                ),
                              ),
                            ),
                          ),
                        ),
                      ),
                    ),
                  ),
                ),
              ),
            ),
          ),
        );
        bytes_are = refl;
      }

free_bytes : (k : Kept) → IsKeptInWords k → SpellsInode (free_inode k.generation k.change) (spelled (inode_words (free_inode k.generation k.change)))
unfolding inode_words
free_bytes k fits =
    let z = zero_word in
    let change = fits.1 in
    record {
      fields = record { kind = inl refl; mode = omega arith; first = tt; free = λ none. refl; no_directory = λ other. (refl, refl) };
      words = (words_items (inode_words (free_inode k.generation k.change))).2
          (z, (z, (z, (z, (z, (z, (fits.0, (z, (omega (arith, change), (omega arith, (z, (z, (z, (z, (z, (z, (z, (z, (z, (z, (z, zeros)))))))))))))))))))));
      bytes_are = refl;
    }

pub records_have_bytes : RecordsHaveBytes
records_have_bytes t n first good words reference = go (table.get t.files n) refl
  where
    kept : (o : Option Kept) → table.get t.freed n ≡ o → IsKeptInWords (unwrap_or o (record { generation = 0; change = 0 }))
    kept None is = (omega arith, omega arith)
    kept (Some k) is = words.freed n k is

    go : (o : Option File) → table.get t.files n ≡ o → SpellsInode (inode_of o (kept_at t n) first) (spelled (inode_words (inode_of o (kept_at t n) first)))
    go None is = free_bytes (kept_at t n) (kept (table.get t.freed n) refl)
    go (Some f) is = live_bytes t good n f first is (words.files n f is) reference
