-- The first free number is the lowest free bit.
use Rattle.std.proofs.Common.{◌≡◌, ℕ, zero, suc, ◌+◌, ◌<◌, true, false, Bool, cond, List, [], ◌∷◌, Option, Some, None, inl, inr, refl, sym, ap, ◌∙◌, mod-lt, arith}
use Rattle.std.specs.Prelude.{◌%◌, not, find, map, option_map}
use Rattle.std.specs.List.{flat_map}
use Rattle.std.specs.Option.{option_or}
use Rattle.std.proofs.lemmas.Bool.{cases_eq}
use Rattle.std.proofs.lemmas.List.{map-append}
use Rattle.std.proofs.lemmas.List.Folds.{find-append}
use Rattle.fs_layout.specs.Places.{number_of}
use Rattle.fs_bitmap.specs.Bits.{is_used, IsLowestFree, IsNoneFree}
use Rattle.fs_rules.specs.declared.plain_tree.PlainTree.{PlainTree}
use Rattle.fs_rules.specs.Lists.{below}
use Rattle.fs_rules.specs.Numbers.{numbers_of, is_free}
use Rattle.mini_tx.specs.FlatMemory.{Flat}
use Rattle.fs_image.specs.Owners.{Owners}
use Rattle.fs_image.specs.Places.{inode_map}
use Rattle.fs_image.specs.Stands.{Shows}
use Rattle.fs_image.specs.FirstFree.{lowest_bit, number_or, first_bit, FirstFreeIsLowest, LowestIsFound}

-- ---- searches

or_mapped : (f : ℕ → ℕ) (o : Option ℕ) (b : Bool) (n : ℕ) → option_or (option_map f o) (cond b (Some (f n)) None) ≡ option_map f (option_or o (cond b (Some n) None))
or_mapped f None true n = refl
or_mapped f None false n = refl
or_mapped f (Some x) b n = refl

find_mapped : (p q : ℕ → Bool) (f : ℕ → ℕ) (n : ℕ) → ((i : ℕ) → i < n → p (f i) ≡ q i) → find p (map f (below n)) ≡ option_map f (find q (below n))
unfolding below
find_mapped p q f zero same = refl
find_mapped p q f (suc n) same =
    ap (find p) (map-append f (below n) (n ∷ [])) ∙ find-append p (map f (below n)) (f n ∷ [])
    ∙ ap (λ o. option_or o (cond (p (f n)) (Some (f n)) None)) (find_mapped p q f n (λ i within. same i (omega (arith, within))))
    ∙ ap (λ b. option_or (option_map f (find q (below n))) (cond b (Some (f n)) None)) (same n (omega arith))
    ∙ or_mapped f (find q (below n)) (q n) n ∙ ap (option_map f) (sym (find-append q (below n) (n ∷ [])))

none_found : (map : List ℕ) (n : ℕ) → IsNoneFree map n → lowest_bit map n ≡ None
unfolding below
none_found map zero full = refl
none_found map (suc n) full =
    find-append (λ bit. not (is_used map bit)) (below n) (n ∷ [])
    ∙ ap (λ o. option_or o (cond (not (is_used map n)) (Some n) None)) (none_found map n (λ k within. full k (omega (arith, within))))
    ∙ ap (λ b. cond (not b) (Some n) None) (full n (omega arith))

lowest_found : (map : List ℕ) (n bit : ℕ) → IsLowestFree map n bit → lowest_bit map n ≡ Some bit
unfolding below
lowest_found map zero bit lowest = absurd (omega (arith, lowest.within))
lowest_found map (suc n) bit lowest = elim (cases_eq bit n) [
  | inl last ↦
      find-append (λ b. not (is_used map b)) (below n) (n ∷ [])
      ∙ ap (λ o. option_or o (cond (not (is_used map n)) (Some n) None)) (none_found map n (λ k within. lowest.before k (omega (arith, within, last))))
      ∙ ap (λ b. cond (not b) (Some n) None) (ap (is_used map) (sym last) ∙ lowest.free) ∙ ap Some (sym last)
  | inr earlier ↦
      find-append (λ b. not (is_used map b)) (below n) (n ∷ [])
      ∙ ap (λ o. option_or o (cond (not (is_used map n)) (Some n) None))
      (lowest_found map n bit (record { within = omega (arith, lowest.within, earlier); free = lowest.free; before = lowest.before }))
]

pub lowest_is_found : LowestIsFound
lowest_is_found map bits = (λ bit. lowest_found map bits bit, none_found map bits)

-- ---- all memory nodes

or_number : (m : ℕ) (o others : Option ℕ) → option_or (option_map (number_of m) o) others ≡ number_or m o others
or_number m None others = refl
or_number m (Some inode) others = refl

not_twice : (b : Bool) → not (not b) ≡ b
not_twice true = refl
not_twice false = refl

module _ (flat : Flat) (t : PlainTree) (o : Owners) (shows : Shows flat t o) where
  abbrev inodes : ℕ
  inodes = t.geometry.inodes

  of_node : (m : ℕ) → m < t.geometry.memories → find (is_free t) (numbers_of t.geometry m) ≡ option_map (number_of m) (lowest_bit (inode_map flat m) inodes)
  of_node m there =
      find_mapped (is_free t) (λ bit. not (is_used (inode_map flat m) bit)) (number_of m) inodes
      (λ i within. sym (ap not (shows.files m i there within).bit ∙ not_twice (is_free t (number_of m i))))

  along : (node : ℕ → ℕ) → ((k : ℕ) → node k < t.geometry.memories) → (ks : List ℕ)
      → find (is_free t) (flat_map (λ k. numbers_of t.geometry (node k)) ks) ≡ first_bit flat inodes (map node ks)
  along node there [] = refl
  along node there (k ∷ ks) =
      find-append (is_free t) (numbers_of t.geometry (node k)) (flat_map (λ k. numbers_of t.geometry (node k)) ks)
      ∙ ap (λ o. option_or o (find (is_free t) (flat_map (λ k. numbers_of t.geometry (node k)) ks))) (of_node (node k) (there k))
      ∙ ap (option_or (option_map (number_of (node k)) (lowest_bit (inode_map flat (node k)) inodes))) (along node there ks)
      ∙ or_number (node k) (lowest_bit (inode_map flat (node k)) inodes) (first_bit flat inodes (map node ks))

pub first_free_is_lowest : FirstFreeIsLowest
first_free_is_lowest flat t o start shows some =
    along flat t o shows (λ k. (start + k) % t.geometry.memories) (λ k. mod-lt (start + k) some) (below t.geometry.memories)
