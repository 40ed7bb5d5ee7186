-- Files that are read one by one, and the owners of the blocks whose marks they take.
use Rattle.std.proofs.Common.{◌≡◌, ◌⊎◌, ℕ, ◌+◌, ◌<◌, Bool, true, false, List, Option, Some, None, inl, inr, refl, sym, ap, subst, ◌∙◌, arith}
use Rattle.std.specs.Prelude.{◌&&◌, nat_lt, is_some, unwrap_or}
use Rattle.std.proofs.lemmas.Bool.{cases_Bool, cases_lt, true≢false, and_parts, ltb-true, lt-ltb}
use Rattle.std.proofs.lemmas.Option.{none-some}
use Rattle.fs_layout.specs.declared.reference.Reference.{Reference}
use Rattle.fs_bitmap.specs.Bits.{is_used}
use Rattle.fs_rules.specs.declared.geometry.Geometry.{Geometry}
use Rattle.fs_rules.specs.Geometry.{IsWithinLimits}
use Rattle.mini_tx.specs.FlatMemory.{Flat}
use Rattle.fs_image.specs.Owners.{Part, Owned, Owners, IsInverse}
use Rattle.fs_image.specs.Places.{block_map}
use Rattle.fs_image.specs.Stands.{IsBlock}
use Rattle.fs_reader.specs.Marks.{bit_of, turn, Takes}
use Rattle.fs_reader.specs.Trees.{FoundIn, TakesFiles, AreAllTaken, FilesTakeTheirs, MarksTellOwners}
use Rattle.fs_reader.proofs.MarkLemmas.{bit_one}

-- ---- one file more

below_next : (q n : ℕ) → q < n + 1 → (q < n) ⊎ (q ≡ n)
below_next q n below = elim (cases_lt q n) [
  | inl less ↦ inl less
  | inr not ↦ inr (omega (arith, below, not))
]

module _ (g : Geometry) (place : ℕ → Part → Option Reference) (n turns : ℕ) (old mid new : List ℕ) (before : TakesFiles g place n old mid) (here : Takes g (place n) turns mid new)
    (all : (x : Part) (p : Reference) → place n x ≡ Some p → turn x < turns)
  where
    at_n : (q : ℕ) (x : Part) (p : Reference) → q ≡ n → place q x ≡ Some p → place n x ≡ Some p
    at_n q x p same is = subst (λ (k : ℕ). place k x ≡ Some p) same is

    inside_of : (q : ℕ) (x : Part) (p : Reference) → q < n + 1 → place q x ≡ Some p → IsBlock g p
    inside_of q x p below is = elim (below_next q n below) [
      | inl less ↦ before.inside q x p less is
      | inr same ↦ let at = at_n q x p same is in here.inside x p (all x p at) at
    ]

    marked_of : (q : ℕ) (x : Part) (p : Reference) → q < n + 1 → place q x ≡ Some p → is_used old (bit_of p) ≡ true
    marked_of q x p below is = elim (below_next q n below) [
      | inl less ↦ before.marked q x p less is
      | inr same ↦ let at = at_n q x p same is in before.kept (bit_of p) (here.marked x p (all x p at) at)
    ]

    still : (bit : ℕ) → is_used mid bit ≡ false → is_used new bit ≡ false
    still bit gone = elim (cases_Bool (is_used new bit)) [
      | inl is ↦ absurd (true≢false (sym (here.kept bit is) ∙ gone))
      | inr not ↦ not
    ]

    taken_of : (q : ℕ) (x : Part) (p : Reference) → q < n + 1 → place q x ≡ Some p → is_used new (bit_of p) ≡ false
    taken_of q x p below is = elim (below_next q n below) [
      | inl less ↦ still (bit_of p) (before.taken q x p less is)
      | inr same ↦ let at = at_n q x p same is in here.taken x p (all x p at) at
    ]

    found_of : (bit : ℕ) → is_used old bit ≡ true → is_used new bit ≡ false → FoundIn place (n + 1) bit
    found_of bit was gone = elim (cases_Bool (is_used mid bit)) [
      | inl is ↦
          let f = here.found bit is gone in
          record { file = n; part = f.part; at = f.at; before = omega arith; is = f.is; bit_is = f.bit_is }
      | inr not ↦
          let f = before.found bit was not in
          record { file = f.file; part = f.part; at = f.at; before = omega (arith, f.before); is = f.is; bit_is = f.bit_is }
    ]

    apart : (q : ℕ) (x y : Part) (p : Reference) → q < n → place q x ≡ Some p → place n y ≡ Some p → ⊥
    apart q x y p less is at = true≢false (sym (here.marked y p (all y p at) at) ∙ before.taken q x p less is)

    once_of : (q r : ℕ) (x y : Part) (p : Reference) → q < n + 1 → r < n + 1 → place q x ≡ Some p → place r y ≡ Some p → (q ≡ r) × (x ≡ y)
    once_of q r x y p below too is also = elim (below_next q n below) [
      | inl less ↦ elim (below_next r n too) [
        | inl fewer ↦ before.once q r x y p less fewer is also
        | inr same ↦ absurd (apart q x y p less is (at_n r y p same also))
      ]
      | inr same ↦ elim (below_next r n too) [
        | inl fewer ↦ absurd (apart r y x p fewer also (at_n q x p same is))
        | inr equal ↦
            let a = at_n q x p same is in
            let b = at_n r y p equal also in
            (same ∙ sym equal, here.once x y p (all x p a) (all y p b) a b)
      ]
    ]

    pub files_more : TakesFiles g place (n + 1) old new
    files_more =
        record {
          inside = inside_of;
          marked = marked_of;
          taken = taken_of;
          found = found_of;
          kept = λ bit is. before.kept bit (here.kept bit is);
          once = once_of;
        }

-- ---- the owners

module _ (g : Geometry) (limits : IsWithinLimits g) (flat : Flat) (place : ℕ → Part → Option Reference) (numbers : ℕ) (old new : List ℕ) (all : AreAllTaken g flat place numbers old new) where
  within : (p : Reference) → nat_lt p.memory g.memories && nat_lt p.block g.blocks ≡ true → IsBlock g p
  within p test =
      let parts = and_parts (nat_lt p.memory g.memories) (nat_lt p.block g.blocks) test in
      record { memory = ltb-true p.memory g.memories parts.0; block = ltb-true p.block g.blocks parts.1 }

  test_of : (p : Reference) → IsBlock g p → nat_lt p.memory g.memories && nat_lt p.block g.blocks ≡ true
  test_of p inside = ap (λ b. b && nat_lt p.block g.blocks) (lt-ltb p.memory g.memories inside.memory) ∙ lt-ltb p.block g.blocks inside.block

  found_in : (p : Reference) → IsBlock g p → is_used old (bit_of p) ≡ true → FoundIn place numbers (bit_of p)
  found_in p inside marked = all.takes.found (bit_of p) marked (all.none (bit_of p) (omega (arith, inside.memory, inside.block, limits.blocks.1)))

  -- who owns a block: none, where it is no block of this cluster or was not marked
  abbrev owner_by : (p : Reference) (a b : Bool) → nat_lt p.memory g.memories && nat_lt p.block g.blocks ≡ a → is_used old (bit_of p) ≡ b → Option Owned
  owner_by p true true is marked = let f = found_in p (within p is) marked in Some (record { file = f.file; part = f.part })
  owner_by p true false is marked = None
  owner_by p false b is marked = None

  found_at : (p : Reference) (inside : IsBlock g p) (marked : is_used old (bit_of p) ≡ true) → (found_in p inside marked).at ≡ p
  found_at p inside marked =
      let f = found_in p inside marked in
      bit_one g limits f.at p (all.takes.inside f.file f.part f.at f.before f.is) inside f.bit_is

  owned_by : (n : ℕ) (x : Part) (p : Reference) (a b : Bool) (is : nat_lt p.memory g.memories && nat_lt p.block g.blocks ≡ a) (marked : is_used old (bit_of p) ≡ b) → place n x ≡ Some p
      → owner_by p a b is marked ≡ Some (record { file = n; part = x })
  owned_by n x p true true is marked at =
      let f = found_in p (within p is) marked in
      let same = all.takes.once f.file n f.part x p f.before (all.all n x p at) (f.is ∙ ap Some (found_at p (within p is) marked)) at in
      λ i. Some (record { file = same.0 i; part = same.1 i })
  owned_by n x p true false is marked at = absurd (true≢false (sym (all.takes.marked n x p (all.all n x p at) at) ∙ marked))
  owned_by n x p false b is marked at = absurd (true≢false (sym (test_of p (all.takes.inside n x p (all.all n x p at) at)) ∙ is))

  placed_by : (n : ℕ) (x : Part) (p : Reference) (a b : Bool) (is : nat_lt p.memory g.memories && nat_lt p.block g.blocks ≡ a) (marked : is_used old (bit_of p) ≡ b)
      → owner_by p a b is marked ≡ Some (record { file = n; part = x }) → place n x ≡ Some p
  placed_by n x p true true is marked owned =
      let f = found_in p (within p is) marked in
      let same : record { file = f.file; part = f.part } ≡ record { file = n; part = x } = ap (λ o. unwrap_or o (record { file = f.file; part = f.part })) owned in
      (λ i. place ((sym (ap (λ (w : Owned). w.file) same)) i) ((sym (ap (λ (w : Owned). w.part) same)) i)) ∙ f.is ∙ ap Some (found_at p (within p is) marked)
  placed_by n x p true false is marked owned = absurd (none-some _ owned)
  placed_by n x p false b is marked owned = absurd (none-some _ owned)

  bit_by : (p : Reference) (a b : Bool) (is : nat_lt p.memory g.memories && nat_lt p.block g.blocks ≡ a) (marked : is_used old (bit_of p) ≡ b) → IsBlock g p
      → is_used old (bit_of p) ≡ is_some (owner_by p a b is marked)
  bit_by p true true is marked inside = marked
  bit_by p true false is marked inside = marked
  bit_by p false b is marked inside = absurd (true≢false (sym (test_of p inside) ∙ is))

  -- the owners whose parts lie at these places
  abbrev owners : Owners
  owners = record { owner = λ p. owner_by p (nat_lt p.memory g.memories && nat_lt p.block g.blocks) (is_used old (bit_of p)) refl refl; place = place }

  owners_inverse : IsInverse owners
  owners_inverse =
      record {
        owned = λ n x p at. owned_by n x p (nat_lt p.memory g.memories && nat_lt p.block g.blocks) (is_used old (bit_of p)) refl refl at;
        placed = λ n x p owned. placed_by n x p (nat_lt p.memory g.memories && nat_lt p.block g.blocks) (is_used old (bit_of p)) refl refl owned;
      }

  owners_bits : (p : Reference) → IsBlock g p → is_used (block_map flat p.memory) p.block ≡ is_some (owners.owner p)
  owners_bits p inside = sym (all.maps p inside) ∙ bit_by p (nat_lt p.memory g.memories && nat_lt p.block g.blocks) (is_used old (bit_of p)) refl refl inside

-- ---- the laws

pub files_take : FilesTakeTheirs
files_take g place n turns old mid new before here all = files_more g place n turns old mid new before here all

pub marks_tell : MarksTellOwners
marks_tell g flat place numbers old new limits all =
    record {
      owners = owners g limits flat place numbers old new all;
      places = refl;
      inverse = owners_inverse g limits flat place numbers old new all;
      bits = owners_bits g limits flat place numbers old new all;
    }
