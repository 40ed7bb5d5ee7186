-- What is held and is the flat memory's own tells the files of the tree.
use Rattle.std.proofs.Common.{◌≡◌, ℕ, ◌+◌, ◌-◌, ◌*◌, ◌^◌, ◌≤◌, min, true, false, cond, Bool, IsTrue, List, Option, Some, None, refl, sym, ap, subst, ◌∙◌, arith}
use Rattle.std.specs.Prelude.{nat_eq, bytes_eq, is_some, option_map, option_and_then}
use Rattle.std.specs.Option.{option_map_or}
use Rattle.std.specs.FinMap as table
use Rattle.std.proofs.lemmas.Bool.{eqb-true}
use Rattle.std.proofs.lemmas.Nat.{mul-le}
use Rattle.sfs_base.proofs.MapLemmas.{sum_has}
use Rattle.fs_layout.specs.declared.attrs.Attrs.{Attrs}
use Rattle.fs_layout.specs.declared.reference.Reference.{Reference}
use Rattle.fs_layout.specs.Places.{number_of}
use Rattle.fs_layout.proofs.RecordLemmas.{inode_one}
use Rattle.fs_rules.specs.declared.content.Content.{Content}
use Rattle.fs_rules.specs.declared.content.Content.TheVariants.{Regular, Directory, Link}
use Rattle.fs_rules.specs.declared.file.File.{File}
use Rattle.fs_rules.specs.declared.geometry.Geometry.{Geometry}
use Rattle.fs_rules.specs.declared.kept.Kept.{Kept}
use Rattle.fs_rules.specs.declared.plain_tree.PlainTree.{PlainTree}
use Rattle.fs_rules.specs.File.{fattr_of, kind_of, type_bits, used}
use Rattle.fs_rules.specs.Good.{IsGood}
use Rattle.fs_rules.specs.Handle.{handle, number_in}
use Rattle.fs_rules.specs.Numbers.{kept_at, used_in_all}
use Rattle.fs_rules.specs.Arguments as rules
use Rattle.fs_checks.specs.Facts.{facts_by, facts_of, bare}
use Rattle.mini_tx.specs.FlatMemory.{Flat}
use Rattle.fs_image.specs.Owners.{Owners, Chain}
use Rattle.fs_image.specs.Parts.{inode_of, live_inode}
use Rattle.fs_image.specs.Places.{inode_bytes}
use Rattle.fs_image.specs.Stands.{Shows}
use Rattle.node_cache.specs.declared.entry.Entry.{Entry}
use Rattle.node_cache.specs.declared.held.Held.{Held}
use Rattle.node_cache.specs.declared.want.Want.TheVariants as want
use Rattle.node_cache.specs.Cached.{held_of}
use Rattle.node_cache.specs.Truth.{IsOwn, LiesAt}
use Rattle.plan_rules.specs.Matched.{IsOwnFile}
use Rattle.plan_rules.specs.Steps.{is_held}
use Rattle.plan_rules.specs.Told.{memory_at, inode_at, is_number, at_record, file_at, file_of}
use Rattle.plan_rules.specs.Works.{IsWorkSet}
use Rattle.plan_rules.proofs.MatchedLemmas.{lies_at}
use Rattle.plan_rules.proofs.SearchLemmas.{found_there}
use Rattle.read_laws.specs.Answers.{fattr_by, fattr_with, type_bits_by}

-- ---- records and files

-- the file with no bytes and no names that a record of the tree tells
abbrev pub plain : File → File
plain f = bare (facts_of f)

facts_live : (f : File) (c : Content) → f.content ≡ c → (first : Option Reference) → facts_by (live_inode f first) ≡ Some (facts_of f)
facts_live f (Regular blocks) is first = rw is refl
facts_live f (Directory slots parent) is first = rw is refl
facts_live f (Link blocks) is first = rw is refl

facts_told : (o : Option File) (kept : Kept) (first : Option Reference) → option_map bare (facts_by (inode_of o kept first)) ≡ option_map plain o
facts_told None kept first = refl
facts_told (Some f) kept first = ap (option_map bare) (facts_live f f.content refl first)

bits_are : (c : Content) → type_bits_by (kind_of c) ≡ type_bits c
bits_are (Regular blocks) = refl
bits_are (Directory slots parent) = refl
bits_are (Link blocks) = refl

few_bits : (c : Content) → type_bits c ≤ 0o120000
few_bits (Regular blocks) = omega arith
few_bits (Directory slots parent) = omega arith
few_bits (Link blocks) = omega arith

-- a file uses no more blocks than all files do
used_fits : (t : PlainTree) (n : ℕ) (f : File) → IsGood t → table.get t.files n ≡ Some f → used f.content ≤ 131072
used_fits t n f good is =
    let here : used f.content ≤ used_in_all t =
    subst (λ (o : Option File). option_map_or (λ (g : File). used g.content) o 0 ≤ used_in_all t) is (sum_has (λ e. used e.1.content) t.files n) in
    let memories = good.geometry.memories.1 in
    let blocks = good.geometry.blocks.1 in
    let fits = good.fits in
    let most = mul-le t.geometry.memories t.geometry.blocks 8 16384 memories blocks in
    omega (arith, here, fits, most)

-- what a client is told of a file by its record
pub fattr_live : (t : PlainTree) (n : ℕ) (f : File) → IsGood t → table.get t.files n ≡ Some f → (first : Option Reference) → fattr_by n (live_inode f first) ≡ fattr_of n f
fattr_live t n f good is first =
    let few = used_fits t n f good is in
    let small = (good.files n f is).mode in
    let bits = few_bits f.content in
    let mode : min (type_bits_by (kind_of f.content) + f.mode) (2 ^ 32 - 1) ≡ type_bits f.content + f.mode =
    ap (λ b. min (b + f.mode) (2 ^ 32 - 1)) (bits_are f.content) ∙ (let below : min (type_bits f.content + f.mode) (2 ^ 32 - 1) ≡ type_bits f.content + f.mode = omega (arith, bits, small) in below) in
    let blocks : min (used f.content * 8) (2 ^ 32 - 1) ≡ 8 * used f.content = omega (arith, few) in
    ap (λ m. fattr_with n (live_inode f first) m (min (used f.content * 8) (2 ^ 32 - 1))) mode
    ∙ ap (λ b. fattr_with n (live_inode f first) (type_bits f.content + f.mode) b) blocks

-- ---- a record that is held

some_there : {X : Type 0} (o : Option X) → is_some o ≡ true → (x : X) × (o ≡ Some x)
some_there None is = absurd cc
some_there (Some x) is = (x, refl)

module _ (held : Held) (flat : Flat) (t : PlainTree) (o : Owners) (work : IsWorkSet held) (same : held.geometry ≡ t.geometry) (shows : Shows flat t o) where
  -- the record that the memory has at a number
  abbrev pub shown : ℕ → Attrs
  shown n = inode_of (table.get t.files n) (kept_at t n) (o.place n (Chain 0))

  -- an entry that is the memory's own has it
  own_record : (n : ℕ) (e : Entry) → held_of n held.entries ≡ Some e → IsOwn t.geometry flat (o.place n) e → e.attrs ≡ shown n
  own_record n e here own =
      let there = found_there (λ x. nat_eq n x.number) e held.entries here in
      let number : n ≡ e.number = eqb-true n e.number there.2 in
      let fit = work.entries there.0 e there.1 in
      let lies : LiesAt t.geometry n (memory_at n) (inode_at n) =
      lies_at t.geometry n (subst (λ (g : Geometry). IsTrue (is_number g n)) same (subst (λ k. IsTrue (is_number held.geometry k)) (sym number) fit.number)) in
      let is : e.attrs ≡ shown (number_of (memory_at n) (inode_at n)) =
      inode_one e.attrs (shown (number_of (memory_at n) (inode_at n))) (inode_bytes flat (memory_at n) (inode_at n))
      (own.record_is (memory_at n) (inode_at n) (subst (λ k. LiesAt t.geometry k (memory_at n) (inode_at n)) number lies))
      (shows.files (memory_at n) (inode_at n) lies.is_memory lies.is_inode).record_is in
      is ∙ ap shown (sym lies.number)

  module _ (n : ℕ) (there : is_held held (want.Inode n) ≡ true) (own : IsOwnFile t.geometry flat o held n) where
    abbrev the_entry : (e : Entry) × (held_of n held.entries ≡ Some e)
    the_entry = some_there (held_of n held.entries) there

    -- what is said of the record is said of the memory's
    pub says_shown : {A : Type 0} (other : A) (said : Attrs → A) → at_record held n other said ≡ said (shown n)
    says_shown other said =
        ap (λ (p : Option Entry). option_map_or (λ e. said e.attrs) p other) the_entry.1
        ∙ ap said (own_record n the_entry.0 the_entry.1 (own the_entry.0 the_entry.1))

    pub file_told : file_at held n ≡ option_map plain (table.get t.files n)
    file_told = says_shown None (λ a. option_map bare (facts_by a)) ∙ facts_told (table.get t.files n) (kept_at t n) (o.place n (Chain 0))

  tested_by : (name : List ℕ) (f : File) (b : Bool) → cond b (Some (plain f)) None ≡ option_map plain (cond b (Some f) None)
  tested_by name f true = refl
  tested_by name f false = refl

  handle_by : (name : List ℕ) (p : Option File)
      → option_and_then (λ f. cond (bytes_eq name (handle (number_in name) f.generation)) (Some f) None) (option_map plain p)
      ≡ option_map plain (option_and_then (λ f. cond (bytes_eq name (handle (number_in name) f.generation)) (Some f) None) p)
  handle_by name None = refl
  handle_by name (Some f) = tested_by name f (bytes_eq name (handle (number_in name) f.generation))

  -- the file that a handle names
  pub handle_told : (name : List ℕ) → is_held held (want.Inode (number_in name)) ≡ true → IsOwnFile t.geometry flat o held (number_in name)
      → file_of held name ≡ option_map plain (rules.file_of t name)
  handle_told name there own =
      ap (λ (p : Option File). option_and_then (λ f. cond (bytes_eq name (handle (number_in name) f.generation)) (Some f) None) p) (file_told (number_in name) there own)
      ∙ handle_by name (table.get t.files (number_in name))

-- ---- the tree's file with a number, where a handle names it

tested : (p : Option File) (test : File → Bool) (f : File) → option_and_then (λ g. cond (test g) (Some g) None) p ≡ Some f → p ≡ Some f
tested None test f h = absurd cc
tested (Some g) test f h =
    elim (test g) as (λ b. cond b (Some g) None ≡ Some f → ◌≡◌ {A = Option File} (Some g) (Some f)) [
      | true ↦ λ is. is
      | false ↦ λ is. absurd cc
    ] h

pub named_there : (t : PlainTree) (name : List ℕ) (f : File) → rules.file_of t name ≡ Some f → table.get t.files (number_in name) ≡ Some f
named_there t name f is = tested (table.get t.files (number_in name)) (λ g. bytes_eq name (handle (number_in name) g.generation)) f is
