-- A good tree, told by facts that an edit changes one by one.
use Rattle.std.proofs.Common.{◌≡◌, ◌≢◌, ℕ, zero, suc, ◌+◌, ◌*◌, ◌/◌, ◌%◌, ◌≤◌, true, cond, List, length, Option, Some, None, inl, inr, refl, sym, ap, subst, ◌∙◌, arith}
use Rattle.std.specs.Prelude.{◌==◌, IsSome, is_some, slice_get, count_by, option_and_then, if◌then◌else◌}
use Rattle.std.specs.Option.{option_map_or}
use Rattle.std.specs.FinMap as table
use Rattle.std.proofs.lemmas.Bool.{cases_eq, eq-eqb, ne_eqb, eqb-true}
use Rattle.sfs_base.proofs.MapLemmas.{sum_has}
use Rattle.fs_rules.specs.declared.content.Content.{Content}
use Rattle.fs_rules.specs.declared.content.Content.TheVariants.{Regular, Link, Directory}
use Rattle.fs_rules.specs.declared.entry.Entry.{Entry}
use Rattle.fs_rules.specs.declared.file.File.{File}
use Rattle.fs_rules.specs.declared.kept.Kept.{Kept}
use Rattle.fs_rules.specs.declared.plain_tree.PlainTree.{PlainTree}
use Rattle.fs_rules.specs.Geometry.{IsWithinLimits}
use Rattle.fs_rules.specs.File.{slots_of, parent_of}
use Rattle.fs_rules.specs.Numbers.{IsNumber, used_in_all}
use Rattle.fs_rules.specs.Good.{IsName, names_file, naming_slots, parent_at, subdirectories, ancestor, IsStored, AreSlots, IsPlaced, IsInOrder, IsGoodKept, IsGood}
use Rattle.fs_laws.proofs.SumLemmas.{count_found, count_has, sum_found}

-- how many slots of the directory d name the file n
abbrev pub named_in : PlainTree → ℕ → ℕ → ℕ
named_in t d n = option_map_or (λ f. count_by (names_file n) (slots_of f.content)) (table.get t.files d) 0

-- how many slots of the whole tree have to name a file: as many as its links say, or a directory's one, but none the root
abbrev pub due_of : ℕ → File → Content → ℕ
due_of n f (Regular blocks) = f.links
due_of n f (Directory slots parent) = if n == 1 then 0 else 1
due_of n f (Link blocks) = f.links

abbrev pub due : PlainTree → ℕ → ℕ
due t n = option_map_or (λ f. due_of n f f.content) (table.get t.files n) 0

-- slots in themselves
pub record IsSlotList (slots : List (Option Entry)) : Type 0 where
  pub whole : length slots % 15 ≡ 0
  pub few : length slots ≤ 7650
  pub names : (i : ℕ) (e : Entry) → slice_get slots i ≡ Some (Some e) → IsName e.name
  pub distinct : (i j : ℕ) (e d : Entry) → slice_get slots i ≡ Some (Some e) → slice_get slots j ≡ Some (Some d) → e.name ≡ d.name → i ≡ j

-- a file in itself
abbrev pub IsOwnContent : File → Content → Type 0
IsOwnContent f (Regular blocks) = (f.size ≤ 16711680) × IsStored f.size blocks × (1 ≤ f.links)
IsOwnContent f (Directory slots parent) = (f.size ≡ 4096 * (length slots / 15)) × IsSlotList slots
IsOwnContent f (Link blocks) = (f.size ≤ 1024) × IsStored f.size blocks × (1 ≤ f.links)

pub record IsOwn (f : File) : Type 0 where
  pub mode : f.mode ≤ 0o7777
  pub links : f.links ≤ 32000
  pub content : IsOwnContent f f.content

-- a directory has two links, and one for each directory in it
abbrev pub HasLinks : PlainTree → File → Content → Type 0
HasLinks t f (Regular blocks) = Unit {0}
HasLinks t f (Directory slots parent) = f.links ≡ 2 + subdirectories t slots
HasLinks t f (Link blocks) = Unit {0}

-- parents lead from a file to the root
abbrev pub Leads : PlainTree → ℕ → Type 0
Leads t n = (moves : ℕ) × (ancestor t moves n ≡ Some 1)

pub record IsWhole (t : PlainTree) : Type 0 where
  pub geometry : IsWithinLimits t.geometry
  pub root : parent_at t 1 ≡ Some 1
  pub numbers : (n : ℕ) (f : File) → table.get t.files n ≡ Some f → IsNumber t.geometry n
  pub own : (n : ℕ) (f : File) → table.get t.files n ≡ Some f → IsOwn f
  pub named : (n : ℕ) → naming_slots t n ≡ due t n
  pub links : (n : ℕ) (f : File) → table.get t.files n ≡ Some f → HasLinks t f f.content
  pub inside : (n p : ℕ) → n ≢ 1 → parent_at t n ≡ Some p → named_in t p n ≡ 1
  pub leads : (n p : ℕ) → parent_at t n ≡ Some p → Leads t n
  pub freed : (n : ℕ) (k : Kept) → table.get t.freed n ≡ Some k → IsGoodKept t n k
  pub fits : used_in_all t ≤ t.geometry.memories * t.geometry.blocks

-- ---- what there is

pub some_of : {X : Type 0} (o : Option X) → IsSome o → (x : X) × (o ≡ Some x)
some_of None h = absurd cc
some_of (Some x) h = (x, refl)

-- a slot that names a file
pub record Naming (n : ℕ) (slot : Option Entry) : Type 0 where
  pub entry : Entry
  pub is : slot ≡ Some entry
  pub file : entry.file ≡ n

pub naming_of : (n : ℕ) (slot : Option Entry) → names_file n slot ≡ true → Naming n slot
naming_of n None h = absurd cc
naming_of n (Some e) h = record { entry = e; is = refl; file = eqb-true e.file n h }

-- a directory with its parent
pub record IsDirectory (t : PlainTree) (n p : ℕ) : Type 0 where
  pub file : File
  pub slots : List (Option Entry)
  pub there : table.get t.files n ≡ Some file
  pub content : file.content ≡ Directory slots p

pub directory_at : (t : PlainTree) (n p : ℕ) → parent_at t n ≡ Some p → IsDirectory t n p
directory_at t n p h = go (table.get t.files n) refl h where
  by : (f : File) → table.get t.files n ≡ Some f → (c : Content) → f.content ≡ c → parent_of c ≡ Some p → IsDirectory t n p
  by f is (Regular blocks) c_is e = absurd cc
  by f is (Directory slots q) c_is e = record { file = f; slots = slots; there = is; content = c_is ∙ ap (Directory slots) (let same : q ≡ p = cc in same) }
  by f is (Link blocks) c_is e = absurd cc

  go : (o : Option File) → table.get t.files n ≡ o → option_and_then (λ f. parent_of f.content) o ≡ Some p → IsDirectory t n p
  go None is e = absurd cc
  go (Some f) is e = by f is f.content refl e

pub parent_is : (t : PlainTree) (n p : ℕ) (f : File) (slots : List (Option Entry)) → table.get t.files n ≡ Some f → f.content ≡ Directory slots p → parent_at t n ≡ Some p
parent_is t n p f slots is c_is = ap (option_and_then (λ (g : File). parent_of g.content)) is ∙ ap parent_of c_is

-- what is due at a live file, and at none
pub due_at : (t : PlainTree) (n : ℕ) (f : File) (c : Content) → table.get t.files n ≡ Some f → f.content ≡ c → due t n ≡ due_of n f c
due_at t n f c is c_is = ap (λ (o : Option File). option_map_or (λ g. due_of n g g.content) o 0) is ∙ ap (due_of n f) c_is

pub due_none : (t : PlainTree) (n : ℕ) → table.get t.files n ≡ None → due t n ≡ 0
due_none t n is = ap (λ (o : Option File). option_map_or (λ g. due_of n g g.content) o 0) is

pub named_in_at : (t : PlainTree) (d n : ℕ) (f : File) → table.get t.files d ≡ Some f → named_in t d n ≡ count_by (names_file n) (slots_of f.content)
named_in_at t d n f is = ap (λ (o : Option File). option_map_or (λ g. count_by (names_file n) (slots_of g.content)) o 0) is

-- a directory names no more than the whole tree
pub named_in_le : (t : PlainTree) (d n : ℕ) → named_in t d n ≤ naming_slots t n
named_in_le t d n = sum_has (λ e. count_by (names_file n) (slots_of e.1.content)) t.files d

-- ---- a good tree is whole

module _ (t : PlainTree) (good : IsGood t) where
  named_order : (n : ℕ) (f : File) (c : Content) → IsInOrder t n f c → naming_slots t n ≡ due_of n f c
  named_order n f (Regular blocks) h = sym h.2
  named_order n f (Link blocks) h = sym h.2
  named_order n f (Directory slots parent) h = elim (cases_eq n 1) [
    | inl one ↦ (h.3.root one).1 ∙ sym (ap (λ b. cond b 0 1) (eq-eqb n 1 one))
    | inr other ↦ h.3.named other ∙ sym (ap (λ b. cond b 0 1) (ne_eqb n 1 other))
  ]

  -- a slot names a live file
  slot_live : (d n : ℕ) (f : File) (c : Content) → IsInOrder t d f c → 1 ≤ count_by (names_file n) (slots_of c) → IsSome (table.get t.files n)
  slot_live d n f (Regular blocks) h pos = absurd (omega arith)
  slot_live d n f (Link blocks) h pos = absurd (omega arith)
  slot_live d n f (Directory slots parent) h pos =
      let found = count_found (names_file n) slots pos in
      let naming = naming_of n found.value found.passes in
      subst (λ (m : ℕ). IsSome (table.get t.files m)) naming.file (h.1.names found.place naming.entry (found.there ∙ ap Some naming.is)).1

  named_live : (n : ℕ) → 1 ≤ naming_slots t n → IsSome (table.get t.files n)
  named_live n pos =
      let found = sum_found (λ e. count_by (names_file n) (slots_of e.1.content)) t.files pos in
      slot_live found.number n found.value found.value.content (good.files found.number found.value found.there).content found.counts

  named_due : (n : ℕ) → naming_slots t n ≡ due t n
  named_due n = go (table.get t.files n) refl where
    none : (k : ℕ) → naming_slots t n ≡ k → table.get t.files n ≡ None → k ≡ 0
    none zero is dead = refl
    none (suc k) is dead = absurd (let e : IsSome {T = File} None = subst IsSome dead (named_live n (omega arith)) in cc)

    go : (o : Option File) → table.get t.files n ≡ o → naming_slots t n ≡ due t n
    go None is = none (naming_slots t n) refl is ∙ sym (due_none t n is)
    go (Some f) is = named_order n f f.content (good.files n f is).content ∙ sym (due_at t n f f.content is refl)

  own_order : (n : ℕ) (f : File) (c : Content) → IsInOrder t n f c → IsOwnContent f c
  own_order n f (Regular blocks) h = (h.0, h.1, h.3)
  own_order n f (Link blocks) h = (h.0, h.1, h.3)
  own_order n f (Directory slots parent) h =
      (h.0, record { whole = h.1.whole; few = h.1.few; names = λ i e is. (h.1.names i e is).0; distinct = h.1.distinct })

  links_order : (n : ℕ) (f : File) (c : Content) → IsInOrder t n f c → HasLinks t f c
  links_order n f (Regular blocks) h = tt
  links_order n f (Link blocks) h = tt
  links_order n f (Directory slots parent) h = h.2

  placed_at : (n p : ℕ) → parent_at t n ≡ Some p → IsPlaced t n p
  placed_at n p is =
      let d = directory_at t n p is in
      (subst (IsInOrder t n d.file) d.content (good.files n d.file d.there).content).3

  pub whole_from_good : IsWhole t
  whole_from_good = record {
    geometry = good.geometry;
    root = let p = some_of (parent_at t 1) good.root in p.1 ∙ ap Some ((placed_at 1 p.0 p.1).root refl).0;
    numbers = λ n f is. (good.files n f is).number;
    own = λ n f is. let g = good.files n f is in record { mode = g.mode; links = g.links; content = own_order n f f.content g.content };
    named = named_due;
    links = λ n f is. links_order n f f.content (good.files n f is).content;
    inside = λ n p other is. let h = (placed_at n p is).inside other in named_in_at t p n h.0 h.1 ∙ h.2;
    leads = λ n p is. (placed_at n p is).leads;
    freed = good.freed;
    fits = good.fits;
  }

-- ---- a whole tree is good

module _ (t : PlainTree) (whole : IsWhole t) where
  pub live_from_named : (n : ℕ) → 1 ≤ naming_slots t n → IsSome (table.get t.files n)
  live_from_named n pos = go (table.get t.files n) refl where
    go : (o : Option File) → table.get t.files n ≡ o → IsSome o
    go None is = absurd (omega (arith, whole.named n, due_none t n is))
    go (Some f) is = refl

  are_slots : (n : ℕ) (f : File) (slots : List (Option Entry)) → table.get t.files n ≡ Some f → slots_of f.content ≡ slots → IsSlotList slots → AreSlots t slots
  are_slots n f slots is slots_is list = record {
    whole = list.whole;
    few = list.few;
    names = λ i e there. (
      list.names i e there,
      live_from_named e.file (
          let pos : 1 ≤ count_by (names_file e.file) slots = count_has (names_file e.file) slots i (Some e) there (eq-eqb e.file e.file refl) in
          let here : named_in t n e.file ≡ count_by (names_file e.file) slots = named_in_at t n e.file f is ∙ ap (count_by (names_file e.file)) slots_is in
          omega (arith, named_in_le t n e.file)),
    );
    distinct = list.distinct;
  }

  is_placed : (n p : ℕ) (f : File) (slots : List (Option Entry)) → table.get t.files n ≡ Some f → f.content ≡ Directory slots p → IsPlaced t n p
  is_placed n p f slots is c_is =
      let parent = parent_is t n p f slots is c_is in
      let named : naming_slots t n ≡ cond (n == 1) 0 1 = whole.named n ∙ due_at t n f (Directory slots p) is c_is in
      record {
        root = λ one. (
          (let e : ◌≡◌ {A = Option ℕ} (Some p) (Some 1) = sym parent ∙ ap (parent_at t) one ∙ whole.root in let same : p ≡ 1 = cc in same),
          named ∙ ap (λ b. cond b 0 1) (eq-eqb n 1 one),
        );
        named = λ other. named ∙ ap (λ b. cond b 0 1) (ne_eqb n 1 other);
        inside = λ other. there (whole.inside n p other parent);
        leads = whole.leads n p parent;
      } where
        there : named_in t p n ≡ 1 → (g : File) × (table.get t.files p ≡ Some g) × (count_by (names_file n) (slots_of g.content) ≡ 1)
        there = go (table.get t.files p) refl where
          go : (o : Option File) → table.get t.files p ≡ o → option_map_or (λ g. count_by (names_file n) (slots_of g.content)) o 0 ≡ 1
              → (g : File) × (table.get t.files p ≡ Some g) × (count_by (names_file n) (slots_of g.content) ≡ 1)
          go None none e = absurd (omega arith)
          go (Some g) some e = (g, some, e)

  in_order : (n : ℕ) (f : File) (c : Content) → table.get t.files n ≡ Some f → f.content ≡ c → IsOwnContent f c → HasLinks t f c → IsInOrder t n f c
  in_order n f (Regular blocks) is c_is own links = (own.0, own.1, sym (whole.named n ∙ due_at t n f (Regular blocks) is c_is), own.2)
  in_order n f (Link blocks) is c_is own links = (own.0, own.1, sym (whole.named n ∙ due_at t n f (Link blocks) is c_is), own.2)
  in_order n f (Directory slots parent) is c_is own links =
      (own.0, are_slots n f slots is (ap slots_of c_is) own.1, links, is_placed n parent f slots is c_is)

  pub good_from_whole : IsGood t
  good_from_whole = record {
    geometry = whole.geometry;
    root = ap is_some whole.root;
    files = λ n f is. let own = whole.own n f is in record {
      number = whole.numbers n f is;
      mode = own.mode;
      links = own.links;
      content = in_order n f f.content is refl own.content (whole.links n f is);
    };
    freed = whole.freed;
    fits = whole.fits;
  }
