-- The file of a record, whose chaining blocks were read.
use Rattle.std.proofs.Common.{◌≡◌, ◌≢◌, ℕ, ◌+◌, ◌*◌, ◌<◌, ◌≤◌, true, cond, List, [], ◌∷◌, length, take, get_or, Option, Some, None, inl, inr, refl, sym, ap, subst, ◌∙◌, arith}
use Rattle.std.specs.Prelude.{◌/◌, ◌++◌, is_some, unwrap_or, count_by}
use Rattle.std.specs.List.{fold}
use Rattle.std.proofs.lemmas.List.{take_more}
use Rattle.std.specs.FinMap as table
use Rattle.std.specs.FinMap.{get-empty}
use Rattle.std.specs.Ordering.{nat_cmp}
use Rattle.std.proofs.lemmas.Bool.{true≢false, le-ltb}
use Rattle.std.proofs.lemmas.Option.{none-some}
use Rattle.fs_layout.specs.declared.attrs.Attrs.{Attrs}
use Rattle.fs_layout.specs.Inodes.{IsInode, IsKind}
use Rattle.fs_layout.specs.declared.reference.Reference.{Reference}
use Rattle.fs_rules.specs.declared.content.Content.{Content}
use Rattle.fs_rules.specs.declared.content.Content.TheVariants.{Regular, Link, Directory}
use Rattle.fs_rules.specs.declared.entry.Entry.{Entry}
use Rattle.fs_rules.specs.declared.file.File.{File}
use Rattle.fs_rules.specs.declared.geometry.Geometry.{Geometry}
use Rattle.fs_rules.specs.File.{kind_of, slots_of, parent_of, used}
use Rattle.mini_tx.specs.FlatMemory.{Flat}
use Rattle.fs_image.specs.Owners.{Part, Chain}
use Rattle.fs_image.specs.Parts.{chains_of, names_of, live_inode}
use Rattle.fs_image.specs.Places.{block_bytes}
use Rattle.fs_image.specs.Records.{NameFiles}
use Rattle.fs_reader.specs.Contents.{IsContentAt, IsOfKind, IsReadTo, IsClaimed}
use Rattle.fs_reader.specs.Files.{IsFileRead, IsNoFile, Fits, IsEmptyFor, IsContentRead, IsNoContent, file_by}
use Rattle.fs_reader.specs.Links.{ReadsLinks, AreLinksRead, IsNoChainClaimed}
use Rattle.fs_reader.specs.Marks.{CanTake}
use Rattle.fs_reader.specs.Walk.{places}
use Rattle.fs_reader.proofs.MarkLemmas.{takes_nothing}
use Rattle.fs_reader.proofs.ReadLemmas.{content_at, content_is}

-- contents of one kind have the same parent, where what a record tells of it is the same
of_kind : (e d : Content) → kind_of e ≡ kind_of d → unwrap_or (parent_of e) 0 ≡ unwrap_or (parent_of d) 0 → IsOfKind e d
of_kind (Regular b) (Regular c) kind parent = record { kind = kind; parent = refl }
of_kind (Regular b) (Link c) kind parent = absurd (omega (arith, kind))
of_kind (Regular b) (Directory xs p) kind parent = absurd (omega (arith, kind))
of_kind (Link b) (Regular c) kind parent = absurd (omega (arith, kind))
of_kind (Link b) (Link c) kind parent = record { kind = kind; parent = refl }
of_kind (Link b) (Directory xs p) kind parent = absurd (omega (arith, kind))
of_kind (Directory xs p) (Regular c) kind parent = absurd (omega (arith, kind))
of_kind (Directory xs p) (Link c) kind parent = absurd (omega (arith, kind))
of_kind (Directory xs p) (Directory ys q) kind parent = record { kind = kind; parent = ap Some parent }

names_none : (slots : List (Option Entry)) → slots ≡ [] → NameFiles slots
names_none slots none = subst NameFiles (sym none) (λ i e is. absurd (none-some (Some e) is))

sized_none : (slots : List (Option Entry)) → slots ≡ [] → length slots ≡ 15 * (length slots / 15)
sized_none slots none = let zero_length : length slots ≡ 0 = ap length none in omega (arith, zero_length)

module _ (g : Geometry) (flat : Flat) (n : ℕ) (a : Attrs) (old : List ℕ) (e : Content) (empty : IsEmptyFor a e) where
  abbrev block : Reference → List ℕ
  block = block_bytes g flat

  abbrev place : Part → Option Reference
  place = places block a.first

  -- nothing was read
  read_nothing : IsReadTo g flat place 0 e old old e
  read_nothing =
      record {
        takes = takes_nothing g place old;
        there = λ i before. absurd (omega (arith, before));
        beyond = λ i behind. empty.none i;
        holds = λ i r before is. absurd (omega (arith, before));
        sized = sized_none (slots_of e) empty.slots;
        names = names_none (slots_of e) empty.slots;
        kind = record { kind = refl; parent = refl };
      }

  claim_of : (d : Content) → IsContentAt block n place d → Fits a d → CanTake g place old → IsClaimed g flat n place e old d
  claim_of d content fits marks =
      record { content = content; kind = of_kind e d (empty.kind ∙ sym fits.kind) (empty.parent ∙ sym fits.parent); marks = marks }

  -- more chaining blocks than a file has
  pub too_many : 8 < a.chains → IsNoContent g flat n a old
  too_many many d content fits marks = omega (arith, many, content.few, fits.chains)

  pub not_linked : IsNoChainClaimed g flat n a.first a.chains old e → IsNoContent g flat n a old
  not_linked not d content fits marks = not e old d fits.chains read_nothing (claim_of d content fits marks)

  module _ (new : List ℕ) (c : Content) (behind : Option Reference) (reads : ReadsLinks g flat n a.first a.chains old e new c behind) where
    links : AreLinksRead g flat n a.first a.chains e old new c behind
    links = reads e old read_nothing

    -- a chaining block behind the last one
    pub one_behind : is_some behind ≡ true → IsNoContent g flat n a old
    one_behind some d content fits marks =
        true≢false (sym some ∙ ap is_some (sym links.behind_is) ∙ content.there (Chain a.chains) ∙ le-ltb a.chains (chains_of d) (omega (arith, fits.chains)))

    module _ (last : behind ≡ None) where
      only : (d : Content) → IsContentAt block n place d → Fits a d → CanTake g place old → c ≡ d
      only d content fits marks = content_is g flat a.first n a.chains e old new c links.read links.held (links.behind_is ∙ last) d (claim_of d content fits marks)

      -- fewer than the record tells are needed
      pub not_as_many : (chains_of c ≡ a.chains → ⊥) → IsNoContent g flat n a old
      not_as_many not d content fits marks = not (ap chains_of (only d content fits marks) ∙ fits.chains)

      pub content_read : chains_of c ≡ a.chains → a.chains ≤ 8 → IsContentRead g flat n a old new c
      content_read many few =
          record {
            content = content_at g flat a.first n a.chains e old new c links.read links.held (links.behind_is ∙ last) many few;
            fits = record {
              kind = sym links.read.kind.kind ∙ empty.kind;
              parent = ap (λ o. unwrap_or o 0) (sym links.read.kind.parent) ∙ empty.parent;
              chains = many;
            };
            takes = links.read.takes;
            only = only;
          }

    -- one lies behind the last one, or others are needed
    pub not_all : ((behind ≡ None) × (chains_of c ≡ a.chains) → ⊥) → IsNoContent g flat n a old
    not_all not = go behind refl
      where
        go : (o : Option Reference) → behind ≡ o → IsNoContent g flat n a old
        go None is = not_as_many is (λ many. not (is, many))
        go (Some r) is = one_behind (ap is_some is)

-- ---- where nothing was read

pub empty_directory : (a : Attrs) (c : Content) → a.kind ≡ 2 → c ≡ Directory [] a.parent → IsEmptyFor a c
empty_directory a c kind is = subst (IsEmptyFor a) (sym is) (record { kind = sym kind; parent = refl; none = λ i. le-ltb i (length {A = Option Entry} [] / 15) (omega arith); slots = refl })

pub empty_link : (a : Attrs) (c : Content) → IsInode a → a.kind ≡ 5 → c ≡ Link table.empty → IsEmptyFor a c
empty_link a c fields kind is =
    let other : a.kind ≢ 2 = λ two. omega (arith, kind, two) in
    subst (IsEmptyFor a) (sym is) (record { kind = sym kind; parent = sym (fields.no_directory other).0; none = λ i. ap is_some (get-empty nat_cmp i); slots = refl })

pub empty_regular : (a : Attrs) (c : Content) → IsInode a → a.kind ≢ 0 → (a.kind ≡ 2 → ⊥) → (a.kind ≡ 5 → ⊥) → c ≡ Regular table.empty → IsEmptyFor a c
empty_regular a c fields live no_directory no_link is =
    subst (IsEmptyFor a) (sym is) (record { kind = sym (one fields.kind); parent = sym (fields.no_directory no_directory).0; none = λ i. ap is_some (get-empty nat_cmp i); slots = refl })
  where
    one : IsKind a.kind → a.kind ≡ 1
    one (inl zero_kind) = absurd (live zero_kind)
    one (inr (inl kind)) = kind
    one (inr (inr (inl two))) = absurd (no_directory two)
    one (inr (inr (inr five))) = absurd (no_link five)

-- ---- the file

module _ (g : Geometry) (flat : Flat) (n : ℕ) (a : Attrs) (old new : List ℕ) (c : Content) (read : IsContentRead g flat n a old new c) where
  record_told : used c ≡ a.used → names_of c ≡ a.names → live_inode (file_by c a) a.first ≡ a
  record_told uses names = λ i. record {
    kind = read.fits.kind i;
    mode = a.mode;
    links = a.links;
    uid = a.uid;
    gid = a.gid;
    size = a.size;
    generation = a.generation;
    used = uses i;
    change = a.change;
    atime_sec = a.atime_sec;
    atime_usec = a.atime_usec;
    mtime_sec = a.mtime_sec;
    mtime_usec = a.mtime_usec;
    ctime_sec = a.ctime_sec;
    ctime_usec = a.ctime_usec;
    first = a.first;
    chains = read.fits.chains i;
    parent = read.fits.parent i;
    names = names i;
  }

  pub file_read : (used c ≡ a.used) × (names_of c ≡ a.names) → (f : File) → f ≡ file_by c a → IsFileRead g flat n a old new f
  file_read told f is =
      subst (IsFileRead g flat n a old new) (sym is)
      (record { file = record { attrs = record_told told.0 told.1; content = read.content }; takes = read.takes })

  pub not_told : ((used c ≡ a.used) × (names_of c ≡ a.names) → ⊥) → IsNoFile g flat n a old
  not_told not f file marks =
      let same : c ≡ f.content =
      read.only f.content file.content
      (record { kind = ap (λ (b : Attrs). b.kind) file.attrs; parent = ap (λ (b : Attrs). b.parent) file.attrs; chains = ap (λ (b : Attrs). b.chains) file.attrs })
      marks in
      not (ap used same ∙ ap (λ (b : Attrs). b.used) file.attrs, ap names_of same ∙ ap (λ (b : Attrs). b.names) file.attrs)

pub no_content_no_file : (g : Geometry) (flat : Flat) (n : ℕ) (a : Attrs) (old : List ℕ) → IsNoContent g flat n a old → IsNoFile g flat n a old
no_content_no_file g flat n a old not f file marks =
    not f.content file.content
    (record { kind = ap (λ (b : Attrs). b.kind) file.attrs; parent = ap (λ (b : Attrs). b.parent) file.attrs; chains = ap (λ (b : Attrs). b.chains) file.attrs }) marks

-- ---- the names

abbrev counted : ℕ → Option Entry → ℕ
counted n s = n + cond (is_some s) 1 0

count_last : (n : ℕ) (slots : List (Option Entry)) (s : Option Entry) → fold counted n (slots ++ s ∷ []) ≡ fold counted n slots + cond (is_some s) 1 0
count_last n [] s = refl
count_last n (x ∷ slots) s = count_last (n + cond (is_some x) 1 0) slots s

-- one slot more
pub count_more : (slots : List (Option Entry)) (i : ℕ) (s : Option Entry) → i < length slots → s ≡ get_or slots i s
    → count_by is_some (take (i + 1) slots) ≡ count_by is_some (take i slots) + count_by is_some (s ∷ [])
count_more slots i s below is =
    let more : count_by is_some (take (i + 1) slots) ≡ count_by is_some (take i slots ++ s ∷ []) =
    ap (count_by is_some) (take_more slots i s below ∙ ap (λ x. take i slots ++ x ∷ []) (sym is)) in
    more ∙ count_last 0 (take i slots) s ∙ omega arith
