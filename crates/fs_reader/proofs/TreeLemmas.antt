-- The one tree that images stand for is the one that is read.
use Rattle.std.proofs.Common.{◌≡◌, ◌≢◌, ℕ, ◌+◌, ◌-◌, ◌*◌, ◌<◌, ◌≤◌, Bool, true, false, List, Option, Some, None, inl, inr, refl, sym, ap, subst, ◌∙◌, arith}
use Rattle.std.specs.Prelude.{◌/◌, ◌%◌, ◌^◌, ◌==◌, ◌&&◌, not, nat_lt, is_some, unwrap_or}
use Rattle.std.specs.FinMap as table
use Rattle.std.proofs.lemmas.Bool.{cases_Bool, cases_lt, true≢false}
use Rattle.std.proofs.lemmas.Option.{none-some}
use Rattle.sfs_base.proofs.MapLemmas.{same_look_ups}
use Rattle.fs_layout.specs.declared.attrs.Attrs.{Attrs}
use Rattle.fs_layout.specs.declared.reference.Reference.{Reference}
use Rattle.fs_layout.specs.Inodes.{SpellsInode}
use Rattle.fs_layout.specs.Places.{number_of}
use Rattle.fs_layout.proofs.RecordLemmas.{inode_one}
use Rattle.fs_bitmap.specs.Bits.{is_used}
use Rattle.fs_rules.specs.declared.content.Content.{Content}
use Rattle.fs_rules.specs.declared.content.Content.TheVariants.{Regular, Link, Directory}
use Rattle.fs_rules.specs.declared.file.File.{File}
use Rattle.fs_rules.specs.declared.geometry.Geometry.{Geometry}
use Rattle.fs_rules.specs.declared.kept.Kept.{Kept}
use Rattle.fs_rules.specs.declared.plain_tree.PlainTree.{PlainTree}
use Rattle.fs_rules.specs.File.{kind_of}
use Rattle.fs_rules.specs.Geometry.{IsWithinLimits}
use Rattle.fs_rules.specs.Numbers.{IsNumber, kept_at}
use Rattle.mini_tx.specs.FlatMemory.{Flat}
use Rattle.fs_image.specs.Owners.{Part, Chain, Owned}
use Rattle.fs_image.specs.Parts.{has_part_of, inode_of, Holds}
use Rattle.fs_image.specs.Places.{block_map, inode_bytes, block_bytes}
use Rattle.fs_image.specs.Stands.{IsBlock, ShowsFile, Shows, Stands}
use Rattle.fs_image.proofs.OwnerLemmas.{some_same}
use Rattle.fs_image.proofs.WalkLemmas.{file_one}
use Rattle.fs_reader.specs.Files.{IsFileAt, IsNoFile}
use Rattle.fs_reader.specs.Marks.{bit_of, CanTake}
use Rattle.fs_reader.specs.Numbers.{place_of, nothing_kept, is_taken, IsRecordAt, IsNumberRead, IsReadBelow, IsNoTree, AreMaps, IsNoneBelow, IsTreeRead, AreImages}
use Rattle.fs_reader.specs.Sizes.{AreSized}
use Rattle.fs_reader.specs.Trees.{AreAllTaken, AreOwners}
use Rattle.fs_reader.specs.Walk.{places}
use Rattle.fs_reader.proofs.MarkLemmas.{bit_one}
use Rattle.fs_reader.proofs.NumberLemmas.{place_here, place_number, none_first}
use Rattle.fs_reader.proofs.OwnerLemmas.{marks_tell}
use Rattle.fs_reader.proofs.ShownLemmas.{shown_read}
use Rattle.fs_reader.proofs.WalkLemmas.{none_is}

some_kind : (c : Content) → kind_of c ≢ 0
some_kind (Regular blocks) none = omega (arith, none)
some_kind (Directory slots parent) none = omega (arith, none)
some_kind (Link blocks) none = omega (arith, none)

taken_live : (c : Content) (b : Bool) → not ((kind_of c == 0) && b) ≡ true
taken_live (Regular blocks) b = refl
taken_live (Directory slots parent) b = refl
taken_live (Link blocks) b = refl

-- the bit of a number is that of its record
taken_of : (file : Option File) (kept : Kept) (first : Option Reference)
    → not (not (is_some file) && (nat_lt kept.generation (2 ^ 32 - 1) && nat_lt kept.change (2 ^ 64 - 1))) ≡ is_taken (inode_of file kept first)
taken_of None kept first = refl
taken_of (Some f) kept first = sym (taken_live f.content (nat_lt f.generation (2 ^ 32 - 1) && nat_lt f.change (2 ^ 64 - 1)))

-- ---- images that stand for a tree

module _ (flat : Flat) (u : PlainTree) (s : Stands flat u) where
  abbrev g : Geometry
  g = u.geometry

  limits : IsWithinLimits g
  limits = s.good.geometry

  module _ (m inode : ℕ) (lm : m < g.memories) (li : inode < g.inodes) where
    abbrev n : ℕ
    n = number_of m inode

    shows : ShowsFile flat u (s.owners.place n) m inode (table.get u.files n)
    shows = s.shows.files m inode lm li

    pub recorded : IsRecordAt flat m inode (inode_of (table.get u.files n) (kept_at u n) (s.owners.place n (Chain 0)))
    recorded = record { spelled = shows.record_is; bit = shows.bit ∙ taken_of (table.get u.files n) (kept_at u n) (s.owners.place n (Chain 0)) }

    -- the parts of its file lie where the record and the blocks tell
    own_by : (a : Attrs) → IsRecordAt flat m inode a → (o : Option File) → table.get u.files n ≡ o → (x : Part) → s.owners.place n x ≡ places (block_bytes g flat) a.first x
    own_by a at None is x =
        let none : s.owners.place n x ≡ None = none_is (s.owners.place n x) (shows.there x ∙ ap (λ f. has_part_of f x) is) in
        let same : inode_of None (kept_at u n) (s.owners.place n (Chain 0)) ≡ a =
        ap (λ f. inode_of f (kept_at u n) (s.owners.place n (Chain 0))) (sym is) ∙ inode_one _ _ (inode_bytes flat m inode) shows.record_is at.spelled in
        none ∙ sym (none_first (block_bytes g flat) a.first (sym (ap (λ (b : Attrs). b.first) same)) x)
    own_by a at (Some f) is x =
        (shown_read flat u (s.owners.place n) m inode f a s.good is (subst (ShowsFile flat u (s.owners.place n) m inode) is shows) at.spelled).places_are x

    own_number : (x : Part) → s.owners.place n x ≡ place_of g flat n x
    own_number x =
        own_by (inode_of (table.get u.files n) (kept_at u n) (s.owners.place n (Chain 0))) recorded (table.get u.files n) refl x
        ∙ sym (place_here g flat m inode (inode_of (table.get u.files n) (kept_at u n) (s.owners.place n (Chain 0))) lm li limits.inodes.1 shows.record_is x)

  own_place : (k : ℕ) (x : Part) → IsNumber g k → s.owners.place k x ≡ place_of g flat k x
  own_place k x number = subst (λ (q : ℕ). s.owners.place q x ≡ place_of g flat q x) (sym number.is) (own_number number.memory number.inode number.there.0 number.there.1 x)

  -- of the numbers below one that were read, none has taken the block of another one
  module _ (n : ℕ) (start left : List ℕ) (t : PlainTree) (maps : AreMaps g flat start) (below : IsReadBelow g flat n start left t) where
    was_marked : (k : ℕ) (x : Part) (p : Reference) → s.owners.place k x ≡ Some p → is_used start (bit_of p) ≡ true
    was_marked k x p at =
        let inside = (s.shows.inside k x p at).1 in
        maps p.memory p.block inside.memory (omega (arith, inside.block, limits.blocks.1)) ∙ s.shows.bits p inside ∙ ap is_some (s.shows.inverse.owned k x p at)

    still : (k : ℕ) (x : Part) (p : Reference) → n ≤ k → s.owners.place k x ≡ Some p → is_used left (bit_of p) ≡ true
    still k x p above at = elim (cases_Bool (is_used left (bit_of p))) [
      | inl is ↦ is
      | inr gone ↦
          let f = below.takes.found (bit_of p) (was_marked k x p at) gone in
          let lies : f.at ≡ p = bit_one g limits f.at p (below.takes.inside f.file f.part f.at f.before f.is) (s.shows.inside k x p at).1 f.bit_is in
          let own : s.owners.place f.file f.part ≡ Some p = own_place f.file f.part (place_number g flat f.file f.part f.at f.is) ∙ f.is ∙ ap Some lies in
          let same =
          some_same (record { file = f.file; part = f.part }) (record { file = k; part = x }) (sym (s.shows.inverse.owned f.file f.part p own) ∙ s.shows.inverse.owned k x p at) in
          let file : f.file ≡ k = ap (λ (w : Owned). w.file) same in
          absurd (omega (arith, f.before, above, file))
    ]

    module _ (m inode : ℕ) (lm : m < g.memories) (li : inode < g.inodes) (now : n ≡ number_of m inode) (a : Attrs) (at : IsRecordAt flat m inode a) where
      can_take : (f : File) → table.get u.files (number_of m inode) ≡ Some f → CanTake g (places (block_bytes g flat) a.first) left
      can_take f is =
          let own : (x : Part) (p : Reference) → places (block_bytes g flat) a.first x ≡ Some p → s.owners.place (number_of m inode) x ≡ Some p =
          (λ x p lies. own_by m inode lm li a at (Some f) is x ∙ lies) in
          record {
            inside = λ x p lies. (s.shows.inside (number_of m inode) x p (own x p lies)).1;
            marked = λ x p lies. still (number_of m inode) x p (omega (arith, now)) (own x p lies);
            once = λ x y p lies also.
                ap (λ (w : Owned). w.part) (some_same (record { file = number_of m inode; part = x }) (record { file = number_of m inode; part = y })
                (sym (s.shows.inverse.owned (number_of m inode) x p (own x p lies)) ∙ s.shows.inverse.owned (number_of m inode) y p (own y p also)));
          }

      no_file_here : a.kind ≢ 0 → (o : Option File) → table.get u.files (number_of m inode) ≡ o → IsNoFile g flat (number_of m inode) a left → ⊥
      no_file_here live None is none =
          let same = ap (λ f. inode_of f (kept_at u (number_of m inode)) (s.owners.place (number_of m inode) (Chain 0))) (sym is)
          ∙ inode_one _ _ (inode_bytes flat m inode) (shows m inode lm li).record_is at.spelled in
          live (sym (ap (λ (b : Attrs). b.kind) same))
      no_file_here live (Some f) is none =
          none f
          (shown_read flat u (s.owners.place (number_of m inode)) m inode f a s.good is
          (subst (ShowsFile flat u (s.owners.place (number_of m inode)) m inode) is (shows m inode lm li)) at.spelled).file
          (can_take f is)

    -- no mark is left where all numbers were read
    module _ (all : 16384 * g.memories < n) (bit : ℕ) (small : bit < 16384 * g.memories) (is : is_used left bit ≡ true) where
      abbrev p : Reference
      p = record { memory = bit / 16384; block = bit % 16384 }

      bit_is : 16384 * (bit / 16384) + bit % 16384 ≡ bit
      bit_is = omega arith

      in_map : is_used (block_map flat (bit / 16384)) (bit % 16384) ≡ true
      in_map =
          sym (maps (bit / 16384) (bit % 16384) (omega (arith, small)) (omega arith)) ∙ ap (is_used start) bit_is ∙ below.takes.kept bit is

      inside_of : IsBlock g p
      inside_of = elim (cases_lt (bit % 16384) g.blocks) [
        | inl less ↦ record { memory = omega (arith, small); block = less }
        | inr not_less ↦ absurd (true≢false (sym in_map ∙ (s.shows.images (bit / 16384) (omega (arith, small))).no_block (bit % 16384) (omega (arith, not_less)) (omega arith)))
      ]

      owned_by : (o : Option Owned) → s.owners.owner p ≡ o → ⊥
      owned_by None none = true≢false (sym in_map ∙ s.shows.bits p inside_of ∙ ap is_some none)
      owned_by (Some w) some =
          let at : s.owners.place w.file w.part ≡ Some p = s.shows.inverse.placed w.file w.part p some in
          let number : IsNumber g w.file = (s.shows.inside w.file w.part p at).0 in
          true≢false (sym is ∙ ap (is_used left) (sym bit_is)
          ∙ below.takes.taken w.file w.part p (omega (arith, all, number.is, number.there.0, number.there.1, limits.inodes.1)) (sym (own_place w.file w.part number) ∙ at))

      no_mark : ⊥
      no_mark = owned_by (s.owners.owner p) refl

  -- ---- the tree that was read

  module _ (n : ℕ) (start left : List ℕ) (t : PlainTree) (below : IsReadBelow g flat n start left t) (all : 16384 * g.memories < n) where
    file_at_one : (k : ℕ) (a : Attrs) (f h : File) → IsFileAt (block_bytes g flat) k a f → IsFileAt (block_bytes g flat) k a h → f ≡ h
    file_at_one k a f h af ah =
        file_one (block_bytes g flat) k (places (block_bytes g flat) a.first) (places (block_bytes g flat) a.first) f h
        (record { there = af.content.there; holds = af.content.holds }) (record { there = ah.content.there; holds = ah.content.holds })
        (record { sized = af.content.sized; names = af.content.names }) (record { sized = ah.content.sized; names = ah.content.names }) (af.attrs ∙ sym ah.attrs)

    same_kept : (a b : Option Kept) → ((k : Kept) → a ≡ Some k → k.generation ≡ 0 → k.change ≡ 0 → ⊥) → ((k : Kept) → b ≡ Some k → k.generation ≡ 0 → k.change ≡ 0 → ⊥)
        → unwrap_or a nothing_kept ≡ unwrap_or b nothing_kept → a ≡ b
    same_kept None None ma mb same = refl
    same_kept None (Some k) ma mb same = absurd (mb k refl (sym (ap (λ (x : Kept). x.generation) same)) (sym (ap (λ (x : Kept). x.change) same)))
    same_kept (Some k) None ma mb same = absurd (ma k refl (ap (λ (x : Kept). x.generation) same) (ap (λ (x : Kept). x.change) same))
    same_kept (Some k) (Some j) ma mb same = ap Some same

    module _ (m inode : ℕ) (lm : m < g.memories) (li : inode < g.inodes) where
      abbrev q : ℕ
      q = number_of m inode

      read : IsNumberRead g flat m inode (table.get t.files q) (table.get t.freed q)
      read = below.read m inode lm li (omega (arith, all, lm, li, limits.inodes.1))

      abbrev a : Attrs
      a = read.attrs

      same_inode : (x y : Option File) → table.get u.files q ≡ x → table.get t.files q ≡ y
          → inode_of x (kept_at u q) (s.owners.place q (Chain 0)) ≡ inode_of y (unwrap_or (table.get t.freed q) nothing_kept) a.first
      same_inode x y is too =
          ap (λ f. inode_of f (kept_at u q) (s.owners.place q (Chain 0))) (sym is)
          ∙ inode_one _ _ (inode_bytes flat m inode) (shows m inode lm li).record_is read.recorded.spelled
          ∙ sym read.record_is ∙ ap (λ f. inode_of f (unwrap_or (table.get t.freed q) nothing_kept) a.first) too

      same_file : (x y : Option File) → table.get u.files q ≡ x → table.get t.files q ≡ y → x ≡ y
      same_file None None is too = refl
      same_file None (Some f) is too = absurd (some_kind f.content (sym (ap (λ (b : Attrs). b.kind) (same_inode None (Some f) is too))))
      same_file (Some f) None is too = absurd (some_kind f.content (ap (λ (b : Attrs). b.kind) (same_inode (Some f) None is too)))
      same_file (Some f) (Some h) is too =
          ap Some (file_at_one q a f h
          (shown_read flat u (s.owners.place q) m inode f a s.good is (subst (ShowsFile flat u (s.owners.place q) m inode) is (shows m inode lm li)) read.recorded.spelled).file
          (read.file_is h too))

      files_here : table.get u.files q ≡ table.get t.files q
      files_here = same_file (table.get u.files q) (table.get t.files q) refl refl

      live_none : (f : File) → table.get u.files q ≡ Some f → (o : Option Kept) → table.get u.freed q ≡ o → o ≡ None
      live_none f live None is = refl
      live_none f live (Some k) is = absurd (none-some f (sym (s.good.freed q k is).free ∙ live))

      kept_here : (x y : Option File) → table.get u.files q ≡ x → table.get t.files q ≡ y → table.get u.freed q ≡ table.get t.freed q
      kept_here None None is too =
          let same = same_inode None None is too in
          same_kept (table.get u.freed q) (table.get t.freed q) (λ k at. (s.good.freed q k at).more) read.more
          (λ i. record { generation = (ap (λ (b : Attrs). b.generation) same) i; change = (ap (λ (b : Attrs). b.change) same) i })
      kept_here None (Some f) is too = absurd (none-some f (sym is ∙ files_here ∙ too))
      kept_here (Some f) None is too = absurd (none-some f (sym too ∙ sym files_here ∙ is))
      kept_here (Some f) (Some h) is too = live_none f is (table.get u.freed q) refl ∙ sym (read.live h too)

      freed_here : table.get u.freed q ≡ table.get t.freed q
      freed_here = kept_here (table.get u.files q) (table.get t.files q) refl refl

    files_at : (k : ℕ) → IsNumber g k → table.get u.files k ≡ table.get t.files k
    files_at k number = subst (λ (j : ℕ). table.get u.files j ≡ table.get t.files j) (sym number.is) (files_here number.memory number.inode number.there.0 number.there.1)

    freed_at : (k : ℕ) → IsNumber g k → table.get u.freed k ≡ table.get t.freed k
    freed_at k number = subst (λ (j : ℕ). table.get u.freed j ≡ table.get t.freed j) (sym number.is) (freed_here number.memory number.inode number.there.0 number.there.1)

    files_all : (k : ℕ) (x y : Option File) → table.get u.files k ≡ x → table.get t.files k ≡ y → table.get u.files k ≡ table.get t.files k
    files_all k None None is too = is ∙ sym too
    files_all k (Some f) y is too = files_at k (s.good.files k f is).number
    files_all k None (Some f) is too = files_at k (below.files k f too).0

    freed_all : (k : ℕ) (x y : Option Kept) → table.get u.freed k ≡ x → table.get t.freed k ≡ y → table.get u.freed k ≡ table.get t.freed k
    freed_all k None None is too = is ∙ sym too
    freed_all k (Some e) y is too = freed_at k (s.good.freed k e is).number
    freed_all k None (Some e) is too = freed_at k (below.freed k e too).0

    pub read_is : u ≡ t
    read_is =
        let files = same_look_ups u.files t.files (λ k. files_all k (table.get u.files k) (table.get t.files k) refl refl) in
        let freed = same_look_ups u.freed t.freed (λ k. freed_all k (table.get u.freed k) (table.get t.freed k) refl refl) in
        λ i. record { geometry = (sym below.geometry) i; files = files i; freed = freed i }

-- ---- of a cluster that is named

pub no_record : (g : Geometry) (flat : Flat) (m inode : ℕ) (left : List ℕ) (t : PlainTree) → m < g.memories → inode < g.inodes → ((a : Attrs) → IsRecordAt flat m inode a → ⊥)
    → IsNoneBelow g flat (number_of m inode) left t
no_record g flat m inode left t lm li none start maps below u same stands =
    none _ (recorded flat u stands m inode (subst (λ (h : Geometry). m < h.memories) (sym same) lm) (subst (λ (h : Geometry). inode < h.inodes) (sym same) li))

pub no_live : (g : Geometry) (flat : Flat) (m inode : ℕ) (left : List ℕ) (t : PlainTree) → m < g.memories → inode < g.inodes → (a : Attrs) → IsRecordAt flat m inode a → a.kind ≢ 0
    → IsNoFile g flat (number_of m inode) a left → IsNoneBelow g flat (number_of m inode) left t
no_live g flat m inode left t lm li a at live none start maps below u same stands =
    subst (λ (h : Geometry). m < h.memories → inode < h.inodes → IsNoFile h flat (number_of m inode) a left → AreMaps h flat start → IsReadBelow h flat (number_of m inode) start left t → ⊥) same
    (λ lmu liu noneu mapsu belowu.
    no_file_here flat u stands (number_of m inode) start left t mapsu belowu m inode lmu liu refl a at live (table.get u.files (number_of m inode)) refl noneu)
    lm li none maps below

pub no_tree : (g : Geometry) (flat : Flat) (n : ℕ) (start left : List ℕ) (t : PlainTree) → AreMaps g flat start → IsReadBelow g flat n start left t → 16384 * g.memories < n
    → (bit : ℕ) → bit < 16384 * g.memories → is_used left bit ≡ true → IsNoTree g flat
no_tree g flat n start left t maps below all bit small is u same stands =
    subst (λ (h : Geometry). AreMaps h flat start → IsReadBelow h flat n start left t → 16384 * h.memories < n → bit < 16384 * h.memories → ⊥) same
    (λ mapsu belowu allu smallu. no_mark flat u stands n start left t mapsu belowu allu bit smallu is) maps below all small

pub is_only : (g : Geometry) (flat : Flat) (n : ℕ) (start left : List ℕ) (t : PlainTree) → IsReadBelow g flat n start left t → 16384 * g.memories < n
    → (u : PlainTree) → u.geometry ≡ g → Stands flat u → u ≡ t
is_only g flat n start left t below all u same stands =
    subst (λ (h : Geometry). IsReadBelow h flat n start left t → 16384 * h.memories < n → u ≡ t) same (λ belowu allu. read_is flat u stands n start left t belowu allu) below all

-- ---- what was read is shown

module _ (flat : Flat) (t : PlainTree) (n : ℕ) (start left : List ℕ) (sized : AreSized t.geometry flat) (images : AreImages t.geometry flat) (maps : AreMaps t.geometry flat start)
    (below : IsReadBelow t.geometry flat n start left t) (all : n ≡ 16384 * t.geometry.memories + 1) (none : (bit : ℕ) → bit < 16384 * t.geometry.memories → is_used left bit ≡ false)
  where
    abbrev cluster : Geometry
    cluster = t.geometry

    all_taken : AreAllTaken cluster flat (place_of cluster flat) n start left
    all_taken =
        record {
          takes = below.takes;
          all = λ k x p at. let number = place_number cluster flat k x p at in omega (arith, all, number.is, number.there.0, number.there.1, sized.limits.inodes.1);
          maps = λ p inside. maps p.memory p.block inside.memory (omega (arith, inside.block, sized.limits.blocks.1));
          none = none;
        }

    pub told : AreOwners cluster flat (place_of cluster flat)
    told = marks_tell cluster flat (place_of cluster flat) n start left sized.limits all_taken

    place_as : (k : ℕ) (x : Part) → told.owners.place k x ≡ place_of cluster flat k x
    place_as k x = ap (λ w. w k x) told.places

    file_shown : (m inode : ℕ) → m < cluster.memories → inode < cluster.inodes → (o : Option File) (kept : Option Kept) → table.get t.files (number_of m inode) ≡ o → table.get t.freed (number_of m inode) ≡ kept
        → IsNumberRead cluster flat m inode o kept → ShowsFile flat t (told.owners.place (number_of m inode)) m inode o
    file_shown m inode lm li o kept is freed read =
        record {
          record_is = subst (λ (b : Attrs). SpellsInode b (inode_bytes flat m inode)) (sym same_record) read.recorded.spelled;
          there = there_of o read.file_is read.record_is;
          holds = λ f x p live at. subst (λ (w : Part → Option Reference). Holds w (number_of m inode) f.content x (block_bytes cluster flat p)) (sym all_places)
              ((read.file_is f live).content.holds x p (sym (lies x) ∙ at));
          bit = read.recorded.bit ∙ ap is_taken (sym read.record_is) ∙ sym (taken_of o (unwrap_or kept nothing_kept) read.attrs.first)
              ∙ (λ i. not (not (is_some ((sym is) i)) && (nat_lt (unwrap_or ((sym freed) i) nothing_kept).generation (2 ^ 32 - 1) && nat_lt (unwrap_or ((sym freed) i) nothing_kept).change (2 ^ 64 - 1))));
        }
      where
        lies : (x : Part) → told.owners.place (number_of m inode) x ≡ places (block_bytes cluster flat) read.attrs.first x
        lies x = place_as (number_of m inode) x ∙ place_here cluster flat m inode read.attrs lm li sized.limits.inodes.1 read.recorded.spelled x

        all_places : told.owners.place (number_of m inode) ≡ places (block_bytes cluster flat) read.attrs.first
        all_places = λ i x. (lies x) i

        same_record : inode_of o (kept_at t (number_of m inode)) (told.owners.place (number_of m inode) (Chain 0)) ≡ read.attrs
        same_record = (λ i. inode_of o (unwrap_or (freed i) nothing_kept) ((lies (Chain 0)) i)) ∙ read.record_is

        there_of : (o : Option File) → ((f : File) → o ≡ Some f → IsFileAt (block_bytes cluster flat) (number_of m inode) read.attrs f) → inode_of o (unwrap_or kept nothing_kept) read.attrs.first ≡ read.attrs
            → (x : Part) → is_some (told.owners.place (number_of m inode) x) ≡ has_part_of o x
        there_of None file_is same x = ap is_some (lies x ∙ none_first (block_bytes cluster flat) read.attrs.first (sym (ap (λ (b : Attrs). b.first) same)) x)
        there_of (Some f) file_is same x = ap is_some (lies x) ∙ (file_is f refl).content.there x

    pub read_shown : Shows flat t told.owners
    read_shown =
        record {
          memories = sized.memories;
          images = images;
          inverse = told.inverse;
          inside = λ k x p at.
              let lies = sym (place_as k x) ∙ at in
              let number = place_number cluster flat k x p lies in
              (number, below.takes.inside k x p (omega (arith, all, number.is, number.there.0, number.there.1, sized.limits.inodes.1)) lies);
          files = λ m inode lm li.
              file_shown m inode lm li (table.get t.files (number_of m inode)) (table.get t.freed (number_of m inode)) refl refl
              (below.read m inode lm li (omega (arith, all, lm, li, sized.limits.inodes.1)));
          bits = told.bits;
        }

pub tree_read : (g : Geometry) (flat : Flat) (t : PlainTree) (n : ℕ) (start left : List ℕ) → AreSized g flat → AreImages g flat → AreMaps g flat start → IsReadBelow g flat n start left t
    → n ≡ 16384 * g.memories + 1 → ((bit : ℕ) → bit < 16384 * g.memories → is_used left bit ≡ false) → IsTreeRead g flat t
tree_read g flat t n start left sized images maps below all none =
    subst (λ (h : Geometry). AreSized h flat → AreImages h flat → AreMaps h flat start → IsReadBelow h flat n start left t → n ≡ 16384 * h.memories + 1
    → ((bit : ℕ) → bit < 16384 * h.memories → is_used left bit ≡ false) → IsTreeRead h flat t) below.geometry
    (λ sizedu imagesu mapsu belowu allu noneu.
    record {
      geometry = refl;
      owners = (told flat t n start left sizedu imagesu mapsu belowu allu noneu).owners;
      shows = read_shown flat t n start left sizedu imagesu mapsu belowu allu noneu;
      only = is_only t.geometry flat n start left t belowu (omega (arith, allu));
    }) sized images maps below all none

-- a mark is left
pub marks_left : (g : Geometry) (flat : Flat) (n : ℕ) (start left : List ℕ) (t : PlainTree) → AreMaps g flat start → IsReadBelow g flat n start left t → 16384 * g.memories < n
    → (((bit : ℕ) → bit < 16384 * g.memories → is_used left bit ≡ false) → ⊥) → IsNoTree g flat
marks_left g flat n start left t maps below all not_none u same stands =
    not_none (λ bit small. elim (cases_Bool (is_used left bit)) [
      | inl is ↦ absurd (no_tree g flat n start left t maps below all bit small is u same stands)
      | inr none ↦ none
    ])
