-- A RENAME from one directory to another.
use Rattle.std.proofs.Common.{◌≡◌, ◌≢◌, ℕ, ◌+◌, ◌≤◌, Bool, cond, List, ◌∷◌, length, Option, Some, None, ◌⊎◌, inl, inr, refl, sym, ap, subst, ◌∙◌, arith}
use Rattle.std.specs.Prelude.{◌==◌, IsSome, is_some, nat_lt, count_by}
use Rattle.std.specs.List.{list_any}
use Rattle.std.specs.FinMap as table
use Rattle.std.proofs.lemmas.Bool.{cases_eq, eq-eqb, ne_eqb, or_parts, ltb-false}
use Rattle.std.proofs.lemmas.List.Sums.{sum_by-cons}
use Rattle.nfs_proto.specs.declared.stamp.Stamp.{Stamp}
use Rattle.fs_rules.specs.declared.entry.Entry.{Entry}
use Rattle.fs_rules.specs.declared.file.File.{File}
use Rattle.fs_rules.specs.declared.plain_tree.PlainTree.{PlainTree}
use Rattle.fs_rules.specs.File.{slots_of, is_directory}
use Rattle.fs_rules.specs.Slots.{put_name, take_name}
use Rattle.fs_rules.specs.Edits.{Edit, Changed, changed_at, edited, limits, is_linked_too_often, has_too_many_slots}
use Rattle.fs_rules.specs.Making.{renamed}
use Rattle.fs_rules.specs.Names.{unlinked, without_name, with_parent}
use Rattle.fs_rules.specs.Good.{names_file, names_directory, naming_slots, parent_at, IsGood}
use Rattle.fs_laws.proofs.StatusLemmas.{ArePassed}
use Rattle.fs_laws.proofs.SumLemmas.{one_where}
use Rattle.fs_laws.proofs.WholeLemmas.{named_in, due, IsWhole, named_in_at, good_from_whole}
use Rattle.fs_laws.proofs.EditLemmas.{number_of, get_edited, gained, names_of, naming_edited, AreApart, IsWithin, within_limits}
use Rattle.fs_laws.proofs.ShapeLemmas.{whole_edited}
use Rattle.fs_laws.proofs.SlotLemmas.{IsThere, IsTaken, taken}
use Rattle.fs_laws.proofs.DirLemmas.{IsDir, dir_names, dir_links, IsRenamed, renamed_dir, renamed_own, roomy}
use Rattle.fs_laws.proofs.LinkLemmas.{file_apart, file_parent, dir_due, dir_parent}
use Rattle.fs_laws.proofs.MoveLemmas.{IsAround, around_here, moved_shaped}
use Rattle.fs_laws.proofs.ReplaceLemmas.{two_dirs, IsSource, source_apart, source_kind, turned_content, IsReplacing}
use Rattle.fs_laws.proofs.ShuffleLemmas.{IsPair, turned, IsShuffled, shuffled_moved}
use Rattle.fs_laws.proofs.WithinLemmas.{source_own}

-- from the directory a, which is c, the file s goes to the directory b, which is d, and to the name of the entry e
pub record IsAcross (now : Stamp) (t : PlainTree) (a : ℕ) (c : File) (up b : ℕ) (d : File) (parent s : ℕ) (f : File) (name : List ℕ) (e : Entry) (tail : List Edit) (Replaced : ℕ → Type 0)
    (left : Option File) (old : Option Entry) (directory : Bool) : Type 0 where
  pub whole : IsWhole t
  pub first : IsDir t a c up
  pub second : IsDir t b d parent
  pub apart : a ≢ b
  pub source : IsSource t a s f
  pub here : IsThere (slots_of c.content) name
  pub here_file : here.entry.file ≡ s
  pub file : e.file ≡ s
  pub around : (p : ℕ) → parent_at t s ≡ Some p → IsAround t b s
  pub replacing : IsReplacing now t a b s (slots_of d.content) e tail Replaced left old directory

-- whether a file has a parent: whether it is a directory
kind_is : (t : PlainTree) (s : ℕ) (f : File) → table.get t.files s ≡ Some f → is_some (parent_at t s) ≡ is_directory f.content
kind_is t s f there = elim (source_kind t s f there) [
  | inl file ↦ ap is_some (file_parent t s f file) ∙ sym file.plain
  | inr own ↦ ap is_some (dir_parent t s f own.0 own.1) ∙ sym (ap is_directory own.1.content)
]

module _ (now : Stamp) (t : PlainTree) (a : ℕ) (c : File) (up b : ℕ) (d : File) (parent s : ℕ) (f : File) (name : List ℕ) (e : Entry) (tail : List Edit) (Replaced : ℕ → Type 0)
    (left : Option File) (old : Option Entry) (directory : Bool) (h : IsAcross now t a c up b d parent s f name e tail Replaced left old directory) where
  abbrev less : List (Option Entry)
  less = take_name (slots_of c.content) name

  abbrev more : List (Option Entry)
  more = put_name (slots_of d.content) e

  abbrev c' : File
  c' = unlinked (one_where (is_directory f.content)) (without_name now name c)

  abbrev d' : File
  d' = unlinked (one_where directory) (record (renamed now (put_name (slots_of d.content) e) d) { links = d.links + one_where (is_directory f.content) })

  abbrev es : List Edit
  es =
      Changed a (unlinked (one_where (is_directory f.content)) (without_name now name c))
      ∷ Changed b (unlinked (one_where directory) (record (renamed now (put_name (slots_of d.content) e) d) { links = d.links + one_where (is_directory f.content) }))
      ∷ Changed s (record f { content = with_parent b f.content })
      ∷ tail

  abbrev u : PlainTree
  u = edited now t (
      Changed a (unlinked (one_where (is_directory f.content)) (without_name now name c))
      ∷ Changed b (unlinked (one_where directory) (record (renamed now (put_name (slots_of d.content) e) d) { links = d.links + one_where (is_directory f.content) }))
      ∷ Changed s (record f { content = with_parent b f.content })
      ∷ tail)

  apart_first : s ≢ a
  apart_first = source_apart t a s f c up h.whole h.source h.first

  apart_second : s ≢ b
  apart_second = elim (source_kind t s f h.source.there) [
    | inl file ↦ file_apart t s b f d parent file h.second
    | inr own ↦ λ same. around_here t b s ((h.around own.0 (dir_parent t s f own.0 own.1)).never 0 (omega arith)) (sym same)
  ]

  take : IsTaken (slots_of c.content) h.here.entry less
  take = taken (slots_of c.content) name (dir_names t a c up h.whole h.first) h.here

  -- ---- counts

  count_first : (q : ℕ) → count_by (names_file q) less + one_where (s == q) ≡ count_by (names_file q) (slots_of c.content)
  count_first q =
      let x : one_where (h.here.entry.file == q) ≡ one_where (s == q) = ap (λ k. one_where (k == q)) h.here_file in
      omega (arith, x, take.counts (names_file q) refl)

  count_second : (q : ℕ) → count_by (names_file q) more + one_where (names_file q old) ≡ count_by (names_file q) (slots_of d.content) + one_where (s == q)
  count_second q =
      let x : one_where (e.file == q) ≡ one_where (s == q) = ap (λ k. one_where (k == q)) h.file in
      omega (arith, x, h.replacing.put.counts (names_file q) refl)

  kind_first : count_by (names_directory t) less + one_where (is_directory f.content) ≡ count_by (names_directory t) (slots_of c.content)
  kind_first =
      let x : one_where (is_some (parent_at t h.here.entry.file)) ≡ one_where (is_directory f.content) =
      ap (λ k. one_where (is_some (parent_at t k))) h.here_file ∙ ap one_where (kind_is t s f h.source.there) in
      omega (arith, x, take.counts (names_directory t) refl)

  kind_second : count_by (names_directory t) more + one_where directory ≡ count_by (names_directory t) (slots_of d.content) + one_where (is_directory f.content)
  kind_second =
      let x : one_where (is_some (parent_at t e.file)) ≡ one_where (is_directory f.content) =
      ap (λ k. one_where (is_some (parent_at t k))) h.file ∙ ap one_where (kind_is t s f h.source.there) in
      omega (arith, x, h.replacing.put.counts (names_directory t) refl, h.replacing.old_kind)

  other_one : (q : ℕ) → q ≢ s → one_where (s == q) ≡ 0
  other_one q apart = ap one_where (ne_eqb s q (λ same. apart (sym same)))

  -- ---- files

  abbrev first_there : ℕ → Option File
  first_there q = cond (q == a) (Some (changed_at now c')) (table.get t.files q)

  abbrev second_there : ℕ → Option File
  second_there q = cond (q == b) (Some (changed_at now d')) (first_there q)

  get_untouched : (q : ℕ) → (Replaced q → ⊥) → table.get u.files q ≡ cond (q == s) (Some (turned now b f)) (second_there q)
  get_untouched q stays = get_edited now t es q ∙ h.replacing.tail'.keeps q (cond (q == s) (Some (turned now b f)) (second_there q)) stays

  get_source : table.get u.files s ≡ Some (turned now b f)
  get_source = get_untouched s h.replacing.not_source ∙ ap (λ x. cond x (Some (turned now b f)) (second_there s)) (eq-eqb s s refl)

  get_second : table.get u.files b ≡ Some (changed_at now d')
  get_second =
      get_untouched b h.replacing.not_to
      ∙ ap (λ x. cond x (Some (turned now b f)) (second_there b)) (ne_eqb b s (λ same. apart_second (sym same)))
      ∙ ap (λ x. cond x (Some (changed_at now d')) (first_there b)) (eq-eqb b b refl)

  get_first : table.get u.files a ≡ Some (changed_at now c')
  get_first =
      get_untouched a h.replacing.not_from
      ∙ ap (λ x. cond x (Some (turned now b f)) (second_there a)) (ne_eqb a s (λ same. apart_first (sym same)))
      ∙ ap (λ x. cond x (Some (changed_at now d')) (first_there a)) (ne_eqb a b h.apart)
      ∙ ap (λ x. cond x (Some (changed_at now c')) (table.get t.files a)) (eq-eqb a a refl)

  get_other : (q : ℕ) → q ≢ s → q ≢ b → q ≢ a → (Replaced q → ⊥) → table.get u.files q ≡ table.get t.files q
  get_other q apart_s apart_b apart_a stays =
      get_untouched q stays
      ∙ ap (λ x. cond x (Some (turned now b f)) (second_there q)) (ne_eqb q s apart_s)
      ∙ ap (λ x. cond x (Some (changed_at now d')) (first_there q)) (ne_eqb q b apart_b)
      ∙ ap (λ x. cond x (Some (changed_at now c')) (table.get t.files q)) (ne_eqb q a apart_a)

  get_replaced : (q : ℕ) → Replaced q → table.get u.files q ≡ left
  get_replaced q gone = get_edited now t es q ∙ h.replacing.tail'.leaves q (cond (q == s) (Some (turned now b f)) (second_there q)) gone

  renamed_first : IsRenamed c c' less up
  renamed_first = let r = renamed_dir now less c up h.first.content in record { content = r.content; mode = r.mode; size = r.size }

  renamed_second : IsRenamed d d' more parent
  renamed_second = let r = renamed_dir now more d parent h.second.content in record { content = r.content; mode = r.mode; size = r.size }

  pair_first : IsPair t u a s Replaced
  pair_first = record {
    before = c;
    parent = up;
    dir = h.first;
    later = changed_at now c';
    slots = less;
    there = get_first;
    content = renamed_first.content;
    counts = λ k apart stays. omega (arith, count_first k, other_one k apart);
    links = omega (arith, kind_first, dir_links t a c up h.whole h.first);
  }

  pair_second : IsPair t u b s Replaced
  pair_second = record {
    before = d;
    parent = parent;
    dir = h.second;
    later = changed_at now d';
    slots = more;
    there = get_second;
    content = renamed_second.content;
    counts = λ k apart stays. omega (arith, count_second k, other_one k apart, h.replacing.old_other k stays);
    links = omega (arith, kind_second, dir_links t b d parent h.whole h.second);
  }

  others : (q : ℕ) → q ≢ s → (Replaced q → ⊥) → (table.get u.files q ≡ table.get t.files q) ⊎ IsPair t u q s Replaced
  others q apart stays = elim (cases_eq q b) [
    | inl at ↦ inr (subst (λ k. IsPair t u k s Replaced) (sym at) pair_second)
    | inr apart_b ↦ elim (cases_eq q a) [
      | inl at ↦ inr (subst (λ k. IsPair t u k s Replaced) (sym at) pair_first)
      | inr apart_a ↦ inl (get_other q apart apart_b apart_a stays)
    ]
  ]

  are_apart : AreApart es
  are_apart = (
    ((λ same. h.apart (sym same)), (apart_first, h.replacing.tail'.apart a h.replacing.not_from)),
    ((apart_second, h.replacing.tail'.apart b h.replacing.not_to), (h.replacing.tail'.apart s h.replacing.not_source, h.replacing.tail'.apart_self)),
  )

  naming : (q : ℕ) → naming_slots u q + one_where (names_file q old) ≡ naming_slots t q
  naming q =
      let x = naming_edited now t es are_apart q in
      let y : gained (names_of q) (Changed a c') ≡ count_by (names_file q) less = ap (λ k. count_by (names_file q) (slots_of k)) renamed_first.content in
      let z : gained (names_of q) (Changed b d') ≡ count_by (names_file q) more = ap (λ k. count_by (names_file q) (slots_of k)) renamed_second.content in
      let w : gained (names_of q) (Changed s (record f { content = with_parent b f.content })) ≡ named_in t s q =
      ap (count_by (names_file q)) (turned_content b f.content).slots ∙ sym (named_in_at t s q f h.source.there) in
      omega (
        arith,
        x,
        y,
        z,
        w,
        count_first q,
        count_second q,
        named_in_at t a q c h.first.there,
        named_in_at t b q d h.second.there,
        h.replacing.tail'.lost q,
        h.replacing.tail'.gained' q,
        sum_by-cons (λ e. named_in t (number_of e) q) (Changed a c') (Changed b d' ∷ Changed s (record f { content = with_parent b f.content }) ∷ tail),
        sum_by-cons (λ e. named_in t (number_of e) q) (Changed b d') (Changed s (record f { content = with_parent b f.content }) ∷ tail),
        sum_by-cons (λ e. named_in t (number_of e) q) (Changed s (record f { content = with_parent b f.content })) tail,
        sum_by-cons (gained (names_of q)) (Changed a c') (Changed b d' ∷ Changed s (record f { content = with_parent b f.content }) ∷ tail),
        sum_by-cons (gained (names_of q)) (Changed b d') (Changed s (record f { content = with_parent b f.content }) ∷ tail),
        sum_by-cons (gained (names_of q)) (Changed s (record f { content = with_parent b f.content })) tail,
      )

  -- a moved directory is named once, where it goes to
  due_once : (p : ℕ) → parent_at t s ≡ Some p → due t s ≡ 1
  due_once p is = elim (source_kind t s f h.source.there) [
    | inl file ↦ let e : ◌≡◌ {A = Option ℕ} None (Some p) = sym (file_parent t s f file) ∙ is in absurd cc
    | inr own ↦ dir_due t s f own.0 own.1 h.source.not_root
  ]

  once : (p : ℕ) → parent_at t s ≡ Some p → named_in u b s ≡ 1
  once p is =
      let x : named_in u b s ≡ count_by (names_file s) more = named_in_at u b s (changed_at now d') get_second ∙ ap (λ k. count_by (names_file s) (slots_of k)) renamed_second.content in
      let y : one_where (s == s) ≡ 1 = ap one_where (eq-eqb s s refl) in
      omega (
        arith,
        x,
        y,
        count_second s,
        h.replacing.old_other s h.replacing.not_source,
        named_in_at t b s d h.second.there,
        two_dirs t a b s h.apart,
        h.source.named,
        h.whole.named s,
        due_once p is,
      )

  shuffled : IsShuffled now t u a b s f Replaced left old
  shuffled = record {
    whole = h.whole;
    source = h.source;
    get_source = get_source;
    get_replaced = get_replaced;
    others = others;
    naming = naming;
    way = λ p is. inr (h.around p is);
    once = once;
  }

  -- the second directory is within the limits too
  roomy_second : (start : ℕ) → IsWithin t start es → (d'.links ≤ 32000) × (length (slots_of d'.content) ≤ 7650)
  roomy_second start w =
      let l = or_parts (nat_lt 32000 c'.links) (list_any is_linked_too_often (Changed b d' ∷ Changed s (record f { content = with_parent b f.content }) ∷ tail)) w.links in
      let k = or_parts (nat_lt 7650 (length (slots_of c'.content))) (list_any has_too_many_slots (Changed b d' ∷ Changed s (record f { content = with_parent b f.content }) ∷ tail)) w.slots in
      let l2 = or_parts (nat_lt 32000 d'.links) (list_any is_linked_too_often (Changed s (record f { content = with_parent b f.content }) ∷ tail)) l.1 in
      let k2 = or_parts (nat_lt 7650 (length (slots_of d'.content))) (list_any has_too_many_slots (Changed s (record f { content = with_parent b f.content }) ∷ tail)) k.1 in
      (ltb-false 32000 d'.links l2.0, ltb-false 7650 (length (slots_of d'.content)) k2.0)

  -- a RENAME from one directory to another, within the limits, leaves a file system
  pub across_good : (start : ℕ) → ArePassed (limits t start es) → IsGood u
  across_good start passed =
      let w = within_limits t start es passed in
      let room = roomy t start a c' (Changed b d' ∷ Changed s (record f { content = with_parent b f.content }) ∷ tail) w in
      let room2 = roomy_second start w in
      let own = renamed_own c c' less up (h.whole.own a c h.first.there) renamed_first take.names room.links room.slots in
      let own2 = renamed_own d d' more parent (h.whole.own b d h.second.there) renamed_second h.replacing.put.names room2.0 room2.1 in
      good_from_whole u (whole_edited now t start es h.whole are_apart (
        (subst IsSome (sym h.first.there) refl, own),
        (
          (subst IsSome (sym h.second.there) refl, own2),
          ((subst IsSome (sym h.source.there) refl, source_own b f (h.whole.own s f h.source.there)), h.replacing.tail'.apt),
        ),
      )
      w (moved_shaped t u b s Replaced (shuffled_moved now t u a b s f (slots_of d.content) e tail Replaced left old directory shuffled h.replacing)))
