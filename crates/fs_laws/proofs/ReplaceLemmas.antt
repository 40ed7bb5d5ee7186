-- What a RENAME replaces, and what it moves.
use Rattle.std.proofs.Common.{◌≡◌, ◌≢◌, ℕ, zero, suc, ◌+◌, ◌-◌, ◌<◌, ◌≤◌, Bool, true, false, cond, List, [], ◌∷◌, ◌++◌, Option, Some, None, ◌⊎◌, inl, inr, refl, sym, ap, subst, ◌∙◌, arith}
use Rattle.std.specs.Prelude.{◌==◌, nat_lt, is_some, count_by, option_and_then}
use Rattle.std.specs.List.{list_any}
use Rattle.std.specs.Option.{option_map_or}
use Rattle.std.specs.FinMap as table
use Rattle.std.proofs.lemmas.Bool.{cases_eq, cases_Bool, or_parts, or_from, eq-eqb, ne_eqb, eqb-true, ltb-true, ltb-false}
use Rattle.std.proofs.lemmas.List.Sums.{sum_by-cons}
use Rattle.sfs_base.proofs.MapLemmas.{sum_remove, sum_has}
use Rattle.nfs_proto.specs.declared.stamp.Stamp.{Stamp}
use Rattle.fs_rules.specs.declared.content.Content.{Content}
use Rattle.fs_rules.specs.declared.content.Content.TheVariants.{Regular, Link, Directory}
use Rattle.fs_rules.specs.declared.entry.Entry.{Entry}
use Rattle.fs_rules.specs.declared.file.File.{File}
use Rattle.fs_rules.specs.declared.plain_tree.PlainTree.{PlainTree}
use Rattle.fs_rules.specs.Lists.{below}
use Rattle.fs_rules.specs.File.{slots_of, parent_of, is_directory}
use Rattle.fs_rules.specs.Slots.{put_name}
use Rattle.fs_rules.specs.Edits.{Edit, Changed, Freed, changed_at}
use Rattle.fs_rules.specs.Names.{unlinked, loses_link, with_parent, leads_to}
use Rattle.fs_rules.specs.Good.{IsName, IsStored, names_file, names_directory, naming_slots, parent_at, ancestor}
use Rattle.fs_laws.proofs.SumLemmas.{one_where}
use Rattle.fs_laws.proofs.WholeLemmas.{named_in, due_of, due, IsOwn, IsOwnContent, HasLinks, IsWhole}
use Rattle.fs_laws.proofs.EditLemmas.{get_left, number_of, after, gained, names_of, IsApt}
use Rattle.fs_laws.proofs.SlotLemmas.{IsAbsent, IsPut, put_new, put_over}
use Rattle.fs_laws.proofs.DirLemmas.{IsDir, dir_content, dir_names}
use Rattle.fs_laws.proofs.LinkLemmas.{IsPlain, plain_content, IsFile, file_apart, file_parent, file_names, file_none, file_due, IsNamedFile, IsEmptyDir, empty_none, dir_due, dir_parent}
use Rattle.fs_laws.proofs.MoveLemmas.{IsAround, IsTail}

-- ---- names of two directories

-- two directories name no more than the whole tree
pub two_dirs : (t : PlainTree) (a p q : ℕ) → a ≢ p → named_in t a q + named_in t p q ≤ naming_slots t q
two_dirs t a p q apart =
    let x = sum_remove (λ e. count_by (names_file q) (slots_of e.1.content)) t.files a in
    let y = sum_has (λ e. count_by (names_file q) (slots_of e.1.content)) (table.remove t.files a) p in
    let z : option_map_or (λ (f : File). count_by (names_file q) (slots_of f.content)) (table.get (table.remove t.files a) p) 0 ≡ named_in t p q =
    ap (λ (o : Option File). option_map_or (λ f. count_by (names_file q) (slots_of f.content)) o 0) (get_left t.files a p (λ same. apart (sym same))) in
    omega (arith, x, y, z)

-- a directory that is named in another lies in it
pub parent_named : (t : PlainTree) (a s p : ℕ) → IsWhole t → s ≢ 1 → parent_at t s ≡ Some p → 1 ≤ named_in t a s → due t s ≡ 1 → p ≡ a
parent_named t a s p whole other is named one = elim (cases_eq p a) [
  | inl same ↦ same
  | inr apart ↦ absurd (omega (arith, whole.inside s p other is, two_dirs t p a s apart, named, one, whole.named s))
]

-- and not in itself
stays_there : (t : PlainTree) (s moves : ℕ) → parent_at t s ≡ Some s → ancestor t moves s ≡ Some s
unfolding ancestor
stays_there t s zero is = refl
stays_there t s (suc moves) is = ap (option_and_then (ancestor t moves)) is ∙ stays_there t s moves is

pub not_own_parent : (t : PlainTree) (s p : ℕ) → IsWhole t → s ≢ 1 → parent_at t s ≡ Some p → p ≢ s
not_own_parent t s p whole other is same =
    let l = whole.leads s p is in
    let e : ◌≡◌ {A = Option ℕ} (Some s) (Some 1) = sym (stays_there t s l.0 (is ∙ ap Some same)) ∙ l.1 in
    other (let one : s ≡ 1 = cc in one)

-- ---- the file that is moved

pub record IsSource (t : PlainTree) (a s : ℕ) (f : File) : Type 0 where
  pub there : table.get t.files s ≡ Some f
  pub not_root : s ≢ 1
  pub named : 1 ≤ named_in t a s

-- what its content is with another parent
pub record IsTurned (b : ℕ) (c : Content) : Type 0 where
  pub slots : slots_of (with_parent b c) ≡ slots_of c
  pub kind : is_some (parent_of (with_parent b c)) ≡ is_some (parent_of c)
  pub parent : (p : ℕ) → parent_of c ≡ Some p → parent_of (with_parent b c) ≡ Some b
  pub none : parent_of c ≡ None → parent_of (with_parent b c) ≡ None
  pub due : (n : ℕ) (f g : File) → g.links ≡ f.links → due_of n g (with_parent b c) ≡ due_of n f c
  pub links : (t : PlainTree) (f g : File) → g.links ≡ f.links → HasLinks t f c → HasLinks t g (with_parent b c)
  pub own : (f g : File) → g.links ≡ f.links → g.size ≡ f.size → IsOwnContent f c → IsOwnContent g (with_parent b c)

pub turned_content : (b : ℕ) (c : Content) → IsTurned b c
turned_content b (Regular blocks) = record {
  slots = refl;
  kind = refl;
  parent = λ p is. absurd cc;
  none = λ is. refl;
  due = λ n f g same. same;
  links = λ t f g same h. tt;
  own = λ f g links size h. (subst (λ (s : ℕ). s ≤ 16711680) (sym size) h.0, subst (λ (s : ℕ). IsStored s blocks) (sym size) h.1, subst (λ (k : ℕ). 1 ≤ k) (sym links) h.2);
}
turned_content b (Directory slots parent) = record {
  slots = refl;
  kind = refl;
  parent = λ p is. refl;
  none = λ is. absurd cc;
  due = λ n f g same. refl;
  links = λ t f g same h. same ∙ h;
  own = λ f g links size h. (size ∙ h.0, h.1);
}
turned_content b (Link blocks) = record {
  slots = refl;
  kind = refl;
  parent = λ p is. absurd cc;
  none = λ is. refl;
  due = λ n f g same. same;
  links = λ t f g same h. tt;
  own = λ f g links size h. (subst (λ (s : ℕ). s ≤ 1024) (sym size) h.0, subst (λ (s : ℕ). IsStored s blocks) (sym size) h.1, subst (λ (k : ℕ). 1 ≤ k) (sym links) h.2);
}

-- a file is a directory, which has a parent, or is none
pub source_kind : (t : PlainTree) (s : ℕ) (f : File) → table.get t.files s ≡ Some f → IsFile t s f ⊎ ((p : ℕ) × IsDir t s f p)
source_kind t s f there = elim (cases_Bool (is_directory f.content)) [
  | inl yes' ↦ let c = dir_content f.content yes' in inr (c.0, record { there = there; content = c.1 })
  | inr none ↦ inl (record { there = there; plain = none })
]

-- the file that is moved is not the directory that names it
pub source_apart : (t : PlainTree) (a s : ℕ) (f d : File) (parent : ℕ) → IsWhole t → IsSource t a s f → IsDir t a d parent → s ≢ a
source_apart t a s f d parent whole source dir = elim (source_kind t s f source.there) [
  | inl file ↦ file_apart t s a f d parent file dir
  | inr own ↦ λ same.
      let is = dir_parent t s f own.0 own.1 in
      not_own_parent t s own.0 whole source.not_root is (parent_named t a s own.0 whole source.not_root is source.named (dir_due t s f own.0 own.1 source.not_root) ∙ sym same)
]

-- ---- ways around a file

list_any_append : (f : ℕ → Bool) (xs ys : List ℕ) → list_any f (xs ++ ys) ≡ false → (list_any f xs ≡ false) × (list_any f ys ≡ false)
list_any_append f [] ys h = (refl, h)
list_any_append f (x ∷ xs) ys h =
    let p = or_parts (f x) (list_any f (xs ++ ys)) h in
    let r = list_any_append f xs ys p.1 in
    (or_from (f x) (list_any f xs) p.0 r.0, r.1)

none_below : (f : ℕ → Bool) (n : ℕ) → list_any f (below n) ≡ false → (k : ℕ) → k < n → f k ≡ false
unfolding below
none_below f zero h k lt = absurd (omega arith)
none_below f (suc n) h k lt =
    let p = list_any_append f (below n) (n ∷ []) h in
    elim (cases_eq k n) [
      | inl at ↦ ap f at ∙ (or_parts (f n) false p.1).0
      | inr apart ↦ none_below f n p.0 k (omega arith)
    ]

leads_not : (t : PlainTree) (k b s : ℕ) → leads_to t k b s ≡ false → ancestor t k b ≢ Some s
leads_not t k b s h same =
    let e : leads_to t k b s ≡ true = ap (λ (o : Option ℕ). option_map_or (λ a. a == s) o false) same ∙ eq-eqb s s refl in
    let f : ◌≡◌ {A = Bool} true false = sym e ∙ h in
    absurd cc

leads_is : (t : PlainTree) (k b : ℕ) → leads_to t k b 1 ≡ true → ancestor t k b ≡ Some 1
leads_is t k b h = go (ancestor t k b) refl h where
  go : (o : Option ℕ) → ancestor t k b ≡ o → option_map_or (λ a. a == 1) o false ≡ true → o ≡ Some 1
  go None is e = absurd cc
  go (Some a) is e = ap Some (eqb-true a 1 e)

pub around_from_checks : (t : PlainTree) (moves b s : ℕ) → leads_to t moves b 1 ≡ true → list_any (λ k. leads_to t k b s) (below (moves + 1)) ≡ false → IsAround t b s
around_from_checks t moves b s root above = record {
  moves = moves;
  root = leads_is t moves b root;
  never = λ k le. leads_not t k b s (none_below (λ k. leads_to t k b s) (moves + 1) above k (omega arith));
}

-- ---- the file that is replaced

-- what a RENAME to a name of the directory b does where that name is there or not: what stood in its slot, the edits of the
-- replaced file and what they leave of it; s is moved there from a
pub record IsReplacing (now : Stamp) (t : PlainTree) (a b s : ℕ) (slots : List (Option Entry)) (e : Entry) (tail : List Edit) (Replaced : ℕ → Type 0) (left : Option File)
    (old : Option Entry) (directory : Bool) : Type 0 where
  pub put : IsPut slots e old (put_name slots e)
  pub tail' : IsTail now t tail Replaced left
  pub is_replaced : (q : ℕ) → Replaced q ⊎ (Replaced q → ⊥)
  pub old_other : (q : ℕ) → (Replaced q → ⊥) → one_where (names_file q old) ≡ 0
  pub old_here : (q : ℕ) → Replaced q → one_where (names_file q old) ≡ 1
  pub old_kind : one_where (names_directory t old) ≡ one_where directory
  pub none : (p q : ℕ) → Replaced p → named_in t p q ≡ 0
  pub not_root : Replaced 1 → ⊥
  pub not_source : Replaced s → ⊥
  pub not_from : Replaced a → ⊥
  pub not_to : Replaced b → ⊥
  pub left_parent : option_and_then (λ (f : File). parent_of f.content) left ≡ None
  pub left_due : (q : ℕ) → Replaced q → option_map_or (λ (f : File). due_of q f f.content) left 0 + 1 ≡ due t q
  pub left_links : (f : File) → left ≡ Some f → HasLinks t f f.content
  pub turned : (q : ℕ) → Replaced q → (false ≡ is_some (parent_at t q)) ⊎ (option_map_or (λ (f : File). due_of q f f.content) left 0 ≡ 0)

-- the second name is new
pub replacing_none : (now : Stamp) (t : PlainTree) (a b s : ℕ) (d : File) (parent : ℕ) (e : Entry) → IsWhole t → IsDir t b d parent → IsName e.name
    → IsAbsent (slots_of d.content) e.name → IsReplacing now t a b s (slots_of d.content) e [] (λ q. ⊥) None None false
replacing_none now t a b s d parent e whole dir name absent = record {
  put = put_new (slots_of d.content) e (dir_names t b d parent whole dir) name absent;
  tail' = record {
    keeps = λ q before stays. refl;
    leaves = λ q before gone. absurd gone;
    lost = λ q. refl;
    gained' = λ q. refl;
    apart = λ k stays. tt;
    apart_self = tt;
    apt = tt;
  };
  is_replaced = λ q. inr (λ gone. gone);
  old_other = λ q stays. refl;
  old_here = λ q gone. absurd gone;
  old_kind = refl;
  none = λ p q gone. absurd gone;
  not_root = λ gone. gone;
  not_source = λ gone. gone;
  not_from = λ gone. gone;
  not_to = λ gone. gone;
  left_parent = refl;
  left_due = λ q gone. absurd gone;
  left_links = λ f is. absurd cc;
  turned = λ q gone. absurd gone;
}

-- what one edit leaves
record IsOneTail (now : Stamp) (t : PlainTree) (r : ℕ) (x : Edit) (left : Option File) : Type 0 where
  number : number_of x ≡ r
  left' : after now x ≡ left
  none : (q : ℕ) → named_in t r q ≡ 0
  gains : (q : ℕ) → gained (names_of q) x ≡ 0
  apt : IsApt t x

one_tail : (now : Stamp) (t : PlainTree) (r : ℕ) (x : Edit) (left : Option File) → IsOneTail now t r x left → IsTail now t (x ∷ []) (λ q. q ≡ r) left
one_tail now t r x left h = record {
  keeps = λ q before stays. ap (λ b. cond b (after now x) before) (ne_eqb q (number_of x) (λ same. stays (same ∙ h.number)));
  leaves = λ q before gone. ap (λ b. cond b (after now x) before) (eq-eqb q (number_of x) (gone ∙ sym h.number)) ∙ h.left';
  lost = λ q. let a : named_in t (number_of x) q ≡ 0 = ap (λ k. named_in t k q) h.number ∙ h.none q in
      omega (arith, a, sum_by-cons (λ e. named_in t (number_of e) q) x []);
  gained' = λ q. omega (arith, h.gains q, sum_by-cons (gained (names_of q)) x []);
  apart = λ k stays. ((λ same. stays (sym same ∙ h.number)), tt);
  apart_self = (tt, tt);
  apt = (h.apt, tt);
}

-- a name that is there, of the file r
pub record IsOld (t : PlainTree) (a b s : ℕ) (d : File) (name : List ℕ) (r : ℕ) (f : File) : Type 0 where
  pub named : IsNamedFile t b d name r
  pub there : table.get t.files r ≡ Some f
  pub not_source : r ≢ s
  pub not_from : r ≢ a
  pub not_to : r ≢ b

module _ (now : Stamp) (t : PlainTree) (a b s : ℕ) (d : File) (parent : ℕ) (e : Entry) (r : ℕ) (f : File) (whole : IsWhole t) (dir : IsDir t b d parent) (name : IsName e.name)
    (old : IsOld t a b s d e.name r f) where
  entry_here : (q : ℕ) → q ≡ r → one_where (names_file q (Some old.named.here.entry)) ≡ 1
  entry_here q at = ap one_where (eq-eqb old.named.here.entry.file q (old.named.file ∙ sym at))

  entry_other : (q : ℕ) → (q ≡ r → ⊥) → one_where (names_file q (Some old.named.here.entry)) ≡ 0
  entry_other q apart = ap one_where (ne_eqb old.named.here.entry.file q (λ same. apart (sym same ∙ old.named.file)))

  entry_kind : one_where (names_directory t (Some old.named.here.entry)) ≡ one_where (is_some (parent_at t r))
  entry_kind = ap (λ k. one_where (is_some (parent_at t k))) old.named.file

  over : IsPut (slots_of d.content) e (Some old.named.here.entry) (put_name (slots_of d.content) e)
  over = put_over (slots_of d.content) e (dir_names t b d parent whole dir) name old.named.here

  -- a replaced file that keeps a name, or loses its last, or an empty directory that is freed
  replacing : (x : Edit) (left : Option File) (directory : Bool) → IsOneTail now t r x left → option_and_then (λ (f : File). parent_of f.content) left ≡ None
      → option_map_or (λ (g : File). due_of r g g.content) left 0 + 1 ≡ due t r → ((g : File) → left ≡ Some g → HasLinks t g g.content)
      → is_some (parent_at t r) ≡ directory → ((false ≡ directory) ⊎ (option_map_or (λ (g : File). due_of r g g.content) left 0 ≡ 0))
      → IsReplacing now t a b s (slots_of d.content) e (x ∷ []) (λ q. q ≡ r) left (Some old.named.here.entry) directory
  replacing x left directory tail left_parent left_due left_links kind turned = record {
    put = over;
    tail' = one_tail now t r x left tail;
    is_replaced = λ q. cases_eq q r;
    old_other = entry_other;
    old_here = entry_here;
    old_kind = entry_kind ∙ ap one_where kind;
    none = λ p q at. ap (λ k. named_in t k q) at ∙ tail.none q;
    not_root = λ at. old.named.not_root (sym at);
    not_source = λ at. old.not_source (sym at);
    not_from = λ at. old.not_from (sym at);
    not_to = λ at. old.not_to (sym at);
    left_parent = left_parent;
    left_due = λ q at. subst (λ k. option_map_or (λ (g : File). due_of k g g.content) left 0 + 1 ≡ due t k) (sym at) left_due;
    left_links = left_links;
    turned = λ q at. elim turned [
      | inl same ↦ inl (same ∙ sym (ap (λ k. is_some (parent_at t k)) at ∙ kind))
      | inr none ↦ inr (subst (λ k. option_map_or (λ (g : File). due_of k g g.content) left 0 ≡ 0) (sym at) none)
    ];
  }

  pub replacing_file : is_directory f.content ≡ false
      → (left : Option File) × IsReplacing now t a b s (slots_of d.content) e (loses_link r f ∷ []) (λ q. q ≡ r) left (Some old.named.here.entry) false
  replacing_file is = go (nat_lt 1 f.links) refl where
    file : IsFile t r f
    file = record { there = old.there; plain = is }

    plain : IsPlain f.content
    plain = plain_content f.content is

    own : IsOwn f
    own = whole.own r f old.there

    go : (c : Bool) → nat_lt 1 f.links ≡ c
        → (left : Option File) × IsReplacing now t a b s (slots_of d.content) e (cond c (Changed r (unlinked 1 f)) (Freed r f) ∷ []) (λ q. q ≡ r) left (Some old.named.here.entry) false
    go true two = (
      Some (changed_at now (unlinked 1 f)),
      replacing (Changed r (unlinked 1 f)) (Some (changed_at now (unlinked 1 f))) false
          (record {
            number = refl;
            left' = refl;
            none = λ q. file_none t r q f file;
            gains = λ q. file_names t r q f file;
            apt = (
              old.named.lives,
              record {
                mode = own.mode;
                links = omega (arith, own.links);
                content = plain.own f (unlinked 1 f) refl (omega (arith, ltb-true 1 f.links two)) own.content;
              },
            );
          })
          plain.parent
          (let k : due_of r (changed_at now (unlinked 1 f)) f.content ≡ f.links - 1 = plain.due r (changed_at now (unlinked 1 f)) in omega (arith, k, file_due t r f file, ltb-true 1 f.links two))
          (λ g same. let g_is : changed_at now (unlinked 1 f) ≡ g = cc in subst (λ h. HasLinks t h h.content) g_is (plain.links t (changed_at now (unlinked 1 f))))
          (ap is_some (file_parent t r f file))
          (inl refl),
    )
    go false one = (
      None,
      replacing (Freed r f) None false
          (record { number = refl; left' = refl; none = λ q. file_none t r q f file; gains = λ q. refl; apt = old.named.lives })
          refl
          (omega (arith, file_due t r f file, ltb-false 1 f.links one, plain.named f own.content))
          (λ g same. absurd cc)
          (ap is_some (file_parent t r f file))
          (inl refl),
    )

  pub replacing_dir : (up : ℕ) → IsEmptyDir t r f up → IsReplacing now t a b s (slots_of d.content) e (Freed r f ∷ []) (λ q. q ≡ r) None (Some old.named.here.entry) true
  replacing_dir up empty = replacing (Freed r f) None true
      (record { number = refl; left' = refl; none = λ q. empty_none t r q f up empty; gains = λ q. refl; apt = old.named.lives })
      refl
      (omega (arith, dir_due t r f up empty.dir old.named.not_root))
      (λ g same. absurd cc)
      (ap is_some (dir_parent t r f up empty.dir))
      (inr refl)
