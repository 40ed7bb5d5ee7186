-- What edits leave: which files there are, what is summed over them, and what holds of each.
use Rattle.std.proofs.Common.{◌≡◌, ◌≢◌, ℕ, ◌+◌, ◌*◌, ◌≤◌, true, false, cond, List, [], ◌∷◌, Option, Some, None, inl, inr, refl, sym, ap, subst, ◌∙◌, arith}
use Rattle.std.specs.Prelude.{◌==◌, IsSome, is_none, ◌&&◌, sum_by, count_by, if◌then◌else◌}
use Rattle.std.specs.List.{AllByRecursion, list_any}
use Rattle.std.specs.Option.{option_map_or}
use Rattle.std.specs.Ordering.{nat_cmp, eq_by_cmp}
use Rattle.std.specs.Cmp.{nat_cmp_total}
use Rattle.std.specs.FinMap as table
use Rattle.std.specs.FinMap.{FinMap, get-insert, get-remove}
use Rattle.std.proofs.lemmas.Bool.{cases_eq, eq-eqb, ne_eqb, ltb-false}
use Rattle.std.proofs.lemmas.Bool.Decides.{nat_tests}
use Rattle.std.proofs.lemmas.List.Sums.{sum_by-cons}
use Rattle.sfs_base.proofs.MapLemmas.{sum_insert, sum_remove}
use Rattle.nfs_proto.specs.declared.stamp.Stamp.{Stamp}
use Rattle.fs_rules.specs.declared.content.Content.{Content}
use Rattle.fs_rules.specs.declared.content.Content.TheVariants.{Regular, Link, Directory}
use Rattle.fs_rules.specs.declared.file.File.{File}
use Rattle.fs_rules.specs.declared.kept.Kept.{Kept}
use Rattle.fs_rules.specs.declared.plain_tree.PlainTree.{PlainTree}
use Rattle.fs_rules.specs.File.{used, slots_of}
use Rattle.fs_rules.specs.Numbers.{IsNumber, used_in_all, free_blocks, first_free}
use Rattle.fs_rules.specs.Edits.{Edit, Changed, Made, Freed, changed_at, edit, edited, used_at, rise, limits, is_linked_too_often, has_too_many_slots, is_made}
use Rattle.fs_rules.specs.Good.{IsGoodKept, names_file, naming_slots}
use Rattle.fs_laws.proofs.StatusLemmas.{ArePassed, not_so}
use Rattle.fs_laws.proofs.WholeLemmas.{IsOwn, IsOwnContent, named_in, some_of}

-- ---- maps from numbers

module _ {X : Type 0} (m : FinMap nat_cmp X) (k : ℕ) where
  same_cmp : eq_by_cmp nat_cmp k k ≡ true
  same_cmp = grind (arith, nat_tests)

  apart_cmp : (q : ℕ) → q ≢ k → eq_by_cmp nat_cmp q k ≡ false
  apart_cmp q apart = grind (arith, nat_tests)

  pub get_here : (v : X) → table.get (table.insert m k v) k ≡ Some v
  get_here v = get-insert nat_cmp_total m k v k ∙ ap (λ b. cond b (Some v) (table.get m k)) same_cmp

  pub get_apart : (v : X) (q : ℕ) → q ≢ k → table.get (table.insert m k v) q ≡ table.get m q
  get_apart v q apart = get-insert nat_cmp_total m k v q ∙ ap (λ b. cond b (Some v) (table.get m q)) (apart_cmp q apart)

  pub get_gone : table.get (table.remove m k) k ≡ None
  get_gone = get-remove nat_cmp_total m k k ∙ ap (λ b. cond b None (table.get m k)) same_cmp

  pub get_left : (q : ℕ) → q ≢ k → table.get (table.remove m k) q ≡ table.get m q
  get_left q apart = get-remove nat_cmp_total m k q ∙ ap (λ b. cond b None (table.get m q)) (apart_cmp q apart)

-- ---- the files that there are

-- the number of the file that an edit changes
abbrev pub number_of : Edit → ℕ
number_of (Changed n f) = n
number_of (Made n f) = n
number_of (Freed n f) = n

-- what it leaves there
abbrev pub after : Stamp → Edit → Option File
after now (Changed n f) = Some (changed_at now f)
after now (Made n f) = Some f
after now (Freed n f) = None

-- what edits leave at a number where this was there
abbrev pub there_after : Stamp → List Edit → ℕ → Option File → Option File
there_after now [] q before = before
there_after now (e ∷ es) q before = there_after now es q (if q == number_of e then after now e else before)

get_edit : (now : Stamp) (t : PlainTree) (e : Edit) (q : ℕ) → table.get (edit now t e).files q ≡ cond (q == number_of e) (after now e) (table.get t.files q)
get_edit now t (Changed n f) q = elim (cases_eq q n) [
  | inl same ↦ ap (table.get (table.insert t.files n (changed_at now f))) same ∙ get_here t.files n (changed_at now f)
      ∙ sym (ap (λ b. cond b (Some (changed_at now f)) (table.get t.files q)) (eq-eqb q n same))
  | inr apart ↦ get_apart t.files n (changed_at now f) q apart ∙ sym (ap (λ b. cond b (Some (changed_at now f)) (table.get t.files q)) (ne_eqb q n apart))
]
get_edit now t (Made n f) q = elim (cases_eq q n) [
  | inl same ↦ ap (table.get (table.insert t.files n f)) same ∙ get_here t.files n f ∙ sym (ap (λ b. cond b (Some f) (table.get t.files q)) (eq-eqb q n same))
  | inr apart ↦ get_apart t.files n f q apart ∙ sym (ap (λ b. cond b (Some f) (table.get t.files q)) (ne_eqb q n apart))
]
get_edit now t (Freed n f) q = elim (cases_eq q n) [
  | inl same ↦ ap (table.get (table.remove t.files n)) same ∙ get_gone t.files n ∙ sym (ap (λ b. cond b None (table.get t.files q)) (eq-eqb q n same))
  | inr apart ↦ get_left t.files n q apart ∙ sym (ap (λ b. cond b None (table.get t.files q)) (ne_eqb q n apart))
]

pub get_edited : (now : Stamp) (t : PlainTree) (es : List Edit) (q : ℕ) → table.get (edited now t es).files q ≡ there_after now es q (table.get t.files q)
unfolding edited
get_edited now t [] q = refl
get_edited now t (e ∷ es) q = get_edited now (edit now t e) es q ∙ ap (there_after now es q) (get_edit now t e q)

get_edit_apart : (now : Stamp) (t : PlainTree) (e : Edit) (q : ℕ) → q ≢ number_of e → table.get (edit now t e).files q ≡ table.get t.files q
get_edit_apart now t e q apart = get_edit now t e q ∙ ap (λ b. cond b (after now e) (table.get t.files q)) (ne_eqb q (number_of e) apart)

geometry_edit : (now : Stamp) (t : PlainTree) (e : Edit) → (edit now t e).geometry ≡ t.geometry
geometry_edit now t (Changed n f) = refl
geometry_edit now t (Made n f) = refl
geometry_edit now t (Freed n f) = refl

pub geometry_edited : (now : Stamp) (t : PlainTree) (es : List Edit) → (edited now t es).geometry ≡ t.geometry
unfolding edited
geometry_edited now t [] = refl
geometry_edited now t (e ∷ es) = geometry_edited now (edit now t e) es ∙ geometry_edit now t e

-- edits of files with different numbers
abbrev pub IsApart : Edit → List Edit → Type 0
IsApart e es = AllByRecursion (λ d. number_of d ≢ number_of e) es

abbrev pub AreApart : List Edit → Type 0
AreApart [] = Unit {0}
AreApart (e ∷ es) = IsApart e es × AreApart es

-- ---- sums over all files

module _ (count : Content → ℕ) where
  -- what all files count, and what the file with a number does
  abbrev pub total : PlainTree → ℕ
  total t = sum_by (λ e. count e.1.content) (table.entries t.files)

  abbrev pub counted : PlainTree → ℕ → ℕ
  counted t n = option_map_or (λ f. count f.content) (table.get t.files n) 0

  abbrev pub gained : Edit → ℕ
  gained (Changed n f) = count f.content
  gained (Made n f) = count f.content
  gained (Freed n f) = 0

  total_edit : (now : Stamp) (t : PlainTree) (e : Edit) → total (edit now t e) + counted t (number_of e) ≡ total t + gained e
  total_edit now t (Changed n f) = sum_insert (λ e. count e.1.content) t.files n (changed_at now f)
  total_edit now t (Made n f) = sum_insert (λ e. count e.1.content) t.files n f
  total_edit now t (Freed n f) = omega (arith, sum_remove (λ e. count e.1.content) t.files n)

  counted_apart : (now : Stamp) (t : PlainTree) (e : Edit) (es : List Edit) → IsApart e es
      → sum_by (λ d. counted (edit now t e) (number_of d)) es ≡ sum_by (λ d. counted t (number_of d)) es
  counted_apart now t e [] apart = refl
  counted_apart now t e (d ∷ es) apart =
      let here : counted (edit now t e) (number_of d) ≡ counted t (number_of d) =
      ap (λ (o : Option File). option_map_or (λ f. count f.content) o 0) (get_edit_apart now t e (number_of d) apart.0) in
      omega (arith, here, counted_apart now t e es apart.1, sum_by-cons (λ d. counted (edit now t e) (number_of d)) d es, sum_by-cons (λ d. counted t (number_of d)) d es)

  -- what edits change of a sum
  pub total_edited : (now : Stamp) (t : PlainTree) (es : List Edit) → AreApart es
      → total (edited now t es) + sum_by (λ e. counted t (number_of e)) es ≡ total t + sum_by gained es
  unfolding edited
  total_edited now t [] apart = refl
  total_edited now t (e ∷ es) apart = omega (
    arith,
    total_edit now t e,
    total_edited now (edit now t e) es apart.1,
    counted_apart now t e es apart.0,
    sum_by-cons (λ d. counted t (number_of d)) e es,
    sum_by-cons gained e es,
  )

-- ---- blocks

rise_one : (t : PlainTree) (e : Edit) → gained used e ≤ rise t e + used_at t (number_of e)
rise_one t (Changed n f) = omega arith
rise_one t (Made n f) = omega arith
rise_one t (Freed n f) = omega arith

rise_all : (t : PlainTree) (es : List Edit) → sum_by (gained used) es ≤ sum_by (rise t) es + sum_by (λ e. used_at t (number_of e)) es
rise_all t [] = omega arith
rise_all t (e ∷ es) =
    omega (arith, rise_one t e, rise_all t es, sum_by-cons (gained used) e es, sum_by-cons (rise t) e es, sum_by-cons (λ d. used_at t (number_of d)) e es)

-- the blocks in use rise by no more than the edits say
pub used_edited : (now : Stamp) (t : PlainTree) (es : List Edit) → AreApart es → used_in_all (edited now t es) ≤ used_in_all t + sum_by (rise t) es
used_edited now t es apart = omega (arith, total_edited used now t es apart, rise_all t es)

-- ---- names

-- how many slots of a content name the file n
abbrev pub names_of : ℕ → Content → ℕ
names_of n c = count_by (names_file n) (slots_of c)

pub naming_edited : (now : Stamp) (t : PlainTree) (es : List Edit) → AreApart es → (q : ℕ)
    → naming_slots (edited now t es) q + sum_by (λ e. named_in t (number_of e) q) es ≡ naming_slots t q + sum_by (gained (names_of q)) es
naming_edited now t es apart q = total_edited (names_of q) now t es apart

-- ---- the limits

pub record IsWithin (t : PlainTree) (start : ℕ) (es : List Edit) : Type 0 where
  pub links : list_any is_linked_too_often es ≡ false
  pub slots : list_any has_too_many_slots es ≡ false
  pub free : (list_any is_made es && is_none (first_free t start)) ≡ false
  pub blocks : sum_by (rise t) es ≤ free_blocks t

pub within_limits : (t : PlainTree) (start : ℕ) (es : List Edit) → ArePassed (limits t start es) → IsWithin t start es
unfolding limits
within_limits t start es passed = record {
  links = not_so 28 _ passed.1.0;
  slots = not_so 28 _ passed.1.1.0;
  free = not_so 28 _ passed.1.1.1.0;
  blocks = ltb-false (free_blocks t) (sum_by (rise t) es) (not_so 28 _ passed.1.1.1.1.0);
}

pub fits_edited : (now : Stamp) (t : PlainTree) (start : ℕ) (es : List Edit) → AreApart es → IsWithin t start es
    → used_in_all t ≤ t.geometry.memories * t.geometry.blocks → used_in_all (edited now t es) ≤ t.geometry.memories * t.geometry.blocks
fits_edited now t start es apart within fits = omega (arith, used_edited now t es apart, within.blocks)

-- ---- what holds of each file

-- an edit that is apt: a live file becomes one that is in order in itself, or one is made at a number of the cluster
abbrev pub IsApt : PlainTree → Edit → Type 0
IsApt t (Changed n f) = IsSome (table.get t.files n) × IsOwn f
IsApt t (Made n f) = IsNumber t.geometry n × IsOwn f
IsApt t (Freed n f) = IsSome (table.get t.files n)

pub record IsStock (t : PlainTree) : Type 0 where
  pub numbers : (n : ℕ) (f : File) → table.get t.files n ≡ Some f → IsNumber t.geometry n
  pub own : (n : ℕ) (f : File) → table.get t.files n ≡ Some f → IsOwn f
  pub freed : (n : ℕ) (k : Kept) → table.get t.freed n ≡ Some k → IsGoodKept t n k

apt_edit : (now : Stamp) (t : PlainTree) (e d : Edit) → number_of d ≢ number_of e → IsApt t d → IsApt (edit now t e) d
apt_edit now t e (Changed n f) apart h = (subst IsSome (sym (get_edit_apart now t e n apart)) h.0, h.1)
apt_edit now t e (Made n f) apart h = (subst (λ g. IsNumber g n) (sym (geometry_edit now t e)) h.0, h.1)
apt_edit now t e (Freed n f) apart h = subst IsSome (sym (get_edit_apart now t e n apart)) h

apt_all : (now : Stamp) (t : PlainTree) (e : Edit) (es : List Edit) → IsApart e es → AllByRecursion (IsApt t) es → AllByRecursion (IsApt (edit now t e)) es
apt_all now t e [] apart h = tt
apt_all now t e (d ∷ es) apart h = (apt_edit now t e d apart.0 h.0, apt_all now t e es apart.1 h.1)

-- what holds of all that a map has, and of what is put into it
pub put_holds : {X : Type 0} (P : ℕ → X → Type 0) (m : FinMap nat_cmp X) (k : ℕ) (v : X) → ((n : ℕ) (f : X) → table.get m n ≡ Some f → P n f) → P k v
    → (n : ℕ) (f : X) → table.get (table.insert m k v) n ≡ Some f → P n f
put_holds P m k v all new n f is = elim (cases_eq n k) [
  | inl same ↦
      let e : ◌≡◌ {A = Option _} (Some v) (Some f) = sym (get_here m k v) ∙ ap (table.get (table.insert m k v)) (sym same) ∙ is in
      let v_is : v ≡ f = cc in
      subst (λ (x : ℕ). P x f) (sym same) (subst (P k) v_is new)
  | inr apart ↦ all n f (sym (get_apart m k v n apart) ∙ is)
]

-- and what is taken from it
pub left_holds : {X : Type 0} (P : ℕ → X → Type 0) (m : FinMap nat_cmp X) (k : ℕ) → ((n : ℕ) (f : X) → n ≢ k → table.get m n ≡ Some f → P n f)
    → (n : ℕ) (f : X) → table.get (table.remove m k) n ≡ Some f → P n f
left_holds P m k all n f is = elim (cases_eq n k) [
  | inl same ↦ absurd (let e : ◌≡◌ {A = Option _} None (Some f) = sym (get_gone m k) ∙ ap (table.get (table.remove m k)) (sym same) ∙ is in cc)
  | inr apart ↦ all n f apart (sym (get_left m k n apart) ∙ is)
]

own_changed : (now : Stamp) (f : File) → IsOwn f → IsOwn (changed_at now f)
own_changed now f own = record { mode = own.mode; links = own.links; content = own_content f f.content own.content } where
  own_content : (f : File) (c : Content) → IsOwnContent f c → IsOwnContent (changed_at now f) c
  own_content f (Regular blocks) h = h
  own_content f (Directory slots parent) h = h
  own_content f (Link blocks) h = h

-- a live number is not among the free ones
kept_apart : (t : PlainTree) (n k : ℕ) → IsSome (table.get t.files n) → table.get t.files k ≡ None → k ≢ n
kept_apart t n k live free same = let e : IsSome {T = File} None = subst IsSome (sym (ap (table.get t.files) same) ∙ free) live in absurd cc

number_there : (t : PlainTree) (n : ℕ) → IsStock t → IsSome (table.get t.files n) → IsNumber t.geometry n
number_there t n stock live = let f = some_of (table.get t.files n) live in stock.numbers n f.0 f.1

stock_edit : (now : Stamp) (t : PlainTree) (e : Edit) → IsStock t → IsApt t e → IsStock (edit now t e)
stock_edit now t (Changed n f) stock apt = record {
  numbers = put_holds (λ n f. IsNumber t.geometry n) t.files n (changed_at now f) stock.numbers (number_there t n stock apt.0);
  own = put_holds (λ n f. IsOwn f) t.files n (changed_at now f) stock.own (own_changed now f apt.1);
  freed = λ q k is. let g = stock.freed q k is in record {
    number = g.number;
    free = get_apart t.files n (changed_at now f) q (kept_apart t n q apt.0 g.free) ∙ g.free;
    more = g.more;
  };
}
stock_edit now t (Made n f) stock apt = record {
  numbers = put_holds (λ n f. IsNumber t.geometry n) t.files n f stock.numbers apt.0;
  own = put_holds (λ n f. IsOwn f) t.files n f stock.own apt.1;
  freed = left_holds (IsGoodKept (edit now t (Made n f))) t.freed n (λ q k apart is. let g = stock.freed q k is in record {
    number = g.number;
    free = get_apart t.files n f q apart ∙ g.free;
    more = g.more;
  });
}
stock_edit now t (Freed n f) stock apt = record {
  numbers = left_holds (λ n f. IsNumber t.geometry n) t.files n (λ q g apart is. stock.numbers q g is);
  own = left_holds (λ n f. IsOwn f) t.files n (λ q g apart is. stock.own q g is);
  freed = put_holds (IsGoodKept (edit now t (Freed n f))) t.freed n (record { generation = f.generation; change = f.change + 1 })
      (λ q k is. let g = stock.freed q k is in record {
        number = g.number;
        free = get_left t.files n q (kept_apart t n q apt g.free) ∙ g.free;
        more = g.more;
      })
      (record { number = number_there t n stock apt; free = get_gone t.files n; more = λ none zero'. omega arith });
}

pub stock_edited : (now : Stamp) (t : PlainTree) (es : List Edit) → AreApart es → AllByRecursion (IsApt t) es → IsStock t → IsStock (edited now t es)
unfolding edited
stock_edited now t [] apart apt stock = stock
stock_edited now t (e ∷ es) apart apt stock =
    stock_edited now (edit now t e) es apart.1 (apt_all now t e es apart.0 apt.1) (stock_edit now t e stock apt.0)
