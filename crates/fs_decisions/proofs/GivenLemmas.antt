-- The numbers that files have or had: a call forgets none, and among them only a freed one can be free.
use Rattle.std.proofs.Common.{◌≡◌, inl, inr, ℕ, zero, suc, ◌+◌, ◌-◌, ◌*◌, ◌<◌, ◌≤◌, Bool, true, false, List, [], ◌∷◌, map, Option, Some, None, refl, sym, ap, subst, ◌∙◌, arith}
use Rattle.std.specs.Prelude.{is_some, find, not, ◌&&◌, ◌||◌}
use Rattle.std.specs.Option.{option_map_or}
use Rattle.std.specs.FinMap.{get}
use Rattle.std.proofs.lemmas.Bool.{cases_eq}
use Rattle.sfs_base.proofs.MapLemmas.{get_inserted, get_past_insert, get_past_remove}
use Rattle.nfs_proto.specs.declared.call.Call.{Call}
use Rattle.nfs_proto.specs.declared.stamp.Stamp.{Stamp}
use Rattle.rpc_msg.specs.declared.cred.Cred.{Cred}
use Rattle.fs_rules.specs.declared.file.File.{File}
use Rattle.fs_rules.specs.declared.kept.Kept.{Kept}
use Rattle.fs_rules.specs.declared.plain_tree.PlainTree.{PlainTree}
use Rattle.fs_rules.specs.Lists.{below}
use Rattle.fs_rules.specs.Numbers.{number_of, is_free}
use Rattle.fs_rules.specs.Statuses.{Check}
use Rattle.fs_rules.specs.Edits.{Edit, Changed, Made, Freed, changed_at, edit, edited, first_made}
use Rattle.fs_rules.specs.Respond.{decided, respond}
use Rattle.fs_decisions.specs.Given.{is_given, AreGiven, AllAreGiven}
use Rattle.fs_decisions.proofs.NumberLemmas.{one_number, none_more, find_none}

-- ---- a call forgets no number

or_second : (a : Bool) → (a || true) ≡ true
or_second true = refl
or_second false = refl

-- by what stands at a number
module _ (a b : Option File) (c d : Option Kept) where
  stays : (is_some a || is_some c) ≡ true → b ≡ a → d ≡ c → (is_some b || is_some d) ≡ true
  stays is same kept = ap (λ (o : Option File). is_some o || is_some d) same ∙ ap (λ (o : Option Kept). is_some a || is_some o) kept ∙ is

lives : (f : File) (a : Option File) (c : Option Kept) → a ≡ Some f → (is_some a || is_some c) ≡ true
lives f a c is = ap (λ (o : Option File). is_some o || is_some c) is

-- a live file's number is given
pub given_live : (t : PlainTree) (n : ℕ) (f : File) → get t.files n ≡ Some f → is_given t n ≡ true
given_live t n f is = lives f (get t.files n) (get t.freed n) is

was : (k : Kept) (a : Option File) (c : Option Kept) → c ≡ Some k → (is_some a || is_some c) ≡ true
was k a c is = ap (λ (o : Option Kept). is_some a || is_some o) is ∙ or_second (is_some a)

given_edit : (now : Stamp) (t : PlainTree) (e : Edit) (q : ℕ) → is_given t q ≡ true → is_given (edit now t e) q ≡ true
given_edit now t (Changed n f) q is = elim (cases_eq q n) [
  | inl same ↦ lives (changed_at now f) _ _ (get_inserted t.files n (changed_at now f) q same)
  | inr other ↦ stays (get t.files q) _ (get t.freed q) _ is (get_past_insert t.files n (changed_at now f) q other) refl
]
given_edit now t (Made n f) q is = elim (cases_eq q n) [
  | inl same ↦ lives f _ _ (get_inserted t.files n f q same)
  | inr other ↦ stays (get t.files q) _ (get t.freed q) _ is (get_past_insert t.files n f q other) (get_past_remove t.freed n q other)
]
given_edit now t (Freed n f) q is = elim (cases_eq q n) [
  | inl same ↦ was (record { generation = f.generation; change = f.change + 1 }) _ _ (get_inserted t.freed n (record { generation = f.generation; change = f.change + 1 }) q same)
  | inr other ↦ stays (get t.files q) _ (get t.freed q) _ is (get_past_remove t.files n q other) (get_past_insert t.freed n (record { generation = f.generation; change = f.change + 1 }) q other)
]

given_edited : (now : Stamp) (t : PlainTree) (es : List Edit) (q : ℕ) → is_given t q ≡ true → is_given (edited now t es) q ≡ true
unfolding edited
given_edited now t [] q is = is
given_edited now t (e ∷ es) q is = given_edited now (edit now t e) es q (given_edit now t e q is)

-- the number of a file that is made is given
made_edited : (now : Stamp) (t : PlainTree) (es : List Edit) (n g : ℕ) → first_made es ≡ Some (n, g) → is_given (edited now t es) n ≡ true
unfolding edited first_made
made_edited now t [] n g made = absurd cc
made_edited now t (Changed m f ∷ es) n g made = made_edited now (edit now t (Changed m f)) es n g made
made_edited now t (Made m f ∷ es) n g made =
    let same : m ≡ n = ap (λ (o : Option (ℕ × ℕ)). option_map_or (λ p. p.0) o 0) made in
    given_edited now (edit now t (Made m f)) es n (lives f _ _ (get_inserted t.files m f n (sym same)))
made_edited now t (Freed m f ∷ es) n g made = made_edited now (edit now t (Freed m f)) es n g made

given_decided : (c : Check) (t : PlainTree) (call : Call) (now : Stamp) (es : List Edit) (q : ℕ) → is_given t q ≡ true → is_given (decided c t call now es).tree q ≡ true
given_decided (Some status) t call now es q is = is
given_decided None t call now es q is = given_edited now t es q is

made_decided : (c : Check) (t : PlainTree) (call : Call) (now : Stamp) (es : List Edit) (n g : ℕ) → (decided c t call now es).made ≡ Some (n, g) → is_given (decided c t call now es).tree n ≡ true
made_decided (Some status) t call now es n g made = absurd cc
made_decided None t call now es n g made = made_edited now t es n g made

module _ (t : PlainTree) (call : Call) (cred : Cred) (now : Stamp) (start : ℕ) where
  pub given_stays : (counts : List ℕ) → AllAreGiven t counts → AllAreGiven (respond t call cred now start).tree counts
  unfolding respond
  given_stays counts all memory i lt = given_decided _ t call now _ (number_of memory i) (all memory i lt)

  pub made_given : (n g : ℕ) → (respond t call cred now start).made ≡ Some (n, g) → is_given (respond t call cred now start).tree n ≡ true
  unfolding respond
  made_given n g made = made_decided _ t call now _ n g made

-- ---- among given numbers only a freed one is free

none_stands : (o : Option Kept) (a : Option File) → o ≡ None → (is_some a || is_some o) ≡ true → is_some a ≡ true
none_stands o None is given = absurd (let all : false ≡ true = sym (ap (λ (o : Option Kept). is_some o) is) ∙ given in cc)
none_stands o (Some f) is given = refl

by_live : (live b : Bool) → live ≡ true → (not live && b) ≡ false
by_live true b is = refl
by_live false b is = absurd cc

pub not_free : (t : PlainTree) (n : ℕ) → is_given t n ≡ true → get t.freed n ≡ None → is_free t n ≡ false
not_free t n given none = go (get t.files n) refl (none_stands (get t.freed n) (get t.files n) none given) where
  go : (a : Option File) → get t.files n ≡ a → is_some a ≡ true → is_free t n ≡ false
  go None is some = absurd cc
  go (Some f) is some = by_live (is_some (get t.files n)) _ (ap (λ (o : Option File). is_some o) is)

-- none of the numbers of a memory node up to a place
module _ (t : PlainTree) (memory : ℕ) where
  none_by : (d i : ℕ) → find (is_free t) (map (number_of memory) (below i)) ≡ None
      → ((k : ℕ) → i ≤ k → k < i + d → is_free t (number_of memory k) ≡ false)
      → find (is_free t) (map (number_of memory) (below (i + d))) ≡ None
  none_by zero i none each = subst (λ (k : ℕ). find (is_free t) (map (number_of memory) (below k)) ≡ None) (let same : i ≡ i + zero = omega arith in same) none
  none_by (suc d) i none each =
      subst (λ (k : ℕ). find (is_free t) (map (number_of memory) (below k)) ≡ None) (let same : i + d + 1 ≡ i + suc d = omega arith in same)
      (none_more (is_free t) (λ n. map (number_of memory) (below n)) (λ n. number_of memory n ∷ []) (one_number (number_of memory)) (i + d)
      (none_by d i none (λ k le lt. each k le (omega arith)))
      (find_none (is_free t) (number_of memory (i + d)) (each (i + d) (omega arith) (omega arith))))

  pub none_upto : (i j : ℕ) → i ≤ j → find (is_free t) (map (number_of memory) (below i)) ≡ None
      → ((k : ℕ) → i ≤ k → k < j → is_free t (number_of memory k) ≡ false)
      → find (is_free t) (map (number_of memory) (below j)) ≡ None
  none_upto i j le none each =
      subst (λ (k : ℕ). find (is_free t) (map (number_of memory) (below k)) ≡ None) (let same : i + (j - i) ≡ j = omega arith in same)
      (none_by (j - i) i none (λ k low lt. each k low (omega arith)))

  -- the next freed number
  pub upto_freed : (given i j : ℕ) → AreGiven t memory given → i ≤ j → j ≤ given → find (is_free t) (map (number_of memory) (below i)) ≡ None
      → ((q : ℕ) → 16384 * memory + 1 + i ≤ q → q < 16384 * memory + 1 + j → get t.freed q ≡ None)
      → find (is_free t) (map (number_of memory) (below j)) ≡ None
  upto_freed given i j all le few none least =
      none_upto i j le none (λ k low lt. not_free t (number_of memory k) (all k (omega arith)) (least (number_of memory k) (omega arith) (omega arith)))
