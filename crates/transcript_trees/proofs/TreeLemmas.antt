-- The trees that are kept, where one more comes behind them.
use Rattle.std.proofs.Common.{◌≡◌, ℕ, zero, suc, ◌+◌, ◌-◌, ◌<◌, ◌≤◌, List, [], ◌∷◌, ◌++◌, length, drop, get_or, Option, Some, None, refl, sym, ap, ◌∙◌, subst, arith, length-append, length-drop}
use Rattle.std.specs.Prelude.{slice_get, slice_set, IfNone}
use Rattle.std.proofs.lemmas.List.{drop-append-le}
use Rattle.fs_rules.specs.declared.plain_tree.PlainTree.{PlainTree}
use Rattle.nfs_service.specs.Reply.{Effect}
use Rattle.fs_tree.specs.declared.response.Change.{Change}
use Rattle.arrival_outcome.specs.declared.outcome.Outcome.{Outcome}
use Rattle.arrival_outcome.specs.Outcome.{ComesTo}
use Rattle.transcript_trees.specs.declared.trees.Trees.{Trees}
use Rattle.transcript_trees.specs.Trees.{AreKept}

suc_on : (n i : ℕ) → suc n + i ≡ suc (n + i)
suc_on n i = omega arith

zero_on : (i : ℕ) → 0 + i ≡ i
zero_on i = omega arith

next_get : {Y : Type 0} → (y : Y) (ys : List Y) (k m : ℕ) → k ≡ suc m → slice_get (y ∷ ys) k ≡ slice_get ys m
next_get y ys k m is = ap (slice_get (y ∷ ys)) is

next_drop : {Y : Type 0} → (y : Y) (ys : List Y) (k j : ℕ) → k ≡ suc j → drop k (y ∷ ys) ≡ drop j ys
next_drop y ys k j is = ap (λ i. drop i (y ∷ ys)) is

none_left : {Y : Type 0} → (k : ℕ) → [] ≡ drop {A = Y} k []
none_left zero = refl
none_left (suc k) = refl

pub get_dropped : {X : Type 0} → (n : ℕ) (xs : List X) (i : ℕ) → slice_get (drop n xs) i ≡ slice_get xs (n + i)
get_dropped zero xs i = ap (slice_get xs) (sym (zero_on i))
get_dropped (suc n) [] i = refl
get_dropped (suc n) (x ∷ xs) i = get_dropped n xs i ∙ sym (next_get x xs (suc n + i) (n + i) (suc_on n i))

pub dropped_again : {X : Type 0} → (m n : ℕ) (xs : List X) → drop m (drop n xs) ≡ drop (n + m) xs
dropped_again m zero xs = ap (λ k. drop k xs) (sym (zero_on m))
dropped_again zero (suc n) [] = none_left (suc n + zero)
dropped_again (suc m) (suc n) [] = none_left (suc n + suc m)
dropped_again m (suc n) (x ∷ xs) = dropped_again m n xs ∙ sym (next_drop x xs (suc n + m) (n + m) (suc_on n m))

pub set_same : {X : Type 0} → (xs : List X) (i : ℕ) (x : X) → slice_get xs i ≡ Some x → slice_set xs i x ≡ xs
set_same [] i x at = refl
set_same (y ∷ xs) zero x at = let same : x ≡ y = cc in ap (λ z. z ∷ xs) same
set_same (y ∷ xs) (suc i) x at = ap (λ zs. y ∷ zs) (set_same xs i x at)

by_change : (old new : PlainTree) (c : Option Change) → IfNone c (new ≡ old) → c ≡ None → new ≡ old
by_change old new None is none = is
by_change old new (Some c) is none = absurd (cc none)

-- what changes nothing leaves the tree
pub unchanged_is : (old new : PlainTree) (o : Outcome) (e : Option Effect) → ComesTo old new o e → o.change ≡ None → new ≡ old
unchanged_is old new o None comes none = comes.2
unchanged_is old new o (Some e) comes none = by_change old new o.change comes.2.unchanged none

-- a tree behind those that are kept
pub kept_more : (trees : List PlainTree) (kept : List PlainTree) (oldest passed : ℕ) (x : PlainTree) → kept ≡ drop oldest trees → oldest < length trees
    → drop passed (kept ++ x ∷ []) ≡ drop (oldest + passed) (trees ++ x ∷ [])
kept_more trees kept oldest passed x is last =
    ap (λ ts. drop passed (ts ++ x ∷ [])) is ∙ ap (drop passed) (sym (drop-append-le oldest trees (x ∷ []) (omega (arith, last))))
    ∙ dropped_again passed oldest (trees ++ x ∷ [])

pub last_kept : (trees : List PlainTree) (kept : List PlainTree) (oldest : ℕ) (x : PlainTree) → kept ≡ drop oldest trees → oldest < length trees
    → slice_get kept (length kept - 1) ≡ Some x → slice_get trees (length trees - 1) ≡ Some x
last_kept trees kept oldest x is last at =
    let many : length kept ≡ length trees - oldest = ap length is ∙ length-drop oldest trees in
    ap (slice_get trees) (omega (arith, many, last)) ∙ sym (get_dropped oldest trees (length kept - 1)) ∙ ap (λ ts. slice_get ts (length kept - 1)) (sym is) ∙ at

only_last : (ts : List PlainTree) (x : PlainTree) → x ∷ [] ≡ drop (length ts) (ts ++ x ∷ [])
only_last [] x = refl
only_last (t ∷ ts) x = only_last ts x

pub alone_kept : (trees : List PlainTree) (kept : List PlainTree) (oldest : ℕ) (x : PlainTree) → kept ≡ drop oldest trees → oldest < length trees
    → x ∷ [] ≡ drop (oldest + length kept) (trees ++ x ∷ [])
alone_kept trees kept oldest x is last =
    let many : length kept ≡ length trees - oldest = ap length is ∙ length-drop oldest trees in
    only_last trees x ∙ ap (λ n. drop n (trees ++ x ∷ [])) (omega (arith, many, last))

-- the tree at a place of those that are kept
pub answered_at : (trees kept : List PlainTree) (oldest at : ℕ) (x : PlainTree) → kept ≡ drop oldest trees → oldest ≤ at → slice_get kept (at - oldest) ≡ Some x → slice_get trees at ≡ Some x
answered_at trees kept oldest at x is low there =
    ap (slice_get trees) (omega (arith, low)) ∙ sym (get_dropped oldest trees (at - oldest)) ∙ ap (λ (ts : List PlainTree). slice_get ts (at - oldest)) (sym is) ∙ there

drop_set_at : (y : PlainTree) (xs : List PlainTree) (x : PlainTree) → drop (length xs) (slice_set (y ∷ xs) (length xs) x) ≡ x ∷ []
drop_set_at y [] x = refl
drop_set_at y (z ∷ xs) x = drop_set_at z xs x

pub drop_set_last : (xs : List PlainTree) (x : PlainTree) → 0 < length xs → drop (length xs - 1) (slice_set xs (length xs - 1) x) ≡ x ∷ []
drop_set_last [] x some = absurd (omega (arith, some))
drop_set_last (y ∷ xs) x some = ap (λ n. drop n (slice_set (y ∷ xs) n x)) (one_less (length xs)) ∙ drop_set_at y xs x where
  one_less : (n : ℕ) → suc n - 1 ≡ n
  one_less n = omega arith
