-- The limits where a file is made.
use Rattle.std.proofs.Common.{◌≡◌, ℕ, zero, suc, ◌+◌, ◌-◌, ◌*◌, ◌/◌, ◌%◌, ◌^◌, ◌<◌, ◌≤◌, ◌⊎◌, inl, inr, Bool, true, false, cond, eqb, ltb, not, ◌&&◌, List, [], ◌∷◌, ◌++◌, map, length, Option, Some, None, refl, sym, ap, subst, ◌∙◌, arith}
use Rattle.std.specs.Prelude.{find, flat_map, is_some, is_none, sum_by, ◌||◌, nat_lt}
use Rattle.std.specs.Option.{option_map_or}
use Rattle.std.specs.FinMap.{get}
use Rattle.std.proofs.Math.Nat.{mod-lt, mod-add-div'}
use Rattle.std.proofs.lemmas.Nat.{mod-mul-add}
use Rattle.std.proofs.lemmas.Bool.{and_parts, cases_lt}
use Rattle.std.proofs.lemmas.Bool.Decides.{nat_tests}
use Rattle.std.proofs.lemmas.List.Sums.{sum_by-cons}
use Rattle.fs_rules.specs.declared.geometry.Geometry.{Geometry}
use Rattle.fs_rules.specs.declared.file.File.{File}
use Rattle.fs_rules.specs.declared.plain_tree.PlainTree.{PlainTree}
use Rattle.fs_rules.specs.File.{used, slots_of}
use Rattle.fs_rules.specs.Geometry.{IsWithinLimits}
use Rattle.fs_rules.specs.Lists.{below}
use Rattle.fs_rules.specs.Numbers.{number_of, IsNumber, is_free, kept_at, numbers_of, first_free, free_blocks}
use Rattle.fs_rules.specs.Statuses.{first_failure, fbig, nospc}
use Rattle.fs_rules.specs.Edits.{Changed, Made, limits, rise, used_at}
use Rattle.fs_laws.proofs.NumberLemmas.{IsFreeNumber, first_free_holds}
use Rattle.fs_decisions.specs.Limits.{is_number, is_pick, used_by, made_limits}
use Rattle.fs_decisions.proofs.NumberLemmas.{find_behind, one_number, one_node}

-- ---- where no number is free

-- a search without success in two lists found none in either
no_find_front : {X : Type 0} (p : X → Bool) (xs ys : List X) → find p (xs ++ ys) ≡ None → find p xs ≡ None
no_find_front p [] ys none = refl
no_find_front p (x ∷ xs) ys none =
    elim (p x) as (λ b. cond b (Some x) (find p (xs ++ ys)) ≡ None → cond b (Some x) (find p xs) ≡ None) [
      | true ↦ λ is. absurd cc
      | false ↦ λ is. no_find_front p xs ys is
    ] none

no_find_back : {X : Type 0} (p : X → Bool) (xs ys : List X) → find p (xs ++ ys) ≡ None → find p ys ≡ None
no_find_back p xs ys none = sym (find_behind p xs ys (no_find_front p xs ys none)) ∙ none

no_find_one : {X : Type 0} (p : X → Bool) (x : X) → find p (x ∷ []) ≡ None → p x ≡ false
no_find_one p x none =
    elim (p x) as (λ b. cond b (Some x) None ≡ None → b ≡ false) [
      | true ↦ λ is. absurd cc
      | false ↦ λ is. refl
    ] none

-- none of the parts of a list that grows part by part has one
none_in_part : {X : Type 0} (p : X → Bool) (all part : ℕ → List X) → ((n : ℕ) → all (suc n) ≡ all n ++ part n) → (n k : ℕ) → k < n → find p (all n) ≡ None → find p (part k) ≡ None
none_in_part p all part step zero k lt none = absurd (omega (arith, lt))
none_in_part p all part step (suc n) k lt none = go (cases_lt k n) (ap (find p) (sym (step n)) ∙ none) (none_in_part p all part step n k) where
  go : (k < n) ⊎ (n ≤ k) → find p (all n ++ part n) ≡ None → (k < n → find p (all n) ≡ None → find p (part k) ≡ None) → find p (part k) ≡ None
  go (inl less) both earlier = earlier less (no_find_front p (all n) (part n) both)
  go (inr least) both earlier = subst (λ (i : ℕ). find p (part i) ≡ None) (let same : n ≡ k = omega (arith, lt, least) in same) (no_find_back p (all n) (part n) both)

-- the memory nodes in a circle: one of them stands at some place behind each
record IsAt (start m memory : ℕ) : Type 0 where
  place : ℕ
  within : place < m
  is : (start + place) % m ≡ memory

at_of : (start m memory : ℕ) → memory < m → IsAt start m memory
at_of start m memory lt =
    let s = start % m in
    let q = start / m in
    let less : s < m = mod-lt start (omega (arith, lt)) in
    let whole : s + q * m ≡ start = mod-add-div' start m in
    elim (cases_lt memory s) [
      | inl before ↦ record {
        place = memory + m - s;
        within = omega (arith, before, less);
        is =
            let there : start + (memory + m - s) ≡ (q + 1) * m + memory =
            (let more : (q + 1) * m ≡ q * m + m = grind arith in omega (arith, whole, less, more)) in
            ap (λ (i : ℕ). i % m) there ∙ mod-mul-add (q + 1) m memory lt;
      }
      | inr behind ↦ record {
        place = memory - s;
        within = omega (arith, lt, behind);
        is =
            let there : start + (memory - s) ≡ q * m + memory = omega (arith, whole, behind) in
            ap (λ (i : ℕ). i % m) there ∙ mod-mul-add q m memory lt;
      }
    ]

none_free : (t : PlainTree) (start memory inode : ℕ) → first_free t start ≡ None → memory < t.geometry.memories → inode < t.geometry.inodes
    → is_free t (number_of memory inode) ≡ false
none_free t start memory inode none of_memory of_inode =
    let at = at_of start t.geometry.memories memory of_memory in
    let node : find (is_free t) (numbers_of t.geometry ((start + at.place) % t.geometry.memories)) ≡ None =
    none_in_part (is_free t) (λ n. flat_map (λ k. numbers_of t.geometry ((start + k) % t.geometry.memories)) (below n)) (λ k. numbers_of t.geometry ((start + k) % t.geometry.memories))
    (one_node (λ k. numbers_of t.geometry ((start + k) % t.geometry.memories))) t.geometry.memories at.place at.within none in
    no_find_one (is_free t) (number_of memory inode)
    (none_in_part (is_free t) (λ n. map (number_of memory) (below n)) (λ i. number_of memory i ∷ []) (one_number (number_of memory)) t.geometry.inodes inode of_inode
    (ap (λ (m : ℕ). find (is_free t) (numbers_of t.geometry m)) (sym at.is) ∙ node))

-- so no pick is one
pub no_pick : (t : PlainTree) (start : ℕ) (pick : Option ℕ) → first_free t start ≡ None → is_pick t pick ≡ false
no_pick t start None none = refl
no_pick t start (Some n) none = go (is_number t.geometry n) refl where
  go : (b : Bool) → is_number t.geometry n ≡ b → (b && is_free t n) ≡ false
  go false is = refl
  go true is =
      let parts = and_parts (nat_lt 0 n) (nat_lt ((n - 1) / 16384) t.geometry.memories && nat_lt ((n - 1) % 16384) t.geometry.inodes) is in
      let both = and_parts (nat_lt ((n - 1) / 16384) t.geometry.memories) (nat_lt ((n - 1) % 16384) t.geometry.inodes) parts.1 in
      let some : 0 < n = (let e = parts.0 in grind (arith, nat_tests)) in
      let of_memory : (n - 1) / 16384 < t.geometry.memories = (let e = both.0 in grind (arith, nat_tests)) in
      let of_inode : (n - 1) % 16384 < t.geometry.inodes = (let e = both.1 in grind (arith, nat_tests)) in
      let same : number_of ((n - 1) / 16384) ((n - 1) % 16384) ≡ n = omega (arith, some) in
      ap (is_free t) (sym same) ∙ none_free t start ((n - 1) / 16384) ((n - 1) % 16384) none of_memory of_inode

-- ---- a number that is free

pub free_test : (t : PlainTree) (n : ℕ) → IsFreeNumber t n → is_free t n ≡ true
free_test t n f =
    ap (λ (o : Option File). not (is_some o) && (nat_lt (kept_at t n).generation (2 ^ 32 - 1) && nat_lt (kept_at t n).change (2 ^ 64 - 1))) f.dead
    ∙ ap (λ (b : Bool). b && nat_lt (kept_at t n).change (2 ^ 64 - 1)) f.rises ∙ f.changes

number_test : (g : Geometry) (n : ℕ) → IsWithinLimits g → IsNumber g n → is_number g n ≡ true
number_test g n limits is =
    let m = is.memory in
    let i = is.inode in
    let n_is : n ≡ 16384 * m + i + 1 = is.is in
    let few : i < 16384 = omega (arith, is.there.1, limits.inodes.1) in
    let a : nat_lt 0 n ≡ true = (let some : 0 < n = omega (arith, n_is) in grind (arith, nat_tests)) in
    let b : nat_lt ((n - 1) / 16384) g.memories ≡ true = (let same : (n - 1) / 16384 ≡ m = omega (arith, n_is, few) in let lt : (n - 1) / 16384 < g.memories = omega (arith, same, is.there.0) in grind (arith, nat_tests)) in
    let e : nat_lt ((n - 1) % 16384) g.inodes ≡ true = (let same : (n - 1) % 16384 ≡ i = omega (arith, n_is, few) in let lt : (n - 1) % 16384 < g.inodes = omega (arith, same, is.there.1) in grind (arith, nat_tests)) in
    ap (λ (x : Bool). x && (nat_lt ((n - 1) / 16384) g.memories && nat_lt ((n - 1) % 16384) g.inodes)) a
    ∙ ap (λ (x : Bool). x && nat_lt ((n - 1) % 16384) g.inodes) b ∙ e

-- where one is free, the first of them is a pick
pub first_pick : (t : PlainTree) (start : ℕ) (pick : Option ℕ) → IsWithinLimits t.geometry → is_none (first_free t start) ≡ false → pick ≡ first_free t start → is_pick t pick ≡ true
first_pick t start pick limits some is = go (first_free t start) refl some where
  go : (o : Option ℕ) → first_free t start ≡ o → is_none o ≡ false → is_pick t pick ≡ true
  go None none other = absurd cc
  go (Some n) found other =
      let free = first_free_holds t start n limits found in
      ap (is_pick t) (is ∙ found) ∙ ap (λ (b : Bool). b && is_free t n) (number_test t.geometry n limits free.number) ∙ free_test t n free

-- ---- the limits of both changes

by_tests : (spent linked slotted none full picked : Bool) → (none ≡ true → picked ≡ false)
    → (first_failure (cond (spent || (false || false)) (Some fbig) None ∷ cond (linked || (false || false)) (Some nospc) None ∷ cond (slotted || (false || false)) (Some nospc) None ∷ cond ((false || (true || false)) && none) (Some nospc) None ∷ cond full (Some nospc) None ∷ []) ≡ None → picked ≡ true)
    → first_failure (cond (spent || (false || false)) (Some fbig) None ∷ cond (linked || (false || false)) (Some nospc) None ∷ cond (slotted || (false || false)) (Some nospc) None ∷ cond ((false || (true || false)) && none) (Some nospc) None ∷ cond full (Some nospc) None ∷ [])
    ≡ cond spent (Some fbig) (cond (linked || (slotted || (not picked || full))) (Some nospc) None)
unfolding first_failure
by_tests true linked slotted none full picked a b = refl
by_tests false true slotted none full picked a b = refl
by_tests false false true none full picked a b = refl
by_tests false false false true full picked a b = sym (ap (λ (x : Bool). cond (not x || full) (Some nospc) None) (a refl))
by_tests false false false false true true a b = refl
by_tests false false false false true false a b = refl
by_tests false false false false false picked a b = sym (ap (λ (x : Bool). cond (not x || false) (Some nospc) None) (b refl))

-- a directory that gets a name and so many links and slots, and a new file that uses so many blocks
pub record IsMade (t : PlainTree) (n : ℕ) (d d' f : File) (slots more : ℕ) : Type 0 where
  pub there : get t.files n ≡ Some d
  pub change : d'.change ≡ d.change
  pub slots_are : length (slots_of d'.content) ≡ slots
  pub uses : used d'.content ≡ used_by slots
  pub file_uses : used f.content ≡ more

pub limits_of_made : (t : PlainTree) (start n m : ℕ) (d d' f : File) (slots more : ℕ) (pick : Option ℕ) → IsMade t n d d' f slots more
    → (first_failure (limits t start (Changed n d' ∷ Made m f ∷ [])) ≡ None → is_pick t pick ≡ true)
    → first_failure (limits t start (Changed n d' ∷ Made m f ∷ [])) ≡ made_limits t d d'.links slots more pick
unfolding limits
limits_of_made t start n m d d' f slots more pick is picks =
    by_tests (eqb d'.change (2 ^ 64 - 1)) (ltb 32000 d'.links) (ltb 7650 (length (slots_of d'.content))) (is_none (first_free t start)) (ltb (free_blocks t) (sum_by (rise t) (Changed n d' ∷ Made m f ∷ []))) (is_pick t pick)
    none_picked picks
    ∙ ap (λ (change : ℕ). cond (eqb change (2 ^ 64 - 1)) (Some fbig) (cond (ltb 32000 d'.links || (ltb 7650 (length (slots_of d'.content)) || (not (is_pick t pick) || ltb (free_blocks t) (sum_by (rise t) (Changed n d' ∷ Made m f ∷ []))))) (Some nospc) None)) is.change
    ∙ ap (λ (count : ℕ). cond (eqb d.change (2 ^ 64 - 1)) (Some fbig) (cond (ltb 32000 d'.links || (ltb 7650 count || (not (is_pick t pick) || ltb (free_blocks t) (sum_by (rise t) (Changed n d' ∷ Made m f ∷ []))))) (Some nospc) None)) is.slots_are
    ∙ ap (λ (r : ℕ). cond (eqb d.change (2 ^ 64 - 1)) (Some fbig) (cond (ltb 32000 d'.links || (ltb 7650 slots || (not (is_pick t pick) || ltb (free_blocks t) r))) (Some nospc) None)) rises
  where
    none_picked : is_none (first_free t start) ≡ true → is_pick t pick ≡ false
    none_picked none = no_pick t start pick (none_of (first_free t start) none) where
      none_of : (o : Option ℕ) → is_none o ≡ true → o ≡ None
      none_of None h = refl
      none_of (Some x) h = absurd cc

    rises : sum_by (rise t) (Changed n d' ∷ Made m f ∷ []) ≡ used_by slots - used d.content + more
    rises =
        let both = sum_by-cons (rise t) (Changed n d') (Made m f ∷ []) in
        let one = sum_by-cons (rise t) (Made m f) [] in
        let old : used_at t n ≡ used d.content = ap (λ (o : Option File). option_map_or (λ f. used f.content) o 0) is.there in
        omega (arith, both, one, ap (λ (u : ℕ). used d'.content - u) old, ap (λ (u : ℕ). u - used d.content) is.uses, is.file_uses)

-- ---- what holds where no limit forbids it

pub record MayMake (t : PlainTree) (d : File) (links slots : ℕ) (pick : Option ℕ) : Type 0 where
  pub change : d.change < 2 ^ 64 - 1
  pub few_links : links ≤ 32000
  pub few_slots : slots ≤ 7650
  pub picked : is_pick t pick ≡ true

pub may_make : (t : PlainTree) (d : File) (links slots more : ℕ) (pick : Option ℕ) → d.change < 2 ^ 64 - 1 → made_limits t d links slots more pick ≡ None → MayMake t d links slots pick
may_make t d links slots more pick rises none = go (eqb d.change (2 ^ 64 - 1)) refl (ltb 32000 links) refl (ltb 7650 slots) refl (is_pick t pick) refl none where
  go : (a : Bool) → eqb d.change (2 ^ 64 - 1) ≡ a → (b : Bool) → ltb 32000 links ≡ b → (e : Bool) → ltb 7650 slots ≡ e → (p : Bool) → is_pick t pick ≡ p
      → cond a (Some fbig) (cond (b || (e || (not p || ltb (free_blocks t) (used_by slots - used d.content + more)))) (Some nospc) None) ≡ None → MayMake t d links slots pick
  go true a b is_b e is_e p is_p h = absurd cc
  go false a true is_b e is_e p is_p h = absurd cc
  go false a false is_b true is_e p is_p h = absurd cc
  go false a false is_b false is_e false is_p h = absurd cc
  go false a false is_b false is_e true is_p h = record {
    change = rises;
    few_links = grind (arith, nat_tests);
    few_slots = grind (arith, nat_tests);
    picked = is_p;
  }

-- a number that was picked is free
pub record IsFreePick (t : PlainTree) (n : ℕ) : Type 0 where
  pub dead : get t.files n ≡ None
  pub generation : (kept_at t n).generation < 2 ^ 32 - 1
  pub change : (kept_at t n).change < 2 ^ 64 - 1

pub free_pick : (t : PlainTree) (n : ℕ) → is_pick t (Some n) ≡ true → IsFreePick t n
free_pick t n is =
    let free : is_free t n ≡ true = (and_parts (is_number t.geometry n) (is_free t n) is).1 in
    let parts = and_parts (not (is_some (get t.files n))) (nat_lt (kept_at t n).generation (2 ^ 32 - 1) && nat_lt (kept_at t n).change (2 ^ 64 - 1)) free in
    let kept = and_parts (nat_lt (kept_at t n).generation (2 ^ 32 - 1)) (nat_lt (kept_at t n).change (2 ^ 64 - 1)) parts.1 in
    record {
      dead = none_of (get t.files n) parts.0;
      generation = (let e = kept.0 in grind (arith, nat_tests));
      change = (let e = kept.1 in grind (arith, nat_tests));
    }
  where
    none_of : (o : Option File) → not (is_some o) ≡ true → o ≡ None
    none_of None h = refl
    none_of (Some f) h = absurd cc
