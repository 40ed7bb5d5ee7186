-- Parts that are taken one after the other.
use Rattle.std.proofs.Common.{◌≡◌, ℕ, zero, suc, true, false, cond, Bool, List, [], ◌∷◌, Option, Some, refl, sym, ap, ◌∙◌, arith}
use Rattle.std.specs.Prelude.{◌==◌, ◌&&◌, ◌||◌, slice_get}
use Rattle.std.specs.List.{AllByRecursion, list_any}
use Rattle.std.proofs.lemmas.Bool.Decides.{nat_tests}
use Rattle.fs_layout.specs.declared.reference.Reference.{Reference}
use Rattle.fs_image.specs.Owners.{Owners, Part, is_same_part, only, taken}
use Rattle.fs_image.proofs.OwnerLemmas.{part_same, same_part}
use Rattle.image_puts.specs.Takes.{all_taken}
use Rattle.take_laws.specs.Placed.{PartsArePlaced, placed}
use Rattle.take_laws.specs.Takes.{AreParts, keep_all, takes_of}

-- the places of the owners
placed_by : (n : ℕ) (parts : List Part) (rs : List Reference) (o : Owners) (x : Part) → (all_taken (takes_of n parts rs) o).place n x ≡ placed parts rs (o.place n) x
unfolding all_taken placed
placed_by n [] rs o x = refl
placed_by n (y ∷ ys) [] o x = refl
placed_by n (y ∷ ys) (r ∷ rs) o x =
    let same : (n == n) ≡ true = grind (arith, nat_tests) in
    placed_by n ys rs (taken o n y r) x ∙ ap (λ b. placed ys rs (λ z. cond (b && is_same_part z y) (Some r) (o.place n z)) x) same

parts_of_or : (a b : Bool) → a || b ≡ false → (a ≡ false) × (b ≡ false)
parts_of_or true b is = absurd cc
parts_of_or false b is = (refl, is)

others_stay : (parts : List Part) (rs : List Reference) (w : Part → Option Reference) (x : Part) → list_any (is_same_part x) parts ≡ false → placed parts rs w x ≡ w x
unfolding placed
others_stay [] rs w x none = refl
others_stay (y ∷ ys) [] w x none = refl
others_stay (y ∷ ys) (r ∷ rs) w x none =
    let both = parts_of_or (is_same_part x y) (list_any (is_same_part x) ys) none in
    others_stay ys rs (λ z. cond (is_same_part z y) (Some r) (w z)) x both.1 ∙ ap (λ b. cond b (Some r) (w x)) both.0

-- one that differs from all
never_both : (b : Bool) → b ≡ true → b ≡ false → ⊥
never_both b some none = let no : true ≡ false = sym some ∙ none in absurd cc

turned_by : (x y : Part) (b : Bool) → is_same_part x y ≡ b → is_same_part y x ≡ false → is_same_part x y ≡ false
turned_by x y true is other = absurd (never_both (is_same_part y x) (ap (λ z. is_same_part y z) (same_part x y is) ∙ part_same y) other)
turned_by x y false is other = is

turned : (x y : Part) → is_same_part y x ≡ false → is_same_part x y ≡ false
turned x y other = turned_by x y (is_same_part x y) refl other

none_same : (x : Part) (parts : List Part) → AllByRecursion (λ y. is_same_part y x ≡ false) parts → list_any (is_same_part x) parts ≡ false
none_same x [] all = refl
none_same x (y ∷ ys) all = both_false (is_same_part x y) (list_any (is_same_part x) ys) (turned x y all.0) (none_same x ys all.1)
  where
    both_false : (a b : Bool) → a ≡ false → b ≡ false → a || b ≡ false
    both_false true b first rest = absurd cc
    both_false false b first rest = rest

part_is : (x y : Part) → ◌≡◌ {A = Option Part} (Some x) (Some y) → x ≡ y
part_is x y is = cc

place_is : (r q : Reference) → ◌≡◌ {A = Option Reference} (Some r) (Some q) → r ≡ q
place_is r q is = cc

taken_lie : (parts : List Part) (rs : List Reference) (w : Part → Option Reference) → AreParts parts → (i : ℕ) (x : Part) (r : Reference) → slice_get parts i ≡ Some x
    → slice_get rs i ≡ Some r → placed parts rs w x ≡ Some r
unfolding placed AreParts
taken_lie [] rs w differ i x r part place = absurd cc
taken_lie (y ∷ ys) [] w differ i x r part place = absurd cc
taken_lie (y ∷ ys) (q ∷ qs) w differ zero x r part place =
    let here = part_is y x part in
    let there = place_is q r place in
    ap (placed ys qs (λ z. cond (is_same_part z y) (Some q) (w z))) (sym here)
    ∙ others_stay ys qs (λ z. cond (is_same_part z y) (Some q) (w z)) y (none_same y ys differ.0)
    ∙ ap (λ b. cond b (Some q) (w y)) (part_same y) ∙ ap Some there
taken_lie (y ∷ ys) (q ∷ qs) w differ (suc i) x r part place = taken_lie ys qs (λ z. cond (is_same_part z y) (Some q) (w z)) differ.1 i x r part place

pub parts_are_placed : PartsArePlaced
parts_are_placed o n parts rs = (
  λ x. placed_by n parts rs (only keep_all o) x,
  record { others = λ x none. others_stay parts rs (o.place n) x none; taken = λ differ i x r part place. taken_lie parts rs (o.place n) differ i x r part place },
)
