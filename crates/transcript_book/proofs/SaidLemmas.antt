-- One line more under an event.
use Rattle.std.proofs.Common.{◌≡◌, ℕ, true, false, List, [], ◌∷◌, ◌++◌, Option, None, Some, refl, sym, ap, ◌∙◌, arith}
use Rattle.std.specs.Prelude.{Bool, ◌&&◌, ◌||◌, nat_le, max}
use Rattle.std.specs.List.{list_any, list_all}
use Rattle.std.specs.Option.{option_map_or}
use Rattle.std.proofs.lemmas.Bool.Decides.{nat_tests}
use Rattle.std.proofs.lemmas.List.Folds.{list_any-append}
use Rattle.mini_tx.specs.declared.actor.Actor.{Actor}
use Rattle.line_text.specs.declared.line.Line.{Line}
use Rattle.line_text.specs.declared.line.Line.TheVariants as line
use Rattle.transcript_rules.specs.Book.{is_actor}
use Rattle.transcript_rules.specs.Place.{rank, is_down_line_of}
use Rattle.transcript_book.specs.Sayings.{are_none, downed, with_downed}

pub some_now : (ls : List Line) (l : Line) → are_none (ls ++ l ∷ []) ≡ false
some_now [] l = refl
some_now (x ∷ ls) l = refl

or_false : (b : Bool) → (b || false) ≡ b
or_false true = refl
or_false false = refl

and_true : (b : Bool) → (b && true) ≡ b
and_true true = refl
and_true false = refl

both : (a b : Bool) (c : Bool) → ((a && b) && c) ≡ (a && (b && c))
both true b c = refl
both false b c = refl

all_append : {X : Type 0} → (f : X → Bool) (xs : List X) (x : X) → list_all f (xs ++ x ∷ []) ≡ (list_all f xs && f x)
all_append f [] x = and_true (f x)
all_append f (y ∷ xs) x = ap (λ b. f y && b) (all_append f xs x) ∙ sym (both (f y) (list_all f xs) (f x))

pub any_more : {X : Type 0} → (f : X → Bool) (xs : List X) (x : X) → list_any f (xs ++ x ∷ []) ≡ (list_any f xs || f x)
any_more f xs x = list_any-append f xs (x ∷ []) ∙ ap (λ b. list_any f xs || b) (or_false (f x))

both_below : (a b r : ℕ) → nat_le (max a b) r ≡ (nat_le a r && nat_le b r)
both_below a b r = grind (arith, nat_tests)

pub higher : (ls : List Line) (l : Line) (highest : ℕ) → ((r : ℕ) → nat_le highest r ≡ list_all (λ x. nat_le (rank x) r) ls)
    → (r : ℕ) → nat_le (max highest (rank l)) r ≡ list_all (λ x. nat_le (rank x) r) (ls ++ l ∷ [])
higher ls l highest are r =
    both_below highest (rank l) r ∙ ap (λ b. b && nat_le (rank l) r) (are r) ∙ sym (all_append (λ x. nat_le (rank x) r) ls l)

pub downed_is : (who : Actor) (l : Line) → is_down_line_of who l ≡ option_map_or (is_actor who) (downed l) false
downed_is who (line.Down other why) = refl
downed_is who l = refl

pub downs_more : (who : Actor) (downs : List Actor) (ls : List Line) (l : Line) → list_any (is_actor who) downs ≡ list_any (is_down_line_of who) ls
    → list_any (is_actor who) (with_downed downs (downed l)) ≡ list_any (is_down_line_of who) (ls ++ l ∷ [])
downs_more who downs ls l are =
    more (downed l) ∙ ap (λ b. b || option_map_or (is_actor who) (downed l) false) are
    ∙ ap (λ b. list_any (is_down_line_of who) ls || b) (sym (downed_is who l)) ∙ sym (any_more (is_down_line_of who) ls l)
  where
    more : (o : Option Actor) → list_any (is_actor who) (with_downed downs o) ≡ (list_any (is_actor who) downs || option_map_or (is_actor who) o false)
    more None = sym (or_false (list_any (is_actor who) downs))
    more (Some other) = any_more (is_actor who) downs other

pub any_said : (f : Line → Bool) (ls : List Line) (l : Line) (before is : Bool) → before ≡ list_any f ls → is ≡ f l → (before || is) ≡ list_any f (ls ++ l ∷ [])
any_said f ls l before is so_far now = ap (λ b. b || is) so_far ∙ ap (λ b. list_any f ls || b) now ∙ sym (any_more f ls l)
