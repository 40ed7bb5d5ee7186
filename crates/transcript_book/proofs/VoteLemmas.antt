-- The last of some messages, and what the front of a list has no part in.
use Rattle.std.proofs.Common.{◌≡◌, ℕ, zero, suc, ◌-◌, ◌<◌, ◌≤◌, nat_lt, true, false, cond, List, [], ◌∷◌, length, get_or, take, drop, Option, None, Some, refl, sym, ap, ◌∙◌, arith}
use Rattle.std.proofs.Math.Path.{fun_ext}
use Rattle.std.proofs.lemmas.Bool.Decides.{nat_tests}
use Rattle.std.specs.Prelude.{Bool, ◌&&◌, ◌||◌, ◌==◌, if◌then◌else◌}
use Rattle.std.specs.List.{AllWithin, list_any, list_all}
use Rattle.std.specs.Option.{option_map_or, option_or}
use Rattle.mini_tx.specs.declared.actor.Actor.{Actor}
use Rattle.mini_tx.specs.declared.actor.Actor.TheVariants.{Node}
use Rattle.transcript_rules.specs.declared.post.Post.{Post}
use Rattle.transcript_rules.specs.Book.{is_actor}
use Rattle.transcript_rules.specs.Carried.{is_attempt, is_granted, is_prepare, last_attempt, last_of, is_vote, has_vote, is_part, have_votes}

-- ---- the last that passes a test

or_cond : (b : Bool) (p : Post) (rest last : Option Post) → option_or (cond b (Some p) rest) last ≡ cond b (Some p) (option_or rest last)
or_cond true p rest last = refl
or_cond false p rest last = refl

pub last_step : (f : Post → Bool) (posts : List Post) (i : ℕ) (d : Post) → i < length posts
    → last_of f (take (suc i) posts) ≡ cond (f (get_or posts i d)) (Some (get_or posts i d)) (last_of f (take i posts))
unfolding last_of
last_step f [] i d below = absurd (omega (arith, below))
last_step f (x ∷ posts) zero d below = refl
last_step f (x ∷ posts) (suc i) d below =
    ap (λ o. option_or o (cond (f x) (Some x) None)) (last_step f posts i d (omega (arith, below)))
    ∙ or_cond (f (get_or posts i d)) (get_or posts i d) (last_of f (take i posts)) (cond (f x) (Some x) None)

-- ---- a front that has no part in a question

pub any_behind : {X : Type 0} → (f : X → Bool) (xs : List X) (i : ℕ) → AllWithin (λ x. f x ≡ false) xs 0 i → i ≤ length xs → list_any f (drop i xs) ≡ list_any f xs
any_behind f xs zero none within = refl
any_behind f [] (suc i) none within = refl
any_behind f (x ∷ xs) (suc i) none within =
    any_behind f xs i (λ k d low high. none (suc k) d (omega arith) (omega (arith, high))) (omega (arith, within))
    ∙ sym (ap (λ b. b || list_any f xs) (none 0 x (omega arith) (omega arith)))

pub all_behind : {X : Type 0} → (f : X → Bool) (xs : List X) (i : ℕ) → AllWithin (λ x. f x ≡ true) xs 0 i → i ≤ length xs → list_all f (drop i xs) ≡ list_all f xs
all_behind f xs zero all within = refl
all_behind f [] (suc i) all within = refl
all_behind f (x ∷ xs) (suc i) all within =
    all_behind f xs i (λ k d low high. all (suc k) d (omega arith) (omega (arith, high))) (omega (arith, within))
    ∙ sym (ap (λ b. b && list_all f xs) (all 0 x (omega arith) (omega arith)))

not_after : (event under : ℕ) → nat_lt under event ≡ true → nat_lt event under ≡ false
not_after event under before = grind (arith, nat_tests)

not_in : (event under : ℕ) → nat_lt under event ≡ true → (under == event) ≡ false
not_in event under before = grind (arith, nat_tests)

no_vote : (a b c e : Bool) (event under : ℕ) → nat_lt under event ≡ true → (a && b && c && nat_lt event under && e) ≡ false
no_vote false b c e event under before = refl
no_vote true false c e event under before = refl
no_vote true true false e event under before = refl
no_vote true true true e event under before = ap (λ x. x && e) (not_after event under before)

no_part : (a b : Bool) (event under : ℕ) → nat_lt under event ≡ true → (a && b && (under == event)) ≡ false
no_part false b event under before = refl
no_part true false event under before = refl
no_part true true event under before = not_in event under before

vote_before : (n e : ℕ) (memory : Actor) (v : Post) → nat_lt v.under e ≡ true → is_vote n memory e v ≡ false
vote_before n e memory v before = no_vote (is_actor v.from memory) (is_actor v.to (Node n)) (is_granted v.words) (nat_lt e v.heard) e v.under before

part_before : (n e : ℕ) (p : Post) → nat_lt p.under e ≡ true → is_part n e p ≡ false
part_before n e p before = no_part (is_actor p.from (Node n)) (is_prepare p.words) e p.under before

pub votes_behind : (posts : List Post) (i n e : ℕ) → AllWithin (λ (p : Post). nat_lt p.under e ≡ true) posts 0 i → i ≤ length posts → have_votes (drop i posts) n e ≡ have_votes posts n e
votes_behind posts i n e before within =
    ap (λ (g : Post → Bool). list_all g (drop i posts)) (fun_ext (λ (p : Post). ap (λ (b : Bool). if is_part n e p then b else true)
    (any_behind (is_vote n p.to e) posts i (λ k d low high. vote_before n e p.to (get_or posts k d) (before k d low high)) within)))
    ∙ all_behind (λ (p : Post). if is_part n e p then has_vote posts n p.to e else true) posts i
    (λ k d low high. let p = get_or posts k d in ap (λ (b : Bool). if b then has_vote posts n p.to e else true) (part_before n e p (before k d low high))) within

-- ---- the walk from the back

one_back : (end : ℕ) → 0 < end → suc (end - 1) ≡ end
one_back end some = omega arith

pub last_back : (f : Post → Bool) (posts : List Post) (end : ℕ) (d : Post) → 0 < end → end ≤ length posts
    → last_of f (take end posts) ≡ cond (f (get_or posts (end - 1) d)) (Some (get_or posts (end - 1) d)) (last_of f (take (end - 1) posts))
last_back f posts end d some within =
    ap (λ (n : ℕ). last_of f (take n posts)) (sym (one_back end some)) ∙ last_step f posts (end - 1) d (omega arith)

pub attempt_found : (n now : ℕ) (posts : List Post) (end : ℕ) (d : Post) → 0 < end
    → (end ≤ length posts) × (last_of (is_attempt n now) (take end posts) ≡ last_of (is_attempt n now) posts)
    → is_attempt n now (get_or posts (end - 1) d) ≡ true → (get_or posts (end - 1) d).under ≡ last_attempt n now posts
attempt_found n now posts end d some so_far is =
    let p = get_or posts (end - 1) d in
    sym (ap (λ (o : Option Post). option_map_or (λ (q : Post). q.under) o 0)
    (sym so_far.1 ∙ last_back (is_attempt n now) posts end d some so_far.0 ∙ ap (λ (b : Bool). cond b (Some p) (last_of (is_attempt n now) (take (end - 1) posts))) is))

pub attempt_passed : (n now : ℕ) (posts : List Post) (end : ℕ) (d : Post) → 0 < end
    → (end ≤ length posts) × (last_of (is_attempt n now) (take end posts) ≡ last_of (is_attempt n now) posts)
    → is_attempt n now (get_or posts (end - 1) d) ≡ false
    → (end - 1 ≤ length posts) × (last_of (is_attempt n now) (take (end - 1) posts) ≡ last_of (is_attempt n now) posts)
attempt_passed n now posts end d some so_far is =
    let p = get_or posts (end - 1) d in (
      omega (arith, so_far.0),
      sym (ap (λ (b : Bool). cond b (Some p) (last_of (is_attempt n now) (take (end - 1) posts))) is) ∙ sym (last_back (is_attempt n now) posts end d some so_far.0) ∙ so_far.1,
    )

pub no_attempt : (n now : ℕ) (posts : List Post) (end : ℕ) → end ≤ 0
    → last_of (is_attempt n now) (take end posts) ≡ last_of (is_attempt n now) posts → 0 ≡ last_attempt n now posts
unfolding last_of
no_attempt n now posts zero none so_far = ap (λ (o : Option Post). option_map_or (λ (q : Post). q.under) o 0) so_far
no_attempt n now posts (suc end) none so_far = absurd (omega (arith, none))
