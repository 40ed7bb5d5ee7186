-- Participants, votes and those that are missing, in both vocabularies.
use Rattle.std.proofs.Common.{◌≡◌, ℕ, suc, ◌==◌, nat_lt, ◌&&◌, ◌||◌, Bool, true, false, not, cond, List, [], ◌∷◌, ◌++◌, map, filter, length, reverse, refl, sym, ap, ◌∙◌, arith}
use Rattle.std.proofs.lemmas.Bool.{eqb-true, eqb-false, eq-eqb, ne_eqb}
use Rattle.std.proofs.lemmas.List.{map-append, reverse-append}
use Rattle.mini_tx.specs.Minitransactions.{memory_of}
use Rattle.tx_coord.specs.Votes.{Granted}
use Rattle.tx_coord.specs.Rules as rules
use Rattle.tx_rules.specs.Lists.{is_in, all_in}
use Rattle.tx_actors.specs.Node.{sorted_in, sorted}
use Rattle.coord_laws.specs.Shown.{shown_vote, shown_votes}
use Rattle.coord_laws.specs.Laws.{ParticipantsAreTheTables}

pub swapped : (n m : ℕ) → (n == m) ≡ (m == n)
swapped n m = go (m == n) refl
  where
    go : (b : Bool) → (m == n) ≡ b → (n == m) ≡ b
    go true is = eq-eqb n m (sym (eqb-true m n is))
    go false is = ne_eqb n m (λ e. eqb-false m n is (sym e))

or_swapped : (a b : Bool) → (a || b) ≡ (b || a)
or_swapped true true = refl
or_swapped true false = refl
or_swapped false true = refl
or_swapped false false = refl

or_false : (b : Bool) → (b || false) ≡ b
or_false true = refl
or_false false = refl

-- ---- participants

placed_is : (n : ℕ) (ms : List ℕ) → rules.placed_in n ms ≡ sorted_in n ms
placed_is n [] = refl
placed_is n (m ∷ ms) =
    ap (λ b. cond (nat_lt m n) (m ∷ rules.placed_in n ms) (cond b (m ∷ ms) (n ∷ m ∷ ms))) (swapped m n)
    ∙ ap (λ xs. cond (nat_lt m n) (m ∷ xs) (cond (n == m) (m ∷ ms) (n ∷ m ∷ ms))) (placed_is n ms)

pub participants_are : ParticipantsAreTheTables
participants_are [] = refl
participants_are (i ∷ items) = ap (rules.placed_in (memory_of i)) (participants_are items) ∙ placed_is (memory_of i) (sorted (map memory_of items))

-- ---- votes

pub member_is : (m : ℕ) (ms : List ℕ) → is_in m ms ≡ rules.is_in m ms
member_is m [] = refl
member_is m (n ∷ ms) = ap (λ b. b || is_in m ms) (swapped m n) ∙ ap (λ b. (n == m) || b) (member_is m ms)

member_append : (m : ℕ) (xs ys : List ℕ) → is_in m (xs ++ ys) ≡ (is_in m xs || is_in m ys)
member_append m [] ys = refl
member_append m (x ∷ xs) ys = go (m == x) (member_append m xs ys)
  where
    go : (b : Bool) → is_in m (xs ++ ys) ≡ (is_in m xs || is_in m ys) → (b || is_in m (xs ++ ys)) ≡ ((b || is_in m xs) || is_in m ys)
    go true rest = refl
    go false rest = rest

abbrev pub voter : ℕ × List (List ℕ) → ℕ
voter v = v.0

-- who has voted for the machine has for the rules
pub granted_is : (m : ℕ) (gs : List Granted) → is_in m (map voter (shown_votes gs)) ≡ rules.has_granted gs m
granted_is m [] = refl
granted_is m (g ∷ gs) =
    ap (λ vs. is_in m (map voter vs)) (reverse-append (shown_vote g ∷ []) (map shown_vote gs))
    ∙ ap (is_in m) (map-append voter (shown_votes gs) (shown_vote g ∷ []))
    ∙ member_append m (map voter (shown_votes gs)) (g.memory ∷ [])
    ∙ or_swapped (is_in m (map voter (shown_votes gs))) ((m == g.memory) || false)
    ∙ ap (λ b. b || is_in m (map voter (shown_votes gs))) (or_false (m == g.memory) ∙ swapped m g.memory)
    ∙ ap (λ b. (g.memory == m) || b) (granted_is m gs)

-- one more vote is the newest
pub one_more : (g : Granted) (gs : List Granted) → shown_votes (gs ++ g ∷ []) ≡ shown_vote g ∷ shown_votes gs
one_more g gs = ap (λ vs. reverse vs) (map-append shown_vote gs (g ∷ [])) ∙ reverse-append (map shown_vote gs) (shown_vote g ∷ [])

-- ---- those that are missing

-- all are there exactly where none is missing
pub none_missing : (has : ℕ → Bool) (ys : List ℕ) → ((n : ℕ) → is_in n ys ≡ has n) → (ps : List ℕ) → all_in ps ys ≡ (length (filter (λ n. not (has n)) ps) == 0)
none_missing has ys same [] = refl
none_missing has ys same (p ∷ ps) = ap (λ b. b && all_in ps ys) (same p) ∙ go (has p) (none_missing has ys same ps)
  where
    go : (b : Bool) → all_in ps ys ≡ (length (filter (λ n. not (has n)) ps) == 0)
        → (b && all_in ps ys) ≡ (length (cond (not b) (p ∷ filter (λ n. not (has n)) ps) (filter (λ n. not (has n)) ps)) == 0)
    go true rest = rest
    go false rest = sym (ne_eqb (suc (length (filter (λ n. not (has n)) ps))) 0 (λ e. omega (arith, e)))
