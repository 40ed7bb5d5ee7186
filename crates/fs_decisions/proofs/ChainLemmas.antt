-- The chain of parents, move by move.
use Rattle.std.proofs.Common.{◌≡◌, ℕ, zero, suc, Bool, true, false, cond, List, [], ◌∷◌, ◌++◌, Option, Some, None, refl, sym, ap, subst, ◌∙◌}
use Rattle.std.specs.Prelude.{◌==◌, ◌||◌, not, option_and_then}
use Rattle.std.specs.Option.{option_map_or}
use Rattle.std.specs.List.{list_any}
use Rattle.fs_rules.specs.declared.plain_tree.PlainTree.{PlainTree}
use Rattle.fs_rules.specs.Lists.{below}
use Rattle.fs_rules.specs.Names.{leads_to}
use Rattle.fs_rules.specs.Good.{ancestor, parent_at}
use Rattle.fs_rules.specs.Statuses.{first_failure, nametoolong, io}
use Rattle.fs_decisions.specs.Renaming.{chain_row}

-- the last move to a parent, in place of the first
ancestor_last : (t : PlainTree) (k n : ℕ) → ancestor t (suc k) n ≡ option_and_then (parent_at t) (ancestor t k n)
unfolding ancestor
ancestor_last t zero n = go (parent_at t n) where
  go : (o : Option ℕ) → option_and_then (ancestor t zero) o ≡ o
  go None = refl
  go (Some p) = refl
ancestor_last t (suc k) n = go (ancestor_last t k) (parent_at t n) where
  go : ((p : ℕ) → ancestor t (suc k) p ≡ option_and_then (parent_at t) (ancestor t k p)) → (o : Option ℕ)
      → option_and_then (ancestor t (suc k)) o ≡ option_and_then (parent_at t) (option_and_then (ancestor t k) o)
  go before None = refl
  go before (Some p) = before p

any_last : (f : ℕ → Bool) (xs : List ℕ) (y : ℕ) → list_any f (xs ++ y ∷ []) ≡ (list_any f xs || f y)
any_last f [] y = or_none (f y) where
  or_none : (b : Bool) → (b || false) ≡ b
  or_none true = refl
  or_none false = refl
any_last f (x ∷ xs) y = ap (λ b. f x || b) (any_last f xs y) ∙ assoc (f x) (list_any f xs) (f y) where
  assoc : (a b c : Bool) → (a || (b || c)) ≡ ((a || b) || c)
  assoc true b c = refl
  assoc false b c = refl

-- after some moves: where they lead, and whether one of them came past the file
pub record IsMoved (t : PlainTree) (dir source moves : ℕ) (at : Option ℕ) (above : Bool) : Type 0 where
  pub there : at ≡ ancestor t moves dir
  pub past : above ≡ list_any (λ k. leads_to t k dir source) (below (suc moves))

pub moved_none : (t : PlainTree) (dir source : ℕ) (above : Bool) → above ≡ (dir == source) → IsMoved t dir source 0 (Some dir) above
unfolding ancestor below
moved_none t dir source above is = record { there = refl; past = is ∙ sym (or_none (dir == source)) } where
  or_none : (b : Bool) → (b || false) ≡ b
  or_none true = refl
  or_none false = refl

pub moved_once : (t : PlainTree) (dir source moves next : ℕ) (at at' : Option ℕ) (above here : Bool) → IsMoved t dir source moves at above → suc moves ≡ next
    → at' ≡ option_and_then (parent_at t) at → here ≡ option_map_or (λ a. a == source) at' false → IsMoved t dir source next at' (above || here)
unfolding below
moved_once t dir source moves next at at' above here m count is test =
    let there : at' ≡ ancestor t (suc moves) dir = is ∙ ap (option_and_then (parent_at t)) m.there ∙ sym (ancestor_last t moves dir) in
    subst (λ k. IsMoved t dir source k at' (above || here)) count (record {
      there = there;
      past = ap (λ b. b || here) m.past
          ∙ ap (λ b. list_any (λ k. leads_to t k dir source) (below (suc moves)) || b) (test ∙ ap (λ (o : Option ℕ). option_map_or (λ a. a == source) o false) there)
          ∙ sym (any_last (λ k. leads_to t k dir source) (below (suc moves)) (suc moves));
    })

by_tests : (t : PlainTree) (dir source : ℕ) (leads above : Bool) → leads ≡ leads_to t 200 dir 1 → above ≡ list_any (λ k. leads_to t k dir source) (below 201)
    → first_failure (chain_row t dir source) ≡ first_failure (cond (not leads) (Some nametoolong) None ∷ cond above (Some io) None ∷ [])
by_tests t dir source leads above p q =
    ap (λ b. first_failure (cond (not b) (Some nametoolong) None ∷ cond (list_any (λ k. leads_to t k dir source) (below 201)) (Some io) None ∷ [])) (sym p)
    ∙ ap (λ b. first_failure (cond (not leads) (Some nametoolong) None ∷ cond b (Some io) None ∷ [])) (sym q)

module _ (t : PlainTree) (dir source moves : ℕ) (at : Option ℕ) (leads above : Bool) (m : IsMoved t dir source moves at above) (all : moves ≡ 200) (is : leads ≡ option_map_or (λ a. a == 1) at false) where
  -- the checks, by what the walk found
  pub row : first_failure (chain_row t dir source) ≡ first_failure (cond (not leads) (Some nametoolong) None ∷ cond above (Some io) None ∷ [])
  row =
      by_tests t dir source leads above
      (is ∙ ap (λ (o : Option ℕ). option_map_or (λ a. a == 1) o false) (m.there ∙ ap (λ k. ancestor t k dir) all))
      (m.past ∙ ap (λ k. list_any (λ k. leads_to t k dir source) (below (suc k))) all)
