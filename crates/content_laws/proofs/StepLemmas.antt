-- The steps of a call that reads blocks of one file.
use Rattle.std.proofs.Common.{◌≡◌, ℕ, zero, suc, ◌<◌, inl, inr, true, false, cond, Bool, List, [], ◌∷◌, ◌++◌, map, Some, None, refl, sym, ap, subst, ◌∙◌, arith}
use Rattle.std.specs.Prelude.{nat_lt, flat_map, sum_by}
use Rattle.std.proofs.lemmas.Bool.{cases_lt, le-ltb}
use Rattle.std.proofs.lemmas.List.{append-nil, map-append}
use Rattle.fs_rules.specs.Lists.{below}
use Rattle.fs_rules.specs.Statuses.{nospc}
use Rattle.node_cache.specs.declared.held.Held.{Held}
use Rattle.node_cache.specs.declared.want.Want.TheVariants as want
use Rattle.plan_rules.specs.declared.look.Look.TheVariants.{Chaining}
use Rattle.plan_rules.specs.Blocks.{chain_steps}
use Rattle.plan_rules.specs.Changes as changes
use Rattle.plan_rules.specs.Changes.{change_steps, freeing_on}
use Rattle.plan_rules.specs.Laws.{GoAlike}
use Rattle.plan_rules.specs.Room.{needs_maps, needs_steps}
use Rattle.plan_rules.specs.Steps.{Step, Looks, Checks, part_of, is_held, wanted_in, looks_in, refusal_in}
use Rattle.plan_rules.specs.Told.{chains_of, free_on}
use Rattle.read_laws.proofs.AttrLemmas.{look_held}
use Rattle.read_laws.proofs.StepLemmas.{behind, front_wants_none, joined_refuse_none}
use Rattle.content_laws.specs.Chains.{chains_where}

-- ---- steps that come to the same

abbrev pub Alike : Held → List Step → List Step → Type 0
Alike held steps others = GoAlike held steps others []

passed_first : (held : Held) (steps : List Step) → Alike held (Checks None ∷ steps) steps
unfolding wanted_in looks_in refusal_in
passed_first held steps = record { wanted = refl; looks = refl; refusal = refl }

pub alike_both : (held : Held) (a b c : List Step) → Alike held a b → Alike held b c → Alike held a c
alike_both held a b c first second =
    record { wanted = first.wanted ∙ second.wanted; looks = first.looks ∙ second.looks; refusal = first.refusal ∙ second.refusal }

pub alike_same : (held : Held) (a b : List Step) → a ≡ b → Alike held a b
alike_same held a b same =
    record { wanted = ap (wanted_in held) same; looks = ap looks_in same; refusal = ap refusal_in same }

passed_last : (held : Held) (steps : List Step) → Alike held (steps ++ (Checks None ∷ [])) steps
unfolding wanted_in looks_in refusal_in
passed_last held [] = record { wanted = refl; looks = refl; refusal = refl }
passed_last held (Looks l ∷ steps) =
    let rest = passed_last held steps in
    record {
      wanted = ap (λ w. cond (is_held held (part_of l)) w (Some (part_of l))) rest.wanted;
      looks = ap (λ ls. l ∷ ls) rest.looks;
      refusal = rest.refusal;
    }
passed_last held (Checks None ∷ steps) =
    let rest = passed_last held steps in record { wanted = rest.wanted; looks = rest.looks; refusal = rest.refusal }
passed_last held (Checks (Some status) ∷ steps) = record { wanted = refl; looks = refl; refusal = refl }

-- ---- the steps of what only reads

none_of_all : {X Y : Type 0} (f : X → List Y) → ((x : X) → f x ≡ []) → (xs : List X) → flat_map f xs ≡ []
none_of_all f none [] = refl
none_of_all f none (x ∷ xs) = ap (λ ys. ys ++ flat_map f xs) (none x) ∙ none_of_all f none xs

no_needs : (held : Held) → needs_steps held [] ≡ Checks None ∷ []
unfolding needs_maps
no_needs held =
    let none : nat_lt (sum_by (free_on held) (below held.geometry.memories)) 0 ≡ false = le-ltb (sum_by (free_on held) (below held.geometry.memories)) 0 (omega arith) in
    ap (λ b. Checks (cond b (Some nospc) None) ∷ []) none

touched_steps : (held : Held) (n : ℕ) (some : Bool) → flat_map (chain_steps held) (cond some (n ∷ []) []) ≡ chains_where held n some
touched_steps held n true = append-nil (chain_steps held n)
touched_steps held n false = refl

change_is : (held : Held) (start n : ℕ) (some : Bool)
    → change_steps held start (changes.reads n some) ≡ Checks None ∷ Checks None ∷ Checks None ∷ (chains_where held n some ++ (Checks None ∷ []))
change_is held start n some =
    ap (λ (ss : List Step). Checks None ∷ Checks None ∷ Checks None ∷ (ss ++ (flat_map (freeing_on held (changes.reads n some)) (below held.geometry.memories) ++ needs_steps held []))) (touched_steps held n some)
    ∙ ap (λ (ss : List Step). Checks None ∷ Checks None ∷ Checks None ∷ (chains_where held n some ++ (ss ++ needs_steps held [])))
    (none_of_all (freeing_on held (changes.reads n some)) (λ m. refl) (below held.geometry.memories))
    ∙ ap (λ (ss : List Step). Checks None ∷ Checks None ∷ Checks None ∷ (chains_where held n some ++ ss)) (no_needs held)

-- are looks at these chaining blocks
pub change_alike : (held : Held) (start n : ℕ) (some : Bool) → Alike held (change_steps held start (changes.reads n some)) (chains_where held n some)
change_alike held start n some =
    let body = chains_where held n some in
    let last = body ++ (Checks None ∷ []) in
    alike_both held (change_steps held start (changes.reads n some)) (Checks None ∷ Checks None ∷ Checks None ∷ last) body (alike_same held _ _ (change_is held start n some))
    (alike_both held (Checks None ∷ Checks None ∷ Checks None ∷ last) (Checks None ∷ Checks None ∷ last) body (passed_first held (Checks None ∷ Checks None ∷ last))
    (alike_both held (Checks None ∷ Checks None ∷ last) (Checks None ∷ last) body (passed_first held (Checks None ∷ last))
    (alike_both held (Checks None ∷ last) last body (passed_first held last) (passed_last held body))))

-- ---- the chaining blocks

abbrev pub chains_below : ℕ → ℕ → List Step
chains_below n k = map (λ i. Looks (Chaining n i)) (below k)

pub one_chain_more : (n k : ℕ) → chains_below n (suc k) ≡ chains_below n k ++ (Looks (Chaining n k) ∷ [])
unfolding below
one_chain_more n k = map-append (λ i. Looks (Chaining n i)) (below k) (k ∷ [])

one_look_refuses : (n k : ℕ) → refusal_in (Looks (Chaining n k) ∷ []) ≡ None
unfolding refusal_in
one_look_refuses n k = refl

pub chains_refuse : (n k : ℕ) → refusal_in (chains_below n k) ≡ None
unfolding refusal_in below
chains_refuse n zero = refl
chains_refuse n (suc k) =
    ap refusal_in (one_chain_more n k) ∙ joined_refuse_none (chains_below n k) (Looks (Chaining n k) ∷ []) (chains_refuse n k) (one_look_refuses n k)

none_refuses : refusal_in [] ≡ None
unfolding refusal_in
none_refuses = refl

pub change_refuses : (held : Held) (start n : ℕ) (some : Bool) → refusal_in (change_steps held start (changes.reads n some)) ≡ None
change_refuses held start n some = (change_alike held start n some).refusal ∙ by some
  where
    by : (b : Bool) → refusal_in (chains_where held n b) ≡ None
    by true = chains_refuse n (chains_of held n)
    by false = none_refuses

one_held : (held : Held) (n k : ℕ) → wanted_in held (Looks (Chaining n k) ∷ []) ≡ None → is_held held (want.Chain n k) ≡ true
unfolding wanted_in
one_held held n k none = look_held (is_held held (want.Chain n k)) (want.Chain n k) _ none

-- where none is wanted all are held
pub chains_held : (held : Held) (n m : ℕ) → wanted_in held (chains_below n m) ≡ None → (k : ℕ) → k < m → is_held held (want.Chain n k) ≡ true
chains_held held n zero none k below_it = absurd (omega (arith, below_it))
chains_held held n (suc m) none k below_it =
    let one = Looks (Chaining n m) ∷ [] in
    let all : wanted_in held (chains_below n m ++ one) ≡ None = ap (wanted_in held) (sym (one_chain_more n m)) ∙ none in
    elim (cases_lt k m) [
      | inl less ↦ chains_held held n m (front_wants_none held (chains_below n m) one all) k less
      | inr last ↦ subst (λ j. is_held held (want.Chain n j) ≡ true) (let same : m ≡ k = omega (arith, below_it, last) in same)
          (one_held held n m (sym (behind held (chains_below n m) one all (chains_refuse n m)).wanted ∙ all))
    ]
