-- Groups of slots, one after another.
use Rattle.std.proofs.Common.{◌≡◌, ◌≢◌, ℕ, zero, suc, ◌+◌, ◌-◌, true, false, cond, Bool, List, [], ◌∷◌, ◌++◌, Option, Some, None, refl, sym, ap, ◌∙◌, arith, append_assoc}
use Rattle.std.specs.Prelude.{nat_lt, find, flat_map, is_some, option_map}
use Rattle.std.specs.Option.{option_map_or, option_or}
use Rattle.std.specs.List.{list_any}
use Rattle.std.proofs.lemmas.Bool.{lt-ltb}
use Rattle.std.proofs.lemmas.List.{append-nil}
use Rattle.std.proofs.lemmas.List.Folds.{find-append}
use Rattle.fs_layout.specs.declared.attrs.Attrs.{Attrs}
use Rattle.fs_dir.specs.declared.slot.Slot.{Slot}
use Rattle.fs_dir.specs.Slots.{has_name}
use Rattle.fs_rules.specs.Lists.{below}
use Rattle.node_cache.specs.declared.held.Held.{Held}
use Rattle.node_cache.specs.Cached.{held_of}
use Rattle.plan_rules.specs.declared.look.Look.TheVariants.{Chaining, Group}
use Rattle.plan_rules.specs.Names.{group_steps}
use Rattle.plan_rules.specs.Steps.{Step, Looks}
use Rattle.plan_rules.specs.Told.{chains_of, dir_groups, found, group_of}
use Rattle.plan_looks.specs.Names.{first_steps, groups_from, named_in}
use Rattle.plan_looks.proofs.LookLemmas.{any_found, record_says}

-- ---- the first chaining block

module _ (held : Held) (n : ℕ) (a : Attrs) (is : option_map (λ e. e.attrs) (held_of n held.entries) ≡ Some a) where
  chains_are : chains_of held n ≡ a.chains
  chains_are = record_says held n 0 (λ a. a.chains) a is

  pub no_first : a.chains ≡ 0 → first_steps held n ≡ []
  no_first none = ap (λ k. cond (nat_lt 0 k) (Looks (Chaining n 0) ∷ []) []) (chains_are ∙ none)

  pub one_first : a.chains ≢ 0 → first_steps held n ≡ Looks (Chaining n 0) ∷ []
  one_first some =
      let test : nat_lt 0 (chains_of held n) ≡ true = lt-ltb 0 (chains_of held n) (omega (arith, chains_are, some)) in
      ap (λ b. cond b (Looks (Chaining n 0) ∷ []) []) test

  pub groups_are : {A : Type 0} (f : ℕ → A) → f (dir_groups a) ≡ f (option_map_or (λ e. dir_groups e.attrs) (held_of n held.entries) 0)
  groups_are f = ap f (sym (record_says held n 0 dir_groups a is))

-- ---- groups

module _ (held : Held) (n : ℕ) where
  module _ (ends : List Slot → Bool) (g : ℕ) where
    pub no_groups : group_steps held n ends g 0 ≡ []
    unfolding group_steps
    no_groups = refl

    front_by : (l : ℕ) → group_steps held n ends g (suc l) ≡ Looks (Group n g) ∷ cond (ends (group_of held n g)) [] (group_steps held n ends (g + 1) l)
    unfolding group_steps
    front_by l = refl

    -- the look at a group, and the rest
    pub groups_front : (left : ℕ) → left ≢ 0 → group_steps held n ends g left ≡ (Looks (Group n g) ∷ []) ++ cond (ends (group_of held n g)) [] (group_steps held n ends (g + 1) (left - 1))
    groups_front left some =
        let same : left ≡ suc (left - 1) = omega (arith, some) in
        ap (λ l. group_steps held n ends g l) same ∙ front_by (left - 1)

    pub rest_none : (rest : List Step) → ends (group_of held n g) ≡ true → cond (ends (group_of held n g)) [] rest ≡ []
    rest_none rest is = ap (λ b. cond b [] rest) is

    pub rest_some : (rest : List Step) → ends (group_of held n g) ≡ false → cond (ends (group_of held n g)) [] rest ≡ rest
    rest_some rest is = ap (λ b. cond b [] rest) is

  module _ (name : List ℕ) (slots : List Slot) where
    still : (o : Option Slot) → is_some (option_map (λ s. s.number) o) ≡ is_some o
    still None = refl
    still (Some s) = refl

    pub ends_with : (m : Option ℕ) → named_in name slots ≡ m → list_any (has_name name) slots ≡ is_some m
    ends_with m is = any_found (has_name name) slots ∙ sym (still (find (has_name name) slots)) ∙ ap (λ (o : Option ℕ). is_some o) is

  or_by : (name : List ℕ) (m : ℕ) (o p : Option Slot) → option_map (λ s. s.number) o ≡ Some m → option_map (λ s. s.number) (option_or o p) ≡ Some m
  or_by name m None p is = absurd cc
  or_by name m (Some s) p is = is

  else_by : (name : List ℕ) (o p : Option Slot) → option_map (λ s. s.number) o ≡ None → option_map (λ s. s.number) (option_or o p) ≡ option_map (λ s. s.number) p
  else_by name None p is = refl
  else_by name (Some s) p is = absurd cc

  module _ (name : List ℕ) (g left : ℕ) (some : left ≢ 0) where
    first_of : (l : ℕ) → groups_from held n g (suc l) ≡ group_of held n g ++ groups_from held n (g + 1) l
    unfolding groups_from
    first_of l = refl

    in_turn : named_in name (groups_from held n g left)
        ≡ option_map (λ s. s.number) (option_or (find (has_name name) (group_of held n g)) (find (has_name name) (groups_from held n (g + 1) (left - 1))))
    in_turn =
        let same : left ≡ suc (left - 1) = omega (arith, some) in
        ap (λ l. named_in name (groups_from held n g l)) same ∙ ap (named_in name) (first_of (left - 1))
        ∙ ap (option_map (λ s. s.number)) (find-append (has_name name) (group_of held n g) (groups_from held n (g + 1) (left - 1)))

    pub found_first : (m : ℕ) → named_in name (group_of held n g) ≡ Some m → Some m ≡ named_in name (groups_from held n g left)
    found_first m is =
        sym (in_turn ∙ or_by name m (find (has_name name) (group_of held n g)) (find (has_name name) (groups_from held n (g + 1) (left - 1))) is)

    pub found_behind : named_in name (group_of held n g) ≡ None → named_in name (groups_from held n (g + 1) (left - 1)) ≡ named_in name (groups_from held n g left)
    found_behind is =
        sym (in_turn ∙ else_by name (find (has_name name) (group_of held n g)) (find (has_name name) (groups_from held n (g + 1) (left - 1))) is)

  pub found_nowhere : (name : List ℕ) (g : ℕ) → None ≡ named_in name (groups_from held n g 0)
  unfolding groups_from
  found_nowhere name g = refl

  -- ---- all groups

  one_more : (g k : ℕ) → groups_from held n g (suc k) ≡ groups_from held n g k ++ group_of held n (g + k)
  unfolding groups_from
  one_more g zero = append-nil (group_of held n g) ∙ ap (group_of held n) (let same : g ≡ g + 0 = omega arith in same)
  one_more g (suc k) =
      let same : (g + 1) + k ≡ g + suc k = omega arith in
      ap (λ xs. group_of held n g ++ xs) (one_more (g + 1) k)
      ∙ sym (append_assoc (group_of held n g) (groups_from held n (g + 1) k) (group_of held n ((g + 1) + k)))
      ∙ ap (λ j. (group_of held n g ++ groups_from held n (g + 1) k) ++ group_of held n j) same

  flat_last : (f : ℕ → List Slot) (xs : List ℕ) (k : ℕ) → flat_map f (xs ++ k ∷ []) ≡ flat_map f xs ++ f k
  flat_last f [] k = append-nil (f k)
  flat_last f (x ∷ xs) k = ap (λ ys. f x ++ ys) (flat_last f xs k) ∙ sym (append_assoc (f x) (flat_map f xs) (f k))

  pub all_groups : (k : ℕ) → groups_from held n 0 k ≡ flat_map (group_of held n) (below k)
  unfolding groups_from below
  all_groups zero = refl
  all_groups (suc k) =
      let same : 0 + k ≡ k = omega arith in
      one_more 0 k ∙ ap (λ xs. xs ++ group_of held n (0 + k)) (all_groups k) ∙ ap (λ j. flat_map (group_of held n) (below k) ++ group_of held n j) same
      ∙ sym (flat_last (group_of held n) (below k) k)

  pub found_in_all : (name : List ℕ) (a : Attrs) → option_map (λ e. e.attrs) (held_of n held.entries) ≡ Some a
      → named_in name (groups_from held n 0 (dir_groups a)) ≡ found held n name
  found_in_all name a is =
      ap (named_in name) (all_groups (dir_groups a)) ∙ groups_are held n a is (λ k. named_in name (flat_map (group_of held n) (below k)))
