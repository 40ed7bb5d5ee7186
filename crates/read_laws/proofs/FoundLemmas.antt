-- A name is found in what is held as in the tree.
use Rattle.std.proofs.Common.{◌≡◌, ◌≢◌, ℕ, zero, suc, ◌+◌, ◌*◌, ◌≤◌, true, false, cond, Bool, List, [], ◌∷◌, ◌++◌, length, take, drop, map, Option, Some, None, refl, sym, ap, ◌∙◌, arith}
use Rattle.std.specs.Prelude.{◌&&◌, not, bytes_eq, find, flat_map, is_some, option_map, option_and_then}
use Rattle.std.specs.Option.{option_or}
use Rattle.std.specs.List.{list_any}
use Rattle.std.proofs.lemmas.Bool.{ne_eqb}
use Rattle.std.proofs.lemmas.Cmp.{nat_list_eq_equiv}
use Rattle.std.proofs.lemmas.List.{drop-drop, drop_all, take-append-drop, map-append}
use Rattle.std.proofs.lemmas.List.Folds.{find-append}
use Rattle.fs_dir.specs.declared.slot.Slot.{Slot}
use Rattle.fs_dir.specs.Slots as blocks
use Rattle.fs_rules.specs.declared.entry.Entry.{Entry}
use Rattle.fs_rules.specs.Lists.{below}
use Rattle.fs_rules.specs.Slots as rules
use Rattle.fs_image.specs.Parts.{slot_of}
use Rattle.fs_image.specs.Records.{NameFiles}
use Rattle.fs_image.proofs.ContentLemmas.{tail_names}
use Rattle.node_cache.specs.declared.held.Held.{Held}
use Rattle.node_cache.specs.declared.want.Want.{Want}
use Rattle.node_cache.specs.declared.want.Want.TheVariants as want
use Rattle.plan_rules.specs.Names.{group_steps}
use Rattle.plan_rules.specs.Steps.{Step, is_held, wanted_in}
use Rattle.plan_rules.specs.Told.{group_of}
use Rattle.plan_looks.specs.Names.{groups_from}
use Rattle.plan_looks.proofs.LookLemmas.{any_found}
use Rattle.plan_looks.proofs.NameLemmas.{all_groups}
use Rattle.read_laws.proofs.AttrLemmas.{look_held}

-- ---- the tree's own search

named_alike : (name : List ℕ) (s : Option Entry) → ((e : Entry) → s ≡ Some e → e.file ≢ 0) → blocks.has_name name (slot_of s) ≡ rules.has_name name s
named_alike name None fine = refl
named_alike name (Some e) fine = ap (λ b. not b && bytes_eq e.name name) (ne_eqb e.file 0 (fine e refl)) ∙ nat_list_eq_equiv.symm e.name name

named_by : (name : List ℕ) (s : Option Entry) (slots : List (Option Entry)) (b c : Bool) → b ≡ c → (c ≡ true → option_map (λ (x : Slot). x.number) (Some (slot_of s)) ≡ option_map (λ e. e.file) s)
    → option_map (λ s. s.number) (find (blocks.has_name name) (map slot_of slots)) ≡ rules.file_named slots name
    → option_map (λ s. s.number) (cond b (Some (slot_of s)) (find (blocks.has_name name) (map slot_of slots)))
    ≡ option_and_then (λ slot. option_map (λ e. e.file) slot) (cond c (Some s) (find (rules.has_name name) slots))
named_by name s slots true true same here rest = here refl
named_by name s slots false false same here rest = rest
named_by name s slots true false same here rest = absurd cc
named_by name s slots false true same here rest = absurd cc

number_is : (name : List ℕ) (s : Option Entry) → rules.has_name name s ≡ true → option_map (λ (x : Slot). x.number) (Some (slot_of s)) ≡ option_map (λ e. e.file) s
number_is name None is = absurd cc
number_is name (Some e) is = refl

-- the number that a name has in the slots of blocks is that of the rules
pub named_is : (name : List ℕ) (slots : List (Option Entry)) → NameFiles slots
    → option_map (λ s. s.number) (find (blocks.has_name name) (map slot_of slots)) ≡ rules.file_named slots name
named_is name [] names = refl
named_is name (s ∷ slots) names =
    named_by name s slots (blocks.has_name name (slot_of s)) (rules.has_name name s) (named_alike name s (λ e is. names 0 e (ap Some is))) (number_is name s)
    (named_is name slots (tail_names s slots names))

-- ---- group by group

first_or : {X : Type 0} (o p q : Option X) → is_some o ≡ true → option_or o p ≡ option_or o q
first_or None p q some = absurd cc
first_or (Some x) p q some = refl

module _ (held : Held) (n : ℕ) (slots : List (Option Entry)) (groups : ℕ)
    (own : (g : ℕ) → is_held held (want.Slots n g) ≡ true → group_of held n g ≡ map slot_of (take 960 (drop (960 * g) slots)))
    (few : length slots ≤ 960 * groups) (p : Slot → Bool) where
  abbrev rest_of : ℕ → List Slot
  rest_of g = map slot_of (drop (960 * g) slots)

  -- the slots from a group on are those of the group and the rest
  next_rest : (g : ℕ) → rest_of g ≡ map slot_of (take 960 (drop (960 * g) slots)) ++ rest_of (g + 1)
  next_rest g =
      let some = drop (960 * g) slots in
      let place : 960 * g + 960 ≡ 960 * (g + 1) = omega arith in
      ap (map slot_of) (sym (take-append-drop 960 some)) ∙ map-append slot_of (take 960 some) (drop 960 some)
      ∙ ap (λ xs. map slot_of (take 960 some) ++ map slot_of xs) (drop-drop 960 (960 * g) slots ∙ ap (λ k. drop k slots) place)

  no_rest : (g : ℕ) → groups ≤ g → rest_of g ≡ []
  no_rest g past = ap (map slot_of) (drop_all (960 * g) slots (omega (arith, past, few)))

  -- where the search goes on, the rest is found in the rest
  step : (g : ℕ) (more : List Slot) (c : Bool) → list_any p (group_of held n g) ≡ c → (c ≡ false → find p more ≡ find p (rest_of (g + 1)))
      → option_or (find p (group_of held n g)) (find p more) ≡ option_or (find p (group_of held n g)) (find p (rest_of (g + 1)))
  step g more true some rest = first_or (find p (group_of held n g)) (find p more) (find p (rest_of (g + 1))) (sym (any_found p (group_of held n g)) ∙ some)
  step g more false none rest = ap (λ o. option_or (find p (group_of held n g)) o) (rest refl)

  found_here : (g : ℕ) (more : List Slot) → is_held held (want.Slots n g) ≡ true
      → (list_any p (group_of held n g) ≡ false → find p more ≡ find p (rest_of (g + 1))) → find p (group_of held n g ++ more) ≡ find p (rest_of g)
  found_here g more there go =
      find-append p (group_of held n g) more ∙ step g more (list_any p (group_of held n g)) refl go
      ∙ ap (λ xs. option_or (find p xs) (find p (rest_of (g + 1)))) (own g there)
      ∙ sym (find-append p (map slot_of (take 960 (drop (960 * g) slots))) (rest_of (g + 1))) ∙ ap (find p) (sym (next_rest g))

  look_rest : (b : Bool) (w : Want) (rest : Option Want) → cond b rest (Some w) ≡ None → rest ≡ None
  look_rest true w rest is = is
  look_rest false w rest is = absurd cc

  goes_on : (b : Bool) (steps : List Step) → wanted_in held (cond b [] steps) ≡ None → b ≡ false → wanted_in held steps ≡ None
  goes_on true steps none is = absurd cc
  goes_on false steps none is = none

  -- what is found in the groups from one on, where no part of the search is wanted, is what the tree has from there on
  walk : (g left : ℕ) → g + left ≡ groups → wanted_in held (group_steps held n (list_any p) g left) ≡ None → find p (groups_from held n g left) ≡ find p (rest_of g)
  unfolding groups_from group_steps wanted_in
  walk g zero all none = ap (find p) (sym (no_rest g (omega (arith, all))))
  walk g (suc left) all none =
      let there = look_held (is_held held (want.Slots n g)) (want.Slots n g) _ none in
      let rest = look_rest (is_held held (want.Slots n g)) (want.Slots n g) _ none in
      found_here g (groups_from held n (g + 1) left) there
      (λ last. walk (g + 1) left (omega (arith, all)) (goes_on (list_any p (group_of held n g)) (group_steps held n (list_any p) (g + 1) left) rest last))

  pub found_all : wanted_in held (group_steps held n (list_any p) 0 groups) ≡ None → find p (flat_map (group_of held n) (below groups)) ≡ find p (map slot_of slots)
  found_all none = ap (find p) (sym (all_groups held n groups)) ∙ walk 0 groups (omega arith) none
