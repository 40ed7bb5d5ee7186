-- What is found is held.
use Rattle.std.proofs.Common.{◌≡◌, ℕ, true, false, cond, Bool, List, [], ◌∷◌, Option, Some, None, refl, sym, ap, ◌∙◌}
use Rattle.std.specs.Prelude.{◌==◌, ◌||◌, not, find, is_some, option_map, option_and_then, bytes_eq}
use Rattle.std.specs.Option.{option_map_or}
use Rattle.std.specs.List.{list_any}
use Rattle.fs_layout.specs.declared.attrs.Attrs.{Attrs}
use Rattle.fs_rules.specs.declared.file.File.{File}
use Rattle.fs_rules.specs.Handle.{handle, number_in}
use Rattle.fs_rules.specs.Statuses.{first_failure, stale}
use Rattle.fs_checks.specs.Facts.{facts_by, bare}
use Rattle.node_cache.specs.declared.entry.Entry.{Entry}
use Rattle.node_cache.specs.declared.entry.HeldGroup.{HeldGroup}
use Rattle.node_cache.specs.declared.held.Held.{Held}
use Rattle.node_cache.specs.declared.want.Want.TheVariants as want
use Rattle.node_cache.specs.Cached.{held_of}
use Rattle.plan_rules.specs.Orders.{handle_check}
use Rattle.plan_rules.specs.Steps.{is_held}
use Rattle.plan_rules.specs.Told.{at_record, chain_of, file_of, group_of}
use Rattle.plan_looks.specs.Held.{group_in}
use Rattle.plan_looks.specs.Live.{file_by}

any_by : {X : Type 0} (x : X) (b c : Bool) (o : Option X) → c ≡ is_some o → b || c ≡ is_some (cond b (Some x) o)
any_by x true c o rest = refl
any_by x false c o rest = rest

-- one passes a test exactly where one is found
pub any_found : {X : Type 0} (p : X → Bool) (xs : List X) → list_any p xs ≡ is_some (find p xs)
any_found p [] = refl
any_found p (x ∷ xs) = any_by x (p x) (list_any p xs) (find p xs) (any_found p xs)

still_some : {X Y : Type 0} (f : X → Y) (o : Option X) → is_some (option_map f o) ≡ is_some o
still_some f None = refl
still_some f (Some x) = refl

module _ (held : Held) (n : ℕ) where
  pub record_is_held : is_held held (want.Inode n) ≡ is_some (option_map (λ e. e.attrs) (held_of n held.entries))
  record_is_held = sym (still_some (λ e. e.attrs) (held_of n held.entries))

  chain_by : (k : ℕ) (o : Option Entry) → option_map_or (λ e. list_any (λ c. c.index == k) e.chains) o false
      ≡ is_some (option_and_then (λ e. option_map (λ c. c.chain) (find (λ c. c.index == k) e.chains)) o)
  chain_by k None = refl
  chain_by k (Some e) = any_found (λ c. c.index == k) e.chains ∙ sym (still_some (λ c. c.chain) (find (λ c. c.index == k) e.chains))

  pub chain_is_held : (k : ℕ) → is_held held (want.Chain n k) ≡ is_some (chain_of held n k)
  chain_is_held k = chain_by k (held_of n held.entries)

  group_by : (g : ℕ) (o : Option Entry) → option_map_or (λ e. list_any (λ s. s.group == g) e.groups) o false
      ≡ is_some (option_and_then (λ e. find (λ s. s.group == g) e.groups) o)
  group_by g None = refl
  group_by g (Some e) = any_found (λ s. s.group == g) e.groups

  pub group_is_held : (g : ℕ) → is_held held (want.Slots n g) ≡ is_some (group_in held n g)
  group_is_held g = group_by g (held_of n held.entries)

  slots_by : (s : HeldGroup) (g : ℕ) (o : Option Entry) → option_and_then (λ e. find (λ s. s.group == g) e.groups) o ≡ Some s
      → option_map_or (λ e. option_map_or (λ s. s.slots) (find (λ s. s.group == g) e.groups) []) o [] ≡ s.slots
  slots_by s g None is = absurd cc
  slots_by s g (Some e) is = ap (λ o. option_map_or (λ s. s.slots) o []) is

  -- the slots of a group that is held
  pub slots_are : (s : HeldGroup) (g : ℕ) → group_in held n g ≡ Some s → group_of held n g ≡ s.slots
  slots_are s g is = slots_by s g (held_of n held.entries) is

  record_by : {A : Type 0} (other : A) (said : Attrs → A) (a : Attrs) (o : Option Entry) → option_map (λ e. e.attrs) o ≡ Some a
      → option_map_or (λ e. said e.attrs) o other ≡ said a
  record_by other said a None is = absurd cc
  record_by other said a (Some e) is = let same : e.attrs ≡ a = cc in ap said same

  -- what is said of a record that is held
  pub record_says : {A : Type 0} (other : A) (said : Attrs → A) (a : Attrs) → option_map (λ e. e.attrs) (held_of n held.entries) ≡ Some a
      → at_record held n other said ≡ said a
  record_says other said a is = record_by other said a (held_of n held.entries) is

module _ (held : Held) (name : List ℕ) (a : Attrs) (is : option_map (λ e. e.attrs) (held_of (number_in name) held.entries) ≡ Some a) where
  -- the file of a handle whose record is held
  pub file_is : file_of held name ≡ file_by name a
  file_is =
      ap (λ (o : Option File). option_and_then (λ f. cond (bytes_eq name (handle (number_in name) f.generation)) (Some f) None) o)
      (record_says held (number_in name) None (λ a. option_map bare (facts_by a)) a is)

  pub live_passes : (f : File) → file_by name a ≡ Some f → first_failure (handle_check held name ∷ []) ≡ None
  unfolding first_failure
  live_passes f there = ap (λ (o : Option File). first_failure (cond (not (is_some o)) (Some stale) None ∷ [])) (file_is ∙ there)

  pub stale_fails : (s : ℕ) → file_by name a ≡ None → s ≡ stale → first_failure (handle_check held name ∷ []) ≡ Some s
  unfolding first_failure
  stale_fails s none same = ap (λ (o : Option File). first_failure (cond (not (is_some o)) (Some stale) None ∷ [])) (file_is ∙ none) ∙ ap Some (sym same)
