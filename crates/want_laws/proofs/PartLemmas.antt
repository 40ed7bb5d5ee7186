-- Numbers that parts which are held tell are numbers of the cluster.
use Rattle.std.proofs.Common.{◌≡◌, ℕ, zero, suc, ◌+◌, ◌*◌, ◌<◌, ◌≤◌, true, false, cond, Bool, IsTrue, List, [], ◌∷◌, ◌++◌, Option, Some, None, refl, sym, subst, ◌∙◌, arith}
use Rattle.std.specs.Prelude.{◌==◌, ◌&&◌, nat_eq, nat_lt, find, flat_map, not, option_map}
use Rattle.std.specs.Option.{option_map_or, option_or}
use Rattle.std.specs.List.{AllByRecursion}
use Rattle.std.proofs.Math.Nat.{mod-lt}
use Rattle.std.proofs.lemmas.Bool.{lt-ltb, ltb-true}
use Rattle.std.proofs.lemmas.List.Elements.{recursion_from_All}
use Rattle.fs_layout.specs.Places.{number_of}
use Rattle.fs_bitmap.specs.Bits.{is_used}
use Rattle.fs_dir.specs.declared.slot.Slot.{Slot}
use Rattle.fs_dir.specs.Slots.{has_name, in_use}
use Rattle.fs_rules.specs.declared.geometry.Geometry.{Geometry}
use Rattle.fs_rules.specs.Lists.{below}
use Rattle.node_cache.specs.declared.entry.Entry.{Entry}
use Rattle.node_cache.specs.declared.entry.HeldGroup.{HeldGroup}
use Rattle.node_cache.specs.declared.held.Held.{Held}
use Rattle.node_cache.specs.declared.want.Want.TheVariants as want
use Rattle.node_cache.specs.Cached.{held_of}
use Rattle.plan_rules.specs.declared.look.Look.TheVariants.{Record, Chaining, Group}
use Rattle.plan_rules.specs.Blocks.{chain_steps}
use Rattle.plan_rules.specs.Fits.{IsFitSlot}
use Rattle.plan_rules.specs.Names.{group_steps, record_steps, slot_steps}
use Rattle.plan_rules.specs.Room.{turned, number_from, new_number}
use Rattle.plan_rules.specs.Steps.{Step, Looks, is_held, wanted_in}
use Rattle.plan_rules.specs.Told.{memory_at, inode_at, is_number, at_record, chains_of, dir_blocks, dir_groups, group_of, slots_of, found, free_number, inode_bits}
use Rattle.plan_rules.specs.Works.{IsFitEntry, IsWorkSet}
use Rattle.plan_rules.proofs.SearchLemmas.{found_there}
use Rattle.content_laws.proofs.StepLemmas.{chains_below, chains_held, one_chain_more}
use Rattle.want_laws.proofs.TellLemmas.{Tells, both, look_tells, nothing_tells, where_tells}

-- ---- what is found passes

found_one : {X : Type 0} (P : X → Type 0) (p : X → Bool) (y x : X) (ys : List X) (b : Bool) → p y ≡ b → P y → (find p ys ≡ Some x → P x × (p x ≡ true))
    → cond b (Some y) (find p ys) ≡ Some x → P x × (p x ≡ true)
found_one P p y x ys true test here rest is = let same : y ≡ x = cc in (subst P same here, subst (λ z. p z ≡ true) same test)
found_one P p y x ys false test here rest is = rest is

all_found : {X : Type 0} (P : X → Type 0) (p : X → Bool) (xs : List X) → AllByRecursion P xs → (x : X) → find p xs ≡ Some x → P x × (p x ≡ true)
all_found P p [] all x is = absurd cc
all_found P p (y ∷ ys) all x is = found_one P p y x ys (p y) refl all.0 (all_found P p ys all.1 x) is

all_joined : {X : Type 0} (P : X → Type 0) (xs ys : List X) → AllByRecursion P xs → AllByRecursion P ys → AllByRecursion P (xs ++ ys)
all_joined P [] ys first second = second
all_joined P (x ∷ xs) ys first second = (first.0, all_joined P xs ys first.1 second)

all_flat : {X Y : Type 0} (P : Y → Type 0) (f : X → List Y) → ((x : X) → AllByRecursion P (f x)) → (xs : List X) → AllByRecursion P (flat_map f xs)
all_flat P f each [] = tt
all_flat P f each (x ∷ xs) = all_joined P (f x) (flat_map f xs) (each x) (all_flat P f each xs)

and_first : (a b : Bool) → a && b ≡ true → a ≡ true
and_first true b is = refl
and_first false b is = absurd cc

some_is : {X : Type 0} (x y : X) → ◌≡◌ {A = Option X} (Some x) (Some y) → x ≡ y
some_is x y is = cc

pub all_below : (n k : ℕ) → k ≤ n → AllByRecursion (λ j. j < n) (below k)
unfolding below
all_below n zero few = tt
all_below n (suc k) few = all_joined (λ j. j < n) (below k) (k ∷ []) (all_below n k (omega (arith, few))) (omega (arith, few), tt)

both_true : (a b : Bool) → a ≡ true → b ≡ true → a && b ≡ true
both_true true b first second = second
both_true false b first second = absurd cc

-- an inode of a memory node is that of a number of the cluster
number_there : (g : Geometry) (m i : ℕ) → m < g.memories → i < g.inodes → g.inodes ≤ 16384 → IsTrue (is_number g (number_of m i))
number_there g m i memory inode few =
    let at : memory_at (number_of m i) ≡ m = omega (arith, inode, few) in
    let there : inode_at (number_of m i) ≡ i = omega (arith, inode, few) in
    both_true (nat_lt 0 (number_of m i)) _ (lt-ltb 0 (number_of m i) (omega arith))
    (both_true (nat_lt (memory_at (number_of m i)) g.memories) _ (lt-ltb (memory_at (number_of m i)) g.memories (omega (arith, at, memory)))
    (lt-ltb (inode_at (number_of m i)) g.inodes (omega (arith, there, inode))))

module _ (held : Held) (work : IsWorkSet held) where
  pub entry_fits : (n : ℕ) (e : Entry) → held_of n held.entries ≡ Some e → IsFitEntry held.geometry e
  entry_fits n e is = let there = found_there (λ x. nat_eq n x.number) e held.entries is in work.entries there.0 e there.1

  -- ---- slots

  slots_by : (g : ℕ) (e : Entry) → IsFitEntry held.geometry e → (p : Option HeldGroup) → find (λ s. s.group == g) e.groups ≡ p
      → AllByRecursion (IsFitSlot held.geometry) (option_map_or (λ s. s.slots) p [])
  slots_by g e fit None is = tt
  slots_by g e fit (Some s) is =
      let there = found_there (λ (x : HeldGroup). x.group == g) s e.groups is in
      recursion_from_All (IsFitSlot held.geometry) s.slots (fit.groups there.0 s there.1)

  group_by : (n g : ℕ) (p : Option Entry) → held_of n held.entries ≡ p
      → AllByRecursion (IsFitSlot held.geometry) (option_map_or (λ e. option_map_or (λ s. s.slots) (find (λ s. s.group == g) e.groups) []) p [])
  group_by n g None is = tt
  group_by n g (Some e) is = slots_by g e (entry_fits n e is) (find (λ s. s.group == g) e.groups) refl

  all_fit : (n : ℕ) → AllByRecursion (IsFitSlot held.geometry) (slots_of held n)
  all_fit n = all_flat (IsFitSlot held.geometry) (group_of held n) (λ g. group_by n g (held_of n held.entries) refl) (below (at_record held n 0 dir_groups))

  found_by : (name : List ℕ) (n m : ℕ) (p : Option Slot) → find (has_name name) (slots_of held n) ≡ p → option_map (λ s. s.number) p ≡ Some m → IsTrue (is_number held.geometry m)
  found_by name n m None is number = absurd cc
  found_by name n m (Some s) is number =
      let fit = all_found (IsFitSlot held.geometry) (has_name name) (slots_of held n) (all_fit n) s is in
      subst (λ k. IsTrue (is_number held.geometry k)) (some_is s.number m number) (fit.0.number (and_first (in_use s) _ fit.1))

  -- a file that a name names has a number of the cluster
  pub found_number : (n : ℕ) (name : List ℕ) (m : ℕ) → found held n name ≡ Some m → IsTrue (is_number held.geometry m)
  found_number n name m is = found_by name n m (find (has_name name) (slots_of held n)) refl is

  -- ---- groups of slots

  blocks_told : (n : ℕ) (p : Option Entry) → held_of n held.entries ≡ p → 0 < option_map_or (λ e. dir_blocks e.attrs) p 0 → 0 < option_map_or (λ e. e.attrs.chains) p 0
  blocks_told n None is some = some
  blocks_told n (Some e) is some = (entry_fits n e is).attrs.blocks some

  groups_by : (n g : ℕ) (p : Option Entry) → g < option_map_or (λ e. dir_groups e.attrs) p 0 → 64 * g < option_map_or (λ e. dir_blocks e.attrs) p 0
  groups_by n g None less = absurd (omega (arith, less))
  groups_by n g (Some e) less = omega (arith, less)

  groups_tell : (n : ℕ) (ends : List Slot → Bool) (g left : ℕ) → g + left ≡ at_record held n 0 dir_groups
      → (0 < at_record held n 0 dir_groups → is_held held (want.Chain n 0) ≡ true) → Tells held (group_steps held n ends g left)
  unfolding group_steps
  groups_tell n ends g zero all first = nothing_tells held
  groups_tell n ends g (suc left) all first =
      let less : g < at_record held n 0 dir_groups = omega (arith, all) in
      let more : g + 1 + left ≡ at_record held n 0 dir_groups = omega (arith, all) in
      look_tells held (Group n g) _ (groups_by n g (held_of n held.entries) less, first (omega (arith, less)))
      (λ here. where_tells held (ends (group_of held n g)) [] (group_steps held n ends (g + 1) left) (λ is. nothing_tells held) (λ is. groups_tell n ends (g + 1) left more first))

  abbrev first_look : ℕ → List Step
  first_look n = cond (nat_lt 0 (chains_of held n)) (Looks (Chaining n 0) ∷ []) []

  first_tells : (n : ℕ) → Tells held (first_look n)
  first_tells n =
      where_tells held (nat_lt 0 (chains_of held n)) (Looks (Chaining n 0) ∷ []) []
      (λ is. look_tells held (Chaining n 0) [] (ltb-true 0 (chains_of held n) is, λ i less. absurd (omega (arith, less))) (λ here. nothing_tells held)) (λ is. nothing_tells held)

  first_held : (n : ℕ) (b : Bool) → b ≡ true → wanted_in held (cond b (Looks (Chaining n 0) ∷ []) []) ≡ None → is_held held (want.Chain n 0) ≡ true
  unfolding wanted_in
  first_held n true some none = by (is_held held (want.Chain n 0)) none
    where
      by : (c : Bool) → cond c None (Some (want.Chain n 0)) ≡ None → c ≡ true
      by true is = refl
      by false is = absurd cc
  first_held n false some none = absurd cc

  -- the slots of a directory are told
  pub slots_tell : (n : ℕ) (ends : List Slot → Bool) → Tells held (slot_steps held n ends)
  slots_tell n ends =
      both held (first_look n) (group_steps held n ends 0 (at_record held n 0 dir_groups)) (first_tells n)
      (λ none passes. groups_tell n ends 0 (at_record held n 0 dir_groups) (omega arith)
      (λ some. (
      let blocks = groups_by n 0 (held_of n held.entries) some in
      let chains = blocks_told n (held_of n held.entries) refl (omega (arith, blocks)) in
      first_held n (nat_lt 0 (chains_of held n)) (lt-ltb 0 (chains_of held n) chains) none)))

  -- and so is the record of a file with a number of the cluster
  pub record_tells : (p : Option ℕ) → ((m : ℕ) → p ≡ Some m → IsTrue (is_number held.geometry m)) → Tells held (record_steps p)
  record_tells None number = nothing_tells held
  record_tells (Some m) number = look_tells held (Record m) [] (number m refl) (λ here. nothing_tells held)

  -- ---- chaining blocks

  one_told : (n k : ℕ) → k < chains_of held n → wanted_in held (chains_below n k) ≡ None → Tells held (Looks (Chaining n k) ∷ [])
  one_told n k less none = look_tells held (Chaining n k) [] (less, λ i below_it. chains_held held n k none i below_it) (λ here. nothing_tells held)

  chains_by : (n k : ℕ) → k ≤ chains_of held n → Tells held (chains_below n k)
  unfolding below
  chains_by n zero few = nothing_tells held
  chains_by n (suc k) few =
      subst (λ (ss : List Step). Tells held ss) (sym (one_chain_more n k))
      (both held (chains_below n k) (Looks (Chaining n k) ∷ []) (chains_by n k (omega (arith, few))) (λ none passes. one_told n k (omega (arith, few)) none))

  -- all chaining blocks of a file are told
  pub chains_tell : (n : ℕ) → Tells held (chain_steps held n)
  chains_tell n = chains_by n (chains_of held n) (omega arith)

  -- ---- maps

  pub turned_within : (at : ℕ) → turned held at < held.geometry.memories
  turned_within at = let one = work.limits.memories.0 in let some : 0 < held.geometry.memories = omega (arith, one) in mod-lt at some

  -- ---- a new number

  free_by : (m : ℕ) → m < held.geometry.memories → (p : Option ℕ) → find (λ i. not (is_used (inode_bits held m) i)) (below held.geometry.inodes) ≡ p → (k : ℕ)
      → option_map (number_of m) p ≡ Some k → IsTrue (is_number held.geometry k)
  free_by m less None is k number = absurd cc
  free_by m less (Some i) is k number =
      let among = all_found (λ j. j < held.geometry.inodes) (λ j. not (is_used (inode_bits held m) j)) (below held.geometry.inodes) (all_below held.geometry.inodes held.geometry.inodes (omega arith)) i is in
      subst (λ x. IsTrue (is_number held.geometry x)) (some_is (number_of m i) k number) (number_there held.geometry m i less among.0 work.limits.inodes.1)

  one_of : (at left k : ℕ) (p : Option ℕ) → free_number held (turned held at) ≡ p → (number_from held (at + 1) left ≡ Some k → IsTrue (is_number held.geometry k))
      → option_or p (number_from held (at + 1) left) ≡ Some k → IsTrue (is_number held.geometry k)
  one_of at left k None none rest is = rest is
  one_of at left k (Some j) some rest is =
      free_by (turned held at) (turned_within at) (find (λ i. not (is_used (inode_bits held (turned held at)) i)) (below held.geometry.inodes)) refl k (some ∙ is)

  number_by : (at left k : ℕ) → number_from held at left ≡ Some k → IsTrue (is_number held.geometry k)
  unfolding number_from
  number_by at zero k is = absurd cc
  number_by at (suc left) k is = one_of at left k (free_number held (turned held at)) refl (number_by (at + 1) left k) is

  pub new_is_number : (start k : ℕ) → new_number held start ≡ Some k → IsTrue (is_number held.geometry k)
  new_is_number start k is = number_by start held.geometry.memories k is
