-- The maps that are looked at, and what is taken by them.
use Rattle.std.proofs.Common.{◌≡◌, ◌≢◌, ℕ, zero, suc, ◌+◌, ◌-◌, ◌*◌, ◌<◌, ◌≤◌, true, false, cond, Bool, List, [], ◌∷◌, ◌++◌, length, take, Option, Some, None, refl, sym, ap, ◌∙◌, arith, append_assoc}
use Rattle.std.specs.Prelude.{get_or, is_some, min, nat_lt, slice_get, sum_by, unwrap_or}
use Rattle.std.proofs.lemmas.Bool.{lt-ltb}
use Rattle.std.proofs.lemmas.Bool.Decides.{nat_tests}
use Rattle.std.proofs.lemmas.List.{append-nil, length-take}
use Rattle.fs_bitmap.specs.Bits.{free_below}
use Rattle.fs_layout.specs.declared.reference.Reference.{Reference}
use Rattle.fs_rules.specs.Lists.{below}
use Rattle.fs_rules.specs.Statuses.{Check, fails_where, first_failure, nospc}
use Rattle.node_cache.specs.declared.held.Held.{Held}
use Rattle.node_cache.specs.declared.want.Want.TheVariants.{Map}
use Rattle.plan_rules.specs.declared.look.Look.{Look}
use Rattle.plan_rules.specs.declared.look.Look.TheVariants.{BlockBits}
use Rattle.plan_rules.specs.Room.{needs_maps, needs_steps, room_maps, turned}
use Rattle.plan_rules.specs.Steps.{Step, Looks, Checks, is_held, wanted_in}
use Rattle.plan_rules.specs.Told.{block_bits, free_on, map_of}
use Rattle.plan_rules.specs.Works.{IsWorkSet}
use Rattle.plan_looks.specs.Goes.{GoesOn}
use Rattle.plan_room.specs.Picked.{free_blocks, free_of, on_memory, picked, picked_from}
use Rattle.plan_room.proofs.PickLemmas.{all_sized}

-- ---- one map

none_taken : (n : ℕ) → take {A = ℕ} n [] ≡ []
none_taken zero = refl
none_taken (suc n) = refl

-- none is added where none is free
pub nothing_picked : (places : List Reference) (m need : ℕ) (bs : List ℕ) → bs ≡ [] → places ≡ places ++ on_memory m (take need bs)
nothing_picked places m need bs none =
    sym (append-nil places) ∙ ap (λ (xs : List ℕ). places ++ on_memory m xs) (sym (none_taken need) ∙ ap (take need) (sym none))

-- the lowest is added, and then the others
pub one_picked : (places mid all : List Reference) (m need b : ℕ) (old new : List ℕ) → need ≢ 0 → old ≡ b ∷ new → mid ≡ places ++ record { memory = m; block = b } ∷ []
    → all ≡ mid ++ on_memory m (take (need - 1) new) → all ≡ places ++ on_memory m (take need old)
one_picked places mid all m need b old new some first one rest =
    let more : need ≡ suc (need - 1) = omega (arith, some) in
    let r : Reference = record { memory = m; block = b } in
    rest ∙ ap (λ (xs : List Reference). xs ++ on_memory m (take (need - 1) new)) one ∙ append_assoc places (r ∷ []) (on_memory m (take (need - 1) new))
    ∙ ap (λ k. places ++ on_memory m (take k (b ∷ new))) (sym more) ∙ ap (λ (xs : List ℕ). places ++ on_memory m (take need xs)) (sym first)

page_by : (maps : List (Option (List ℕ))) (m : ℕ) → is_some (get_or maps m None) ≡ true
    → (page : List ℕ) × (slice_get maps m ≡ Some (Some page)) × (get_or maps m None ≡ Some page)
page_by [] m is = absurd cc
page_by (None ∷ maps) zero is = absurd cc
page_by (Some page ∷ maps) zero is = (page, refl, refl)
page_by (x ∷ maps) (suc m) is = page_by maps m is

module _ (held : Held) where
  wanted_by : (m : ℕ) (b : Bool) → is_held held (Map m) ≡ b → cond b None (Some (Map m)) ≡ None → is_held held (Map m) ≡ true
  wanted_by m true is none = is
  wanted_by m false is none = absurd cc

  -- a map that was looked at is held
  pub is_there : (m : ℕ) (old new : List Look) → GoesOn held (Looks (BlockBits m) ∷ []) old new → is_some (get_or held.maps m None) ≡ true
  unfolding wanted_in
  is_there m old new goes = wanted_by m (is_held held (Map m)) refl goes.wanted

  pub wide : (m : ℕ) → IsWorkSet held → is_some (get_or held.maps m None) ≡ true → held.geometry.blocks ≤ 8 * length (block_bits held m)
  wide m work there =
      let page = page_by held.maps m there in
      let long : length (map_of held m) ≡ 4096 = ap (λ (p : Option (List ℕ)). length (unwrap_or p [])) page.2 ∙ work.pages m page.0 page.1 in
      let few = work.limits.blocks.1 in
      omega (arith, few, long, length-take 2048 (map_of held m))

  pub free_there : (m : ℕ) → is_some (get_or held.maps m None) ≡ true → free_of held m ≡ free_blocks (block_bits held m) held.geometry.blocks
  free_there m there = ap (λ b. cond b (free_blocks (block_bits held m) held.geometry.blocks) []) there

  pub count_there : (m : ℕ) → is_some (get_or held.maps m None) ≡ true → free_on held m ≡ free_below (block_bits held m) held.geometry.blocks
  count_there m there = ap (λ b. cond b (free_below (block_bits held m) held.geometry.blocks) 0) there

  -- ---- all maps

  pub no_maps : (at need : ℕ) → room_maps held (free_on held) at 0 need ≡ []
  unfolding room_maps
  no_maps at need = refl

  pub no_need : (at left : ℕ) → room_maps held (free_on held) at left 0 ≡ []
  unfolding room_maps
  no_need at zero = refl
  no_need at (suc left) = refl

  front_by : (at left need : ℕ) → 0 < need
      → room_maps held (free_on held) at (suc left) need ≡ (Looks (BlockBits (turned held at)) ∷ []) ++ room_maps held (free_on held) (at + 1) left (need - free_on held (turned held at))
  unfolding room_maps
  front_by at left need some =
      ap (λ b. cond b (Looks (BlockBits (turned held at)) ∷ room_maps held (free_on held) (at + 1) left (need - free_on held (turned held at))) []) (lt-ltb 0 need some)

  pub maps_front : (at left need : ℕ) → left ≢ 0 → need ≢ 0
      → room_maps held (free_on held) at left need ≡ (Looks (BlockBits (turned held at)) ∷ []) ++ room_maps held (free_on held) (at + 1) (left - 1) (need - free_on held (turned held at))
  maps_front at left need more some =
      let same : left ≡ suc (left - 1) = omega (arith, more) in
      ap (λ l. room_maps held (free_on held) at l need) same ∙ front_by at (left - 1) need (omega (arith, some))

  pub no_memory : (at need : ℕ) → picked_from held at 0 need ≡ []
  unfolding picked_from
  no_memory at need = refl

  picked_by : (at left need : ℕ)
      → picked_from held at (suc left) need ≡ on_memory (turned held at) (take need (free_of held (turned held at))) ++ picked_from held (at + 1) left (need - free_on held (turned held at))
  unfolding picked_from
  picked_by at left need = refl

  pub picked_front : (at left need : ℕ) → left ≢ 0
      → picked_from held at left need ≡ on_memory (turned held at) (take need (free_of held (turned held at))) ++ picked_from held (at + 1) (left - 1) (need - free_on held (turned held at))
  picked_front at left need more =
      let same : left ≡ suc (left - 1) = omega (arith, more) in
      ap (λ l. picked_from held at l need) same ∙ picked_by at (left - 1) need

  -- ---- enough room

  abbrev pub room_check : ℕ → Check
  room_check need = fails_where nospc (nat_lt (sum_by (free_on held) (below held.geometry.memories)) need)

  pub needs_is : (home need : ℕ) → needs_steps held (record { home = home; count = need } ∷ []) ≡ room_maps held (free_on held) home held.geometry.memories need ++ (Checks (room_check need) ∷ [])
  unfolding needs_maps
  needs_is home need =
      let one : 0 + need ≡ need = omega arith in
      ap (λ (ss : List Step). ss ++ (Checks (room_check (0 + need)) ∷ [])) (append-nil (room_maps held (free_on held) home held.geometry.memories need))
      ∙ ap (λ k. room_maps held (free_on held) home held.geometry.memories need ++ (Checks (room_check k) ∷ [])) one

  check_by : (a need : ℕ) (b : Bool) → nat_lt a need ≡ b → first_failure (fails_where nospc (nat_lt a need) ∷ []) ≡ cond b (Some 28) None
  unfolding first_failure
  check_by a need true is = ap (λ c. first_failure (fails_where nospc c ∷ [])) is
  check_by a need false is = ap (λ c. first_failure (fails_where nospc c ∷ [])) is

  pub no_room : (need : ℕ) → sum_by (free_on held) (below held.geometry.memories) < need → first_failure (room_check need ∷ []) ≡ Some 28
  no_room need less = check_by (sum_by (free_on held) (below held.geometry.memories)) need true (lt-ltb (sum_by (free_on held) (below held.geometry.memories)) need less)

  pub has_room : (need : ℕ) → need ≤ sum_by (free_on held) (below held.geometry.memories) → first_failure (room_check need ∷ []) ≡ None
  has_room need enough =
      let not_less : nat_lt (sum_by (free_on held) (below held.geometry.memories)) need ≡ false = grind (arith, nat_tests, enough) in
      check_by (sum_by (free_on held) (below held.geometry.memories)) need false not_less

  -- how many were found
  pub counted : (home need : ℕ) (old new : List Reference) (len : ℕ) → home < held.geometry.memories → old ≡ [] → new ≡ old ++ picked held home need → len ≡ length new
      → len ≡ min need (sum_by (free_on held) (below held.geometry.memories))
  counted home need old new len less none all sized =
      sized ∙ ap length (all ∙ ap (λ (rs : List Reference). rs ++ picked held home need) none) ∙ all_sized held home need less
