-- What is taken on all memory nodes.
use Rattle.std.proofs.Common.{◌≡◌, ◌≢◌, ℕ, zero, suc, ◌+◌, ◌-◌, ◌%◌, ◌<◌, ◌≤◌, true, false, cond, Bool, List, [], ◌∷◌, ◌++◌, length, take, refl, sym, ap, subst, ◌∙◌, arith, length-append}
use Rattle.std.specs.Prelude.{◌==◌, ◌&&◌, ◌||◌, min, sum_by}
use Rattle.std.specs.List.{AllByRecursion, list_any}
use Rattle.std.proofs.Math.Nat.{mod-lt}
use Rattle.std.proofs.lemmas.Bool.{ne_eqb, lt-ltb}
use Rattle.std.proofs.lemmas.Bool.Decides.{nat_tests}
use Rattle.std.proofs.lemmas.List.{length-map, length-take}
use Rattle.fs_layout.specs.declared.reference.Reference.{Reference}
use Rattle.fs_rules.specs.Lists.{below}
use Rattle.fs_image.specs.Owners.{is_same_place}
use Rattle.node_cache.specs.declared.held.Held.{Held}
use Rattle.plan_rules.specs.declared.look.Look.{Look}
use Rattle.plan_rules.specs.declared.look.Look.TheVariants.{BlockBits}
use Rattle.plan_rules.specs.Compared.{is_at_blocks}
use Rattle.plan_rules.specs.Room.{room_maps, turned}
use Rattle.plan_rules.specs.Steps.{Step, Looks, looks_in}
use Rattle.plan_rules.specs.Told.{free_on}
use Rattle.plan_room.specs.Laws.{AreDifferent, IsFreeBlock, PickedAreFree}
use Rattle.plan_room.specs.Picked.{free_of, on_memory, picked, picked_from}
use Rattle.plan_room.proofs.CircleLemmas.{another_place, circle, once_round}
use Rattle.plan_room.proofs.FreeLemmas.{AreAscending, IsFreeOn, all_joined, all_taken, all_weaker, ascending_taken, each_free, free_ascending, free_counted}

module _ (held : Held) where
  abbrev size : ℕ
  size = held.geometry.memories

  -- those of one memory node
  abbrev here : ℕ → ℕ → List Reference
  here m need = on_memory m (take need (free_of held m))

  -- ---- none is taken where none is needed

  none_here : (m : ℕ) → here m 0 ≡ []
  none_here m = refl

  pub none_needed : (at left : ℕ) → picked_from held at left 0 ≡ []
  unfolding picked_from
  none_needed at zero = refl
  none_needed at (suc left) = let none : 0 - free_on held (turned held at) ≡ 0 = omega arith in ap (picked_from held (at + 1) left) none ∙ none_needed (at + 1) left

  -- ---- how many are taken

  pub picked_sized : (at left need : ℕ) → length (picked_from held at left need) ≡ min need (circle (free_on held) size at left)
  unfolding picked_from circle
  picked_sized at zero need = omega arith
  picked_sized at (suc left) need =
      let m = turned held at in
      let free = free_counted held m in
      let rest = picked_sized (at + 1) left (need - free_on held m) in
      let first : length (here m need) ≡ min need (free_on held m) =
      length-map (take need (free_of held m)) (λ b. let r : Reference = record { memory = m; block = b } in r) ∙ length-take need (free_of held m) ∙ ap (min need) free in
      omega (arith, first, rest, length-append (here m need) (picked_from held (at + 1) left (need - free_on held m)))

  -- ---- each of them is free

  abbrev IsOn : List Look → Reference → Type 0
  IsOn looks r = IsFreeOn held r.memory r.block × (r.memory < size) × (list_any (is_at_blocks r.memory) looks ≡ true)

  same_number : (m : ℕ) → (m == m) ≡ true
  same_number m = grind (arith, nat_tests)

  on_here : (m : ℕ) (looks : List Look) (bs : List ℕ) → m < size → list_any (is_at_blocks m) looks ≡ true → AllByRecursion (IsFreeOn held m) bs
      → AllByRecursion (IsOn looks) (on_memory m bs)
  on_here m looks [] less at all = tt
  on_here m looks (b ∷ bs) less at all = ((all.0, less, at), on_here m looks bs less at all.1)

  or_true : (a b : Bool) → b ≡ true → a || b ≡ true
  or_true true b is = refl
  or_true false b is = is

  true_or : (a b : Bool) → a ≡ true → a || b ≡ true
  true_or true b is = refl
  true_or false b is = absurd cc

  more_looks : (l : Look) (looks : List Look) (r : Reference) → IsOn looks r → IsOn (l ∷ looks) r
  more_looks l looks r on = (on.0, on.1, or_true (is_at_blocks r.memory l) (list_any (is_at_blocks r.memory) looks) on.2)

  looks_more : (m : ℕ) (steps : List Step) → looks_in (Looks (BlockBits m) ∷ steps) ≡ BlockBits m ∷ looks_in steps
  unfolding looks_in
  looks_more m steps = refl

  abbrev room : ℕ → ℕ → ℕ → List Step
  room at left need = room_maps held (free_on held) at left need

  room_more : (at left need : ℕ) → 0 < need → room at (suc left) need ≡ Looks (BlockBits (turned held at)) ∷ room (at + 1) left (need - free_on held (turned held at))
  unfolding room_maps
  room_more at left need some = ap (λ b. cond b (Looks (BlockBits (turned held at)) ∷ room (at + 1) left (need - free_on held (turned held at))) []) (lt-ltb 0 need some)

  looked : (m : ℕ) (looks : List Look) → list_any (is_at_blocks m) (BlockBits m ∷ looks) ≡ true
  looked m looks = true_or (m == m) (list_any (is_at_blocks m) looks) (same_number m)

  each_on : 0 < size → (at left need : ℕ) → AllByRecursion (IsOn (looks_in (room at left need))) (picked_from held at left need)
  unfolding picked_from
  each_on some at zero need = tt
  each_on some at (suc left) zero =
      subst (λ (rs : List Reference). AllByRecursion (IsOn (looks_in (room at (suc left) 0))) rs) (sym (none_needed at (suc left))) tt
  each_on some at (suc left) (suc k) =
      let m = turned held at in
      let need = suc k in
      let rest = need - free_on held m in
      let steps = room (at + 1) left rest in
      let looks : List Look = BlockBits m ∷ looks_in steps in
      let is : looks_in (room at (suc left) need) ≡ looks = ap looks_in (room_more at left need (omega arith)) ∙ looks_more m steps in
      subst (λ (ls : List Look). AllByRecursion (IsOn ls) (here m need ++ picked_from held (at + 1) left rest)) (sym is)
      (all_joined (IsOn looks) (here m need) (picked_from held (at + 1) left rest)
      (on_here m looks (take need (free_of held m)) (mod-lt at some) (looked m (looks_in steps)) (all_taken (IsFreeOn held m) need (free_of held m) (each_free held m)))
      (all_weaker (IsOn (looks_in steps)) (IsOn looks) (picked_from held (at + 1) left rest) (more_looks (BlockBits m) (looks_in steps)) (each_on some (at + 1) left rest)))

  free_one : (looks : List Look) (r : Reference) → IsOn looks r → IsFreeBlock held looks r
  free_one looks r on =
      record { block = record { memory = on.1; block = on.0.within }; held_is = on.0.held_is; free = on.0.free; looked = on.2 }

  -- ---- and no two are the same

  -- so many places of the circle from one on
  abbrev IsWithin : ℕ → ℕ → Reference → Type 0
  IsWithin at left r = (j : ℕ) × (j < left) × (r.memory ≡ (at + j) % size)

  within_here : (at left : ℕ) (bs : List ℕ) → AllByRecursion (IsWithin at (suc left)) (on_memory (turned held at) bs)
  within_here at left [] = tt
  within_here at left (b ∷ bs) = let here_is : at ≡ at + 0 = omega arith in ((0, omega arith, ap (λ k. k % size) here_is), within_here at left bs)

  next_within : (at left : ℕ) (r : Reference) → IsWithin (at + 1) left r → IsWithin at (suc left) r
  next_within at left r is =
      let place : at + 1 + is.0 ≡ at + suc is.0 = omega arith in
      let less = is.1 in
      (suc is.0, omega (arith, less), is.2 ∙ ap (λ k. k % size) place)

  all_within : (at left need : ℕ) → AllByRecursion (IsWithin at left) (picked_from held at left need)
  unfolding picked_from
  all_within at zero need = tt
  all_within at (suc left) need =
      let m = turned held at in
      all_joined (IsWithin at (suc left)) (here m need) (picked_from held (at + 1) left (need - free_on held m)) (within_here at left (take need (free_of held m)))
      (all_weaker (IsWithin (at + 1) left) (IsWithin at (suc left)) (picked_from held (at + 1) left (need - free_on held m)) (next_within at left)
      (all_within (at + 1) left (need - free_on held m)))

  and_false : (a b : Bool) → a ≡ false → a && b ≡ false
  and_false true b is = absurd cc
  and_false false b is = refl

  false_and : (a b : Bool) → b ≡ false → a && b ≡ false
  false_and true b is = is
  false_and false b is = refl

  -- those behind are on other memory nodes
  others_behind : (at left b : ℕ) (rs : List Reference) → suc left ≤ size → AllByRecursion (IsWithin (at + 1) left) rs
      → AllByRecursion (λ q. is_same_place q (record { memory = turned held at; block = b }) ≡ false) rs
  others_behind at left b [] few all = tt
  others_behind at left b (r ∷ rs) few all =
      let less = all.0.1 in
      let place : at + 1 + all.0.0 ≡ at + suc all.0.0 = omega arith in
      let other : r.memory ≢ turned held at = λ same. another_place at (suc all.0.0) size (omega arith) (omega (arith, less, few))
      (ap (λ k. k % size) (sym place) ∙ sym all.0.2 ∙ same) in
      (and_false (r.memory == turned held at) (r.block == b) (ne_eqb r.memory (turned held at) other), others_behind at left b rs few all.1)

  others_here : (m b : ℕ) (bs : List ℕ) → AllByRecursion (λ c. b < c) bs → AllByRecursion (λ q. is_same_place q (record { memory = m; block = b }) ≡ false) (on_memory m bs)
  others_here m b [] all = tt
  others_here m b (c ∷ bs) all =
      let less = all.0 in
      (false_and (m == m) (c == b) (ne_eqb c b (λ same. (omega (arith, less, same)))), others_here m b bs all.1)

  different_with : (at left : ℕ) (bs : List ℕ) (rs : List Reference) → suc left ≤ size → AreAscending bs → AllByRecursion (IsWithin (at + 1) left) rs → AreDifferent rs
      → AreDifferent (on_memory (turned held at) bs ++ rs)
  unfolding AreDifferent AreAscending
  different_with at left [] rs few order all rest = rest
  different_with at left (b ∷ bs) rs few order all rest = (
    all_joined (λ q. is_same_place q (record { memory = turned held at; block = b }) ≡ false) (on_memory (turned held at) bs) rs (others_here (turned held at) b bs order.0)
        (others_behind at left b rs few all),
    different_with at left bs rs few order.1 all rest,
  )

  all_different : (at left need : ℕ) → left ≤ size → AreDifferent (picked_from held at left need)
  unfolding picked_from AreDifferent
  all_different at zero need few = tt
  all_different at (suc left) need few =
      let m = turned held at in
      different_with at left (take need (free_of held m)) (picked_from held (at + 1) left (need - free_on held m)) few
      (ascending_taken need (free_of held m) (free_ascending held m)) (all_within (at + 1) left (need - free_on held m))
      (all_different (at + 1) left (need - free_on held m) (omega (arith, few)))

  -- ---- enough of them

  -- as many as are free on all memory nodes, and no more than are needed
  pub all_sized : (home need : ℕ) → home < size → length (picked held home need) ≡ min need (sum_by (free_on held) (below size))
  all_sized home need less = picked_sized home size need ∙ ap (min need) (once_round (free_on held) size home less)

pub picked_are_free : PickedAreFree
picked_are_free held home need work less =
    let sized = all_sized held home need less in
    let some : 0 < held.geometry.memories = omega (arith, less) in
    record {
      enough = λ room. omega (arith, sized, room);
      free = all_weaker _ (IsFreeBlock held (looks_in (room_maps held (free_on held) home held.geometry.memories need))) (picked held home need)
          (free_one held (looks_in (room_maps held (free_on held) home held.geometry.memories need))) (each_on held some home held.geometry.memories need);
      different = all_different held home held.geometry.memories need (omega arith);
    }
