-- Going once round a circle.
use Rattle.std.proofs.Common.{◌≡◌, ℕ, zero, suc, ◌+◌, ◌-◌, ◌%◌, ◌<◌, ◌≤◌, inl, inr, [], ◌∷◌, refl, sym, ap, ◌∙◌, arith}
use Rattle.std.specs.Prelude.{sum_by}
use Rattle.std.proofs.Math.Nat.{add-mod_left, mod-add-mod, mod-eq-sub-mod, mod-eq_of_lt, mod-lt}
use Rattle.std.proofs.lemmas.Bool.{cases_lt}
use Rattle.std.proofs.lemmas.List.Sums.{sum_by-append, sum_by-cons}
use Rattle.fs_rules.specs.Lists.{below}

-- ---- sums

module _ (f : ℕ → ℕ) (size : ℕ) where
  -- so many from one on, in the circle and in a line
  unfoldable pub circle : ℕ → ℕ → ℕ
  circle at zero = 0
  circle at (suc left) = f (at % size) + circle (at + 1) left

  unfoldable line : ℕ → ℕ → ℕ
  line at zero = 0
  line at (suc left) = f at + line (at + 1) left

  straight : (at left : ℕ) → at + left ≤ size → circle at left ≡ line at left
  unfolding circle line
  straight at zero less = refl
  straight at (suc left) less =
      let here : at < size = omega (arith, less) in
      ap (λ k. f k + circle (at + 1) left) (mod-eq_of_lt here) ∙ ap (λ s. f at + s) (straight (at + 1) left (omega (arith, less)))

  again : (at left : ℕ) → at + left ≤ size → circle (size + at) left ≡ line at left
  unfolding circle line
  again at zero less = refl
  again at (suc left) less =
      let here : at < size = omega (arith, less) in
      let next : size + at + 1 ≡ size + (at + 1) = omega arith in
      ap (λ k. f k + circle (size + at + 1) left) (add-mod_left size at ∙ mod-eq_of_lt here)
      ∙ ap (λ k. f at + circle k left) next ∙ ap (λ s. f at + s) (again (at + 1) left (omega (arith, less)))

  both : (at a b : ℕ) → circle at (a + b) ≡ circle at a + circle (at + a) b
  unfolding circle
  both at zero b =
      let none : 0 + b ≡ b = omega arith in
      let here : at + 0 ≡ at = omega arith in
      let sum : circle at b ≡ 0 + circle at b = omega arith in
      ap (circle at) none ∙ sum ∙ ap (λ k. 0 + circle k b) (sym here)
  both at (suc a) b =
      let more : suc a + b ≡ suc (a + b) = omega arith in
      let next : at + 1 + a ≡ at + suc a = omega arith in
      let rest = both (at + 1) a b in
      let sum : f (at % size) + (circle (at + 1) a + circle (at + 1 + a) b) ≡ f (at % size) + circle (at + 1) a + circle (at + 1 + a) b = omega arith in
      ap (circle at) more ∙ ap (λ s. f (at % size) + s) rest ∙ sum ∙ ap (λ k. f (at % size) + circle (at + 1) a + circle k b) next

  both_lines : (at a b : ℕ) → line at (a + b) ≡ line at a + line (at + a) b
  unfolding line
  both_lines at zero b =
      let none : 0 + b ≡ b = omega arith in
      let here : at + 0 ≡ at = omega arith in
      let sum : line at b ≡ 0 + line at b = omega arith in
      ap (line at) none ∙ sum ∙ ap (λ k. 0 + line k b) (sym here)
  both_lines at (suc a) b =
      let more : suc a + b ≡ suc (a + b) = omega arith in
      let next : at + 1 + a ≡ at + suc a = omega arith in
      let rest = both_lines (at + 1) a b in
      let sum : f at + (line (at + 1) a + line (at + 1 + a) b) ≡ f at + line (at + 1) a + line (at + 1 + a) b = omega arith in
      ap (line at) more ∙ ap (λ s. f at + s) rest ∙ sum ∙ ap (λ k. f at + line (at + 1) a + line k b) next

  all_below : (n : ℕ) → line 0 n ≡ sum_by f (below n)
  unfolding below line
  all_below zero = refl
  all_below (suc n) =
      let more : suc n ≡ n + 1 = omega arith in
      let rest = all_below n in
      let here : 0 + n ≡ n = omega arith in
      let parts : line 0 (n + 1) ≡ line 0 n + line n 1 = both_lines 0 n 1 ∙ ap (λ k. line 0 n + line k 1) here in
      let one : line n 1 ≡ f n + 0 = refl in
      let last : sum_by f (n ∷ []) ≡ f n + 0 = sum_by-cons f n [] in
      ap (line 0) more ∙ parts ∙ ap (λ s. s + line n 1) rest ∙ ap (λ s. sum_by f (below n) + s) (one ∙ sym last) ∙ sym (sum_by-append f (below n) (n ∷ []))

  -- all of them once, wherever it begins
  pub once_round : (home : ℕ) → home < size → circle home size ≡ sum_by f (below size)
  once_round home less =
      let left = size - home in
      let turn : size ≡ left + home = omega (arith, less) in
      let line_turn : size ≡ home + left = omega (arith, less) in
      let end : home + left ≡ size + 0 = omega (arith, less) in
      let zero_home : 0 + home ≡ home = omega arith in
      let swapped : line home left + line 0 home ≡ line 0 home + line home left = omega arith in
      ap (circle home) turn ∙ both home left home
      ∙ ap (λ s. s + circle (home + left) home) (straight home left (omega (arith, less)))
      ∙ ap (λ k. line home left + circle k home) end
      ∙ ap (λ s. line home left + s) (again 0 home (omega (arith, less)))
      ∙ swapped ∙ ap (λ k. line 0 home + line k left) (sym zero_home) ∙ sym (both_lines 0 home left) ∙ ap (line 0) (sym line_turn) ∙ all_below size

-- ---- places

-- two places of one round are two
pub another_place : (at j size : ℕ) → 0 < j → j < size → (at + j) % size ≡ at % size → ⊥
another_place at j size some less same =
    let wide : 0 < size = omega (arith, less) in
    let r = at % size in
    let small : r < size = mod-lt at wide in
    let is : (r + j) % size ≡ r = mod-add-mod at size j ∙ same in
    elim (cases_lt (r + j) size) [
      | inl inside ↦ (let here : r + j ≡ r = sym (mod-eq_of_lt inside) ∙ is in omega (arith, here, some))
      | inr past ↦ (
          let back : r + j - size < size = omega (arith, small, less, past) in
          let here : r + j - size ≡ r = sym (mod-eq_of_lt back) ∙ sym (mod-eq-sub-mod past) ∙ is in
          omega (arith, here, less, past))
    ]
