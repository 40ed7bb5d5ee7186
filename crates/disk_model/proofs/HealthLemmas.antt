-- How the health of a disk goes on, call by call.
use Rattle.std.proofs.Common.{◌≡◌, ◌⊎◌, ℕ, ◌+◌, ◌≤◌, Option, None, Some, Result, Ok, Err, refl, ap, subst, ◌∙◌, arith}
use Rattle.disk_model.specs.Health.{Health, Fell, Hands, Passed, IsLive, Lets, FailedFor, Speaks, less}

less_less : (a b : ℕ) (left : Option ℕ) → less b (less a left) ≡ less (a + b) left
less_less a b None = refl
less_less a b (Some n) = ap Some (omega arith)

lets_both : (a b : ℕ) (left : Option ℕ) → Lets a left → Lets b (less a left) → Lets (a + b) left
lets_both a b None first second = tt
lets_both a b (Some n) first second = omega arith

zero_less : (left : Option ℕ) → left ≡ less 0 left
zero_less None = refl
zero_less (Some n) = ap Some (omega arith)

-- no call
pub no_calls : (h : Health) → Passed 0 h h
no_calls h = record { faults = refl; own = refl; spent = zero_less h.allows; starved = refl; usable = refl; exact = refl }

-- one run of calls behind another
pub passed_both : (a b : ℕ) (x y z : Health) → Passed a x y → Passed b y z → Passed (a + b) x z
passed_both a b x y z first second = record {
  faults = second.faults ∙ first.faults;
  own = second.own ∙ first.own;
  spent = second.spent ∙ ap (less b) first.spent ∙ less_less a b x.allows;
  starved = second.starved ∙ first.starved;
  usable = second.usable ∙ first.usable;
  exact = second.exact ∙ first.exact;
}

pub live_both : (a b : ℕ) (x y : Health) → IsLive a x → Passed a x y → IsLive b y → IsLive (a + b) x
live_both a b x y first passed second = record {
  fed = first.fed;
  passes = first.passes;
  lets = lets_both a b x.allows first.lets (subst (Lets b) passed.spent second.lets);
}

-- a call that failed, and more that were not made
pub fell_first : (a b : ℕ) (x y : Health) → a ≤ b → Fell a x y → Fell b x y
fell_first a b x y fits fell = record {
  later = fell.later;
  own_later = fell.own_later;
  failed = fell.failed;
  cause = fell.cause;
  made = fell.made;
  within = omega (arith, fell.within);
  spent = fell.spent;
  starved = fell.starved;
  unusable = fell.unusable;
  exact = fell.exact;
}

-- a call that failed behind others
pub fell_behind : (a b : ℕ) (x y z : Health) → Passed a x y → Fell b y z → Fell (a + b) x z
fell_behind a b x y z passed fell = record {
  later = omega (arith, passed.faults, fell.later);
  own_later = omega (arith, passed.own, fell.own_later);
  failed = subst (λ (n : ℕ). FailedFor n z.faults z.is_starved) passed.faults fell.failed;
  cause = subst (λ (n : ℕ). FailedFor n z.own_faults z.is_starved ⊎ (z.allows ≡ Some 0)) passed.own fell.cause;
  made = a + fell.made;
  within = omega (arith, fell.within);
  spent = fell.spent ∙ ap (less fell.made) passed.spent ∙ less_less a fell.made x.allows;
  starved = λ was. fell.starved (passed.starved ∙ was);
  unusable = fell.unusable;
  exact = fell.exact ∙ passed.exact;
}

module _ {D : Type 0} (tells : D → Type 0) (health : D → Health) where
  -- a disk that passed is still one that speaks
  pub speaks_passed : (steps : ℕ) (old new : D) → Passed steps (health old) (health new) → (Speaks tells health old → tells new)
      → Speaks tells health old → Speaks tells health new
  speaks_passed steps old new passed still speaks = (still speaks, passed.usable ∙ speaks.1)

  pub hands_first : {X Y E F : Type 0} (a b : ℕ) (old new : D) (e : E) (f : F) → a ≤ b → Hands {X = X} tells health a old new (Err e)
      → Hands {X = Y} tells health b old new (Err f)
  hands_first a b old new e f fits hands = record {
    still = hands.still;
    speaks = tt;
    passed = tt;
    live = tt;
    fell = fell_first a b (health old) (health new) fits hands.fell;
  }

  pub hands_both : {X Y E F : Type 0} (a b : ℕ) (old mid new : D) (x : X) (result : Result Y F) → Hands {E = E} tells health a old mid (Ok x)
      → Hands tells health b mid new result → Hands tells health (a + b) old new result
  hands_both a b old mid new x (Ok y) first second = record {
    still = λ speaks. second.still (first.speaks speaks);
    speaks = λ speaks. second.speaks (first.speaks speaks);
    passed = passed_both a b (health old) (health mid) (health new) first.passed second.passed;
    live = live_both a b (health old) (health mid) first.live first.passed second.live;
    fell = tt;
  }
  hands_both a b old mid new x (Err f) first second = record {
    still = λ speaks. second.still (first.speaks speaks);
    speaks = tt;
    passed = tt;
    live = tt;
    fell = fell_behind a b (health old) (health mid) (health new) first.passed second.fell;
  }
