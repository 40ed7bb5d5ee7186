-- Tests that decide, joined.
use Rattle.std.proofs.Common.{inl, inr, ◌≡◌, ℕ, ◌<◌, ◌≤◌, true, false, not, Option, Some, None, refl, sym, ap, ◌∙◌}
use Rattle.std.specs.Prelude.{Bool, ◌&&◌, ◌||◌, ◌==◌, nat_lt, nat_le, if◌then◌else◌, ◌⊎◌}
use Rattle.std.proofs.lemmas.Bool.{and_parts, and_from, or_cases, or_left, or_right, not-true, not_from_false, eqb-true, eq-eqb, ltb-true, lt-ltb, leb-true, le-leb}
use Rattle.transcript_judges.specs.Tests.{holds_of, is_number, is_none}
use Rattle.transcript_judges.specs.Rules.{Decides}

pub both : {a b : Bool} {P Q : Type 0} → Decides a P → Decides b Q → Decides (a && b) (P × Q)
both {a} {b} p q = record {
  to = λ e. let parts = and_parts a b e in (p.to parts.0, q.to parts.1);
  from = λ t. and_from a b (p.from t.0) (q.from t.1);
}

pub either_of : {a b : Bool} {P Q : Type 0} → Decides a P → Decides b Q → Decides (a || b) (P ⊎ Q)
either_of {a} {b} {P} {Q} p q = record { to = λ e. one (or_cases a b e); from = back } where
  one : (a ≡ true) ⊎ (b ≡ true) → P ⊎ Q
  one (inl e) = inl (p.to e)
  one (inr e) = inr (q.to e)

  back : P ⊎ Q → (a || b) ≡ true
  back (inl t) = or_left a b (p.from t)
  back (inr t) = or_right a b (q.from t)

pub as_of : {b : Bool} {P Q : Type 0} → (P → Q) → (Q → P) → Decides b P → Decides b Q
as_of there back d = record { to = λ e. there (d.to e); from = λ q. d.from (back q) }

-- by an equation of tests
pub as_test : {a b : Bool} {P : Type 0} → a ≡ b → Decides b P → Decides a P
as_test same d = record { to = λ e. d.to (sym same ∙ e); from = λ p. same ∙ d.from p }

pub it_is : (b : Bool) → Decides b (b ≡ true)
it_is b = record { to = λ e. e; from = λ e. e }

pub it_is_not : (b : Bool) → Decides (not b) (b ≡ false)
it_is_not b = record { to = not-true b; from = not_from_false b }

pub same_numbers : (m n : ℕ) → Decides (m == n) (m ≡ n)
same_numbers m n = record { to = eqb-true m n; from = eq-eqb m n }

pub is_below : (m n : ℕ) → Decides (nat_lt m n) (m < n)
is_below m n = record { to = ltb-true m n; from = lt-ltb m n }

pub is_at_most : (m n : ℕ) → Decides (nat_le m n) (m ≤ n)
is_at_most m n = record { to = leb-true m n; from = le-leb m n }

-- where one holds, the other does
pub only_if : {b c : Bool} {P Q : Type 0} → Decides b P → Decides c Q → Decides (if b then c else true) (P → Q)
only_if {b} {c} {P} {Q} p q = by b refl where
  by : (x : Bool) → b ≡ x → Decides (if x then c else true) (P → Q)
  by true e = record { to = λ is z. q.to is; from = λ g. q.from (g (p.to e)) }
  by false e = record { to = λ is z. absurd (let t = p.from z in cc (e, t)); from = λ g. refl }

pub found : {X : Type 0} → (f : X → Bool) (P : X → Type 0) (o : Option X) → ((x : X) → Decides (f x) (P x)) → Decides (holds_of f o) ((x : X) × (o ≡ Some x) × P x)
found f P None each = record { to = λ e. absurd (cc e); from = λ t. absurd (cc (t.1)) }
found f P (Some x) each = record {
  to = λ e. (x, refl, (each x).to e);
  from = λ t. let same : x ≡ t.0 = cc (t.1) in (each x).from (by t.0 same t.2);
} where
  by : (y : _) → x ≡ y → P y → P x
  by y same p = rw same p

pub is_this : (n : ℕ) (o : Option ℕ) → Decides (is_number n o) (o ≡ Some n)
is_this n None = record { to = λ e. absurd (cc e); from = λ e. absurd (cc e) }
is_this n (Some m) = as_of (λ e. ap Some e) (λ e. cc e) (same_numbers m n)

pub is_nothing : {X : Type 0} → (o : Option X) → Decides (is_none o) (o ≡ None)
is_nothing None = record { to = λ e. refl; from = λ e. refl }
is_nothing (Some x) = record { to = λ e. absurd (cc e); from = λ e. absurd (cc e) }
