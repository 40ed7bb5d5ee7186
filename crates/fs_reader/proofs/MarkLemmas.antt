-- Marks of blocks that are taken part by part.
use Rattle.std.proofs.Common.{◌≡◌, ◌≢◌, ◌⊎◌, ℕ, ◌+◌, ◌<◌, true, false, List, Option, Some, None, inl, inr, sym, ap, subst, ◌∙◌, arith}
use Rattle.std.specs.Prelude.{unwrap_or}
use Rattle.std.proofs.lemmas.Bool.{cases_Bool, cases_eq, cases_lt, true≢false}
use Rattle.std.proofs.lemmas.Option.{none-some}
use Rattle.fs_layout.specs.declared.reference.Reference.{Reference}
use Rattle.fs_bitmap.specs.Bits.{is_used}
use Rattle.fs_rules.specs.declared.geometry.Geometry.{Geometry}
use Rattle.fs_rules.specs.Geometry.{IsWithinLimits}
use Rattle.fs_image.specs.Owners.{Part, Chain, Block}
use Rattle.fs_image.specs.Records.{IsSet}
use Rattle.fs_image.specs.Stands.{IsBlock}
use Rattle.fs_reader.specs.Marks.{bit_of, turn, Found, Takes, CanTake}

-- a turn is of one part
pub turn_one : (x y : Part) → turn x ≡ turn y → x ≡ y
turn_one (Chain k) (Chain j) same = ap Chain (omega (arith, same))
turn_one (Chain k) (Block j) same = absurd (omega (arith, same))
turn_one (Block k) (Chain j) same = absurd (omega (arith, same))
turn_one (Block k) (Block j) same = ap Block (omega (arith, same))

-- a bit is of one block
pub bit_one : (g : Geometry) → IsWithinLimits g → (p q : Reference) → IsBlock g p → IsBlock g q → bit_of p ≡ bit_of q → p ≡ q
bit_one g limits p q ip iq same =
    let memory : p.memory ≡ q.memory = omega (arith, same, ip.block, iq.block, limits.blocks.1) in
    let block : p.block ≡ q.block = omega (arith, same, memory) in
    λ i. record { memory = memory i; block = block i }

some_one : {A : Type 0} (o : Option A) (a b : A) → o ≡ Some a → o ≡ Some b → a ≡ b
some_one o a b is too = ap (λ x. unwrap_or x a) (sym is ∙ too)

-- where nothing was read, nothing is taken
pub takes_nothing : (g : Geometry) (place : Part → Option Reference) (marks : List ℕ) → Takes g place 0 marks marks
takes_nothing g place marks =
    record {
      inside = λ x p before is. absurd (omega (arith, before));
      marked = λ x p before is. absurd (omega (arith, before));
      taken = λ x p before is. absurd (omega (arith, before));
      found = λ bit was gone. absurd (true≢false (sym was ∙ gone));
      kept = λ bit is. is;
      once = λ x y p before too is also. absurd (omega (arith, before));
    }

-- a part that is read at this turn, or was before
turns_of : (x y : Part) (turns : ℕ) → turn x ≡ turns → turn y < turns + 1 → (turn y < turns) ⊎ (y ≡ x)
turns_of x y turns now before = elim (cases_lt (turn y) turns) [
  | inl earlier ↦ inl earlier
  | inr not ↦ inr (turn_one y x (omega (arith, now, before, not)))
]

module _ (g : Geometry) (limits : IsWithinLimits g) (place : Part → Option Reference) (turns : ℕ) (old mid : List ℕ) (takes : Takes g place turns old mid) (x : Part) (now : turn x ≡ turns)
  where
    -- ---- a part that is not there

    module _ (none : place x ≡ None) where
      earlier : (y : Part) (p : Reference) → turn y < turns + 1 → place y ≡ Some p → turn y < turns
      earlier y p before is = elim (turns_of x y turns now before) [
        | inl less ↦ less
        | inr same ↦ absurd (none-some p (sym none ∙ ap place (sym same) ∙ is))
      ]

      pub takes_none : Takes g place (turns + 1) old mid
      takes_none =
          record {
            inside = λ y p before is. takes.inside y p (earlier y p before is) is;
            marked = λ y p before is. takes.marked y p (earlier y p before is) is;
            taken = λ y p before is. takes.taken y p (earlier y p before is) is;
            found = λ bit was gone.
                let f = takes.found bit was gone in
                record { part = f.part; at = f.at; before = omega (arith, f.before); is = f.is; bit_is = f.bit_is };
            kept = takes.kept;
            once = λ y z p before too is also. takes.once y z p (earlier y p before is) (earlier z p too also) is also;
          }

    -- ---- a part whose block is marked

    module _ (p : Reference) (there : place x ≡ Some p) where
      module _ (new : List ℕ) (inside : IsBlock g p) (marked : is_used mid (bit_of p) ≡ true) (set : IsSet mid new (bit_of p) false) where
        lies : (y : Part) (q : Reference) → y ≡ x → place y ≡ Some q → q ≡ p
        lies y q same is = some_one (place x) q p (ap place (sym same) ∙ is) there

        inside_of : (y : Part) (q : Reference) → turn y < turns + 1 → place y ≡ Some q → IsBlock g q
        inside_of y q before is = elim (turns_of x y turns now before) [
          | inl less ↦ takes.inside y q less is
          | inr same ↦ subst (IsBlock g) (sym (lies y q same is)) inside
        ]

        marked_of : (y : Part) (q : Reference) → turn y < turns + 1 → place y ≡ Some q → is_used old (bit_of q) ≡ true
        marked_of y q before is = elim (turns_of x y turns now before) [
          | inl less ↦ takes.marked y q less is
          | inr same ↦ subst (λ (r : Reference). is_used old (bit_of r) ≡ true) (sym (lies y q same is)) (takes.kept (bit_of p) marked)
        ]

        apart : (y : Part) (q : Reference) → turn y < turns → place y ≡ Some q → bit_of q ≢ bit_of p
        apart y q less is same = true≢false (sym marked ∙ ap (is_used mid) (sym same) ∙ takes.taken y q less is)

        taken_of : (y : Part) (q : Reference) → turn y < turns + 1 → place y ≡ Some q → is_used new (bit_of q) ≡ false
        taken_of y q before is = elim (turns_of x y turns now before) [
          | inl less ↦ set.others (bit_of q) (apart y q less is) ∙ takes.taken y q less is
          | inr same ↦ subst (λ (r : Reference). is_used new (bit_of r) ≡ false) (sym (lies y q same is)) set.changed
        ]

        found_of : (bit : ℕ) → is_used old bit ≡ true → is_used new bit ≡ false → Found place (turns + 1) bit
        found_of bit was gone = elim (cases_eq bit (bit_of p)) [
          | inl here ↦ record { part = x; at = p; before = omega (arith, now); is = there; bit_is = sym here }
          | inr other ↦
              let f = takes.found bit was (sym (set.others bit other) ∙ gone) in
              record { part = f.part; at = f.at; before = omega (arith, f.before); is = f.is; bit_is = f.bit_is }
        ]

        kept_of : (bit : ℕ) → is_used new bit ≡ true → is_used old bit ≡ true
        kept_of bit is = elim (cases_eq bit (bit_of p)) [
          | inl here ↦ absurd (true≢false (sym is ∙ ap (is_used new) here ∙ set.changed))
          | inr other ↦ takes.kept bit (sym (set.others bit other) ∙ is)
        ]

        once_of : (y z : Part) (q : Reference) → turn y < turns + 1 → turn z < turns + 1 → place y ≡ Some q → place z ≡ Some q → y ≡ z
        once_of y z q before too is also = elim (turns_of x y turns now before) [
          | inl less ↦ elim (turns_of x z turns now too) [
            | inl fewer ↦ takes.once y z q less fewer is also
            | inr same ↦ absurd (apart y q less is (ap bit_of (lies z q same also)))
          ]
          | inr same ↦ elim (turns_of x z turns now too) [
            | inl fewer ↦ absurd (apart z q fewer also (ap bit_of (lies y q same is)))
            | inr equal ↦ same ∙ sym equal
          ]
        ]

        pub takes_one : Takes g place (turns + 1) old new
        takes_one = record { inside = inside_of; marked = marked_of; taken = taken_of; found = found_of; kept = kept_of; once = once_of }

      -- its block can be taken
      pub takes_can : CanTake g place old → is_used mid (bit_of p) ≡ true
      takes_can can = elim (cases_Bool (is_used mid (bit_of p))) [
        | inl is ↦ is
        | inr gone ↦
            let f = takes.found (bit_of p) (can.marked x p there) gone in
            let at : f.at ≡ p = bit_one g limits f.at p (can.inside f.part f.at f.is) (can.inside x p there) f.bit_is in
            let same : f.part ≡ x = can.once f.part x p (f.is ∙ ap Some at) there in
            absurd (omega (arith, f.before, now, ap turn same))
      ]
