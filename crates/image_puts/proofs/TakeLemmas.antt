-- Blocks that are taken one after the other.
use Rattle.std.proofs.Common.{◌≡◌, ℕ, true, false, cond, Bool, List, [], ◌∷◌, Some, None, refl, sym, ap, subst, ◌∙◌}
use Rattle.std.specs.Prelude.{◌==◌, ◌&&◌, ◌||◌, is_some}
use Rattle.std.specs.List.{AllByRecursion}
use Rattle.fs_layout.specs.declared.reference.Reference.{Reference}
use Rattle.fs_rules.specs.declared.geometry.Geometry.{Geometry}
use Rattle.fs_rules.specs.Edits.{Edit}
use Rattle.fs_rules.specs.Numbers.{IsNumber}
use Rattle.fs_image.specs.Edits.{are_of}
use Rattle.fs_image.specs.Owners.{Part, Owners, IsInverse, is_same_place, is_same_part, taken, only}
use Rattle.fs_image.specs.Stands.{IsBlock}
use Rattle.fs_image.proofs.OwnerLemmas.{only_inverse, some_same, taken_inverse}
use Rattle.std.proofs.lemmas.Bool.{eqb-true, and_parts}
use Rattle.image_puts.specs.Takes.{AreOthers, ExchangesAreOwners, IsAnother, IsFreeFor, Take, all_taken, is_taken}

abbrev AreInside : Geometry → Owners → Type 0
AreInside g o = (n : ℕ) (x : Part) (r : Reference) → o.place n x ≡ Some r → IsNumber g n × IsBlock g r

or_true : (a : Bool) → (a || true) ≡ true
or_true true = refl
or_true false = refl

or_swap : (a b c : Bool) → ((a || b) || c) ≡ (a || (b || c))
or_swap true b c = refl
or_swap false b c = refl

module _ (g : Geometry) (es : List Edit) where
  module _ (o : Owners) (t : Take) (free : IsFreeFor g es o t) where
    abbrev after : Owners
    after = taken o t.file t.part t.place

    inside_by : (n : ℕ) (x : Part) (r : Reference) (b : Bool) → ((n == t.file) && is_same_part x t.part) ≡ b → cond b (Some t.place) (o.place n x) ≡ Some r → AreInside g o
        → IsNumber g n × IsBlock g r
    inside_by n x r true same at inside =
        (subst (IsNumber g) (sym (eqb-true n t.file (and_parts (n == t.file) (is_same_part x t.part) same).0)) free.number, subst (IsBlock g) (some_same t.place r at) free.block)
    inside_by n x r false same at inside = inside n x r at

    still_inside : AreInside g o → AreInside g after
    still_inside inside n x r at = inside_by n x r ((n == t.file) && is_same_part x t.part) refl at inside

    place_by : (n : ℕ) (x : Part) (b c : Bool) → (n == t.file) ≡ b → are_of es n ≡ false → cond (b && c) (Some t.place) (o.place n x) ≡ o.place n x
    place_by n x true c same other = absurd (true_false (sym free.of ∙ ap (are_of es) (sym (eqb-true n t.file same)) ∙ other))
      where
        true_false : true ≡ false → ⊥
        true_false is = absurd cc
    place_by n x false c same other = refl

    same_places : (n : ℕ) → are_of es n ≡ false → (x : Part) → after.place n x ≡ o.place n x
    same_places n other x = place_by n x (n == t.file) (is_same_part x t.part) refl other

    owner_by : (r : Reference) (b : Bool) → is_some (cond b (Some (record { file = t.file; part = t.part })) (o.owner r)) ≡ (is_some (o.owner r) || b)
    owner_by r true = sym (or_true (is_some (o.owner r)))
    owner_by r false = or_none (is_some (o.owner r))
      where
        or_none : (a : Bool) → a ≡ (a || false)
        or_none true = refl
        or_none false = refl

    still_free : (u : Take) → IsAnother t u → IsFreeFor g es o u → IsFreeFor g es after u
    still_free u another one =
        record {
          of = one.of;
          number = one.number;
          block = one.block;
          free = ap (λ b. cond b (Some (record { file = t.file; part = t.part })) (o.owner u.place)) another.place ∙ one.free;
          missing = ap (λ b. cond b (Some t.place) (o.place u.file u.part)) another.part ∙ one.missing;
        }

    all_free : (takes : List Take) → AllByRecursion (IsAnother t) takes → AllByRecursion (IsFreeFor g es o) takes → AllByRecursion (IsFreeFor g es after) takes
    all_free [] others every = tt
    all_free (u ∷ takes) others every = (still_free u others.0 every.0, all_free takes others.1 every.1)

  -- the owners once all were taken
  pub record AreTaken (o p : Owners) (takes : List Take) : Type 0 where
    pub inverse : IsInverse p
    pub inside : AreInside g p
    pub places : (n : ℕ) → are_of es n ≡ false → (x : Part) → p.place n x ≡ o.place n x
    pub bits : (r : Reference) → is_some (p.owner r) ≡ (is_some (o.owner r) || is_taken takes r)

  none_more : (a : Bool) → a ≡ (a || false)
  none_more true = refl
  none_more false = refl

  all_are_taken : (takes : List Take) (o : Owners) → IsInverse o → AreInside g o → AllByRecursion (IsFreeFor g es o) takes → AreOthers takes → AreTaken o (all_taken takes o) takes
  unfolding all_taken AreOthers
  all_are_taken [] o inverse inside free others =
      record { inverse = inverse; inside = inside; places = λ n other x. refl; bits = λ r. none_more (is_some (o.owner r)) }
  all_are_taken (t ∷ takes) o inverse inside free others =
      let rest = all_are_taken takes (taken o t.file t.part t.place) (taken_inverse o t.file t.part t.place inverse free.0.free free.0.missing)
      (still_inside o t free.0 inside) (all_free o t free.0 takes others.0 free.1) others.1 in
      record {
        inverse = rest.inverse;
        inside = rest.inside;
        places = λ n other x. rest.places n other x ∙ same_places o t free.0 n other x;
        bits = λ r. rest.bits r ∙ ap (λ a. a || is_taken takes r) (owner_by o t free.0 r (is_same_place r t.place)) ∙ or_swap (is_some (o.owner r)) (is_same_place r t.place) (is_taken takes r);
      }

  -- ---- giving up

  module _ (o : Owners) (keep : ℕ → Part → Bool) where
    kept_inside : AreInside g o → AreInside g (only keep o)
    kept_inside inside n x r at = by (keep n x) at
      where
        by : (b : Bool) → cond b (o.place n x) None ≡ Some r → IsNumber g n × IsBlock g r
        by true at = inside n x r at
        by false at = absurd cc

    kept_places : ((n : ℕ) (x : Part) → are_of es n ≡ false → keep n x ≡ true) → (n : ℕ) → are_of es n ≡ false → (x : Part) → (only keep o).place n x ≡ o.place n x
    kept_places keeps n other x = ap (λ b. cond b (o.place n x) None) (keeps n x other)

pub exchanges_are_owners : ExchangesAreOwners
exchanges_are_owners g es o keep takes is =
    let all = all_are_taken g es takes (only keep o) (only_inverse o keep is.inverse) (kept_inside g es o keep is.inside) is.free is.others in
    record {
      owners = record {
        inverse = all.inverse;
        inside = all.inside;
        places = λ n other x. all.places n other x ∙ kept_places g es o keep is.keeps n other x;
      };
      bits = all.bits;
    }
