-- Taking blocks and giving them up leave owners and places the same.
use Rattle.std.proofs.Common.{◌≡◌, ℕ, true, false, Bool, Option, Some, None, refl, sym, ap, ◌∙◌}
use Rattle.std.specs.Prelude.{◌==◌, ◌&&◌, unwrap_or, if◌then◌else◌}
use Rattle.std.proofs.lemmas.Bool.{true≢false, and_parts, eqb-true, eq-eqb}
use Rattle.std.proofs.lemmas.Option.{none-some}
use Rattle.fs_layout.specs.declared.reference.Reference.{Reference}
use Rattle.fs_image.specs.Owners.{Part, Chain, Block, Owned, Owners, IsInverse, is_same_place, is_same_part, taken, kept_part, only, TakenIsInverse, OnlyIsInverse}

pub some_same : {A : Type 0} (a b : A) → Some a ≡ Some b → a ≡ b
some_same a b same = ap (λ x. unwrap_or x a) same

same_place : (p q : Reference) → is_same_place p q ≡ true → p ≡ q
same_place p q same =
    let parts = and_parts (p.memory == q.memory) (p.block == q.block) same in
    λ i. record { memory = (eqb-true p.memory q.memory parts.0) i; block = (eqb-true p.block q.block parts.1) i }

place_same : (p : Reference) → is_same_place p p ≡ true
place_same p = ap (λ b. b && (p.block == p.block)) (eq-eqb p.memory p.memory refl) ∙ eq-eqb p.block p.block refl

pub same_part : (x y : Part) → is_same_part x y ≡ true → x ≡ y
same_part (Chain k) (Chain j) same = ap Chain (eqb-true k j same)
same_part (Chain k) (Block j) same = absurd (true≢false (sym same))
same_part (Block k) (Chain j) same = absurd (true≢false (sym same))
same_part (Block k) (Block j) same = ap Block (eqb-true k j same)

pub part_same : (x : Part) → is_same_part x x ≡ true
part_same (Chain k) = eq-eqb k k refl
part_same (Block k) = eq-eqb k k refl

module _ (o : Owners) (n : ℕ) (x : Part) (p : Reference) (inverse : IsInverse o) (free : o.owner p ≡ None) (missing : o.place n x ≡ None) where
  owned : (k : ℕ) (y : Part) (q : Reference) (b c : Bool) → (k == n) && is_same_part y x ≡ b → is_same_place q p ≡ c → (if b then Some p else o.place k y) ≡ Some q
      → (if c then Some (record { file = n; part = x }) else o.owner q) ≡ Some (record { file = k; part = y })
  owned k y q true true it place at =
      let parts = and_parts (k == n) (is_same_part y x) it in
      λ i. Some (record { file = (sym (eqb-true k n parts.0)) i; part = (sym (same_part y x parts.1)) i })
  owned k y q true false it place at = absurd (true≢false (sym (place_same p) ∙ ap (λ r. is_same_place r p) (some_same p q at) ∙ place))
  owned k y q false true it place at = absurd (none-some _ (sym free ∙ ap o.owner (sym (same_place q p place)) ∙ inverse.owned k y q at))
  owned k y q false false it place at = inverse.owned k y q at

  placed : (k : ℕ) (y : Part) (q : Reference) (b c : Bool) → (k == n) && is_same_part y x ≡ b → is_same_place q p ≡ c
      → (if c then Some (record { file = n; part = x }) else o.owner q) ≡ Some (record { file = k; part = y }) → (if b then Some p else o.place k y) ≡ Some q
  placed k y q true true it place at = ap Some (sym (same_place q p place))
  placed k y q true false it place at =
      let parts = and_parts (k == n) (is_same_part y x) it in
      absurd (none-some q (sym missing ∙ (λ i. o.place ((sym (eqb-true k n parts.0)) i) ((sym (same_part y x parts.1)) i)) ∙ inverse.placed k y q at))
  placed k y q false true it place at =
      let file : n ≡ k = ap (λ (w : Owned). w.file) (some_same _ _ at) in
      let part : x ≡ y = ap (λ (w : Owned). w.part) (some_same _ _ at) in
      absurd (true≢false (sym (ap (λ b. b && is_same_part y x) (eq-eqb k n (sym file)) ∙ ap (λ z. is_same_part z x) (sym part) ∙ part_same x) ∙ it))
  placed k y q false false it place at = inverse.placed k y q at

  pub taken_is_inverse : IsInverse (taken o n x p)
  taken_is_inverse =
      record {
        owned = λ k y q. owned k y q ((k == n) && is_same_part y x) (is_same_place q p) refl refl;
        placed = λ k y q. placed k y q ((k == n) && is_same_part y x) (is_same_place q p) refl refl;
      }

pub taken_inverse : TakenIsInverse
taken_inverse o n x p inverse free missing = taken_is_inverse o n x p inverse free missing

module _ (o : Owners) (keep : ℕ → Part → Bool) (inverse : IsInverse o) where
  kept : (k : ℕ) (y : Part) (b : Bool) → keep k y ≡ b → (q : Reference) → (if b then o.place k y else None) ≡ Some q → kept_part keep (o.owner q) ≡ Some (record { file = k; part = y })
  kept k y true is q at = ap (kept_part keep) (inverse.owned k y q at) ∙ ap (λ b. if b then Some (record { file = k; part = y }) else None) is
  kept k y false is q at = absurd (none-some q at)

  back : (k : ℕ) (y : Part) (q : Reference) (w : Option Owned) → o.owner q ≡ w → kept_part keep w ≡ Some (record { file = k; part = y }) → (if keep k y then o.place k y else None) ≡ Some q
  back k y q None is at = absurd (none-some _ at)
  back k y q (Some w) is at = within (keep w.file w.part) refl at
    where
      within : (b : Bool) → keep w.file w.part ≡ b → (if b then Some w else None) ≡ Some (record { file = k; part = y }) → (if keep k y then o.place k y else None) ≡ Some q
      within true kept at =
          let same : w ≡ record { file = k; part = y } = some_same _ _ at in
          let keeps : keep k y ≡ true = sym (ap (λ (v : Owned). keep v.file v.part) same) ∙ kept in
          ap (λ b. if b then o.place k y else None) keeps ∙ inverse.placed k y q (is ∙ ap Some same)
      within false kept at = absurd (none-some _ at)

  pub only_is_inverse : IsInverse (only keep o)
  only_is_inverse = record { owned = λ k y q. kept k y (keep k y) refl q; placed = λ k y q. back k y q (o.owner q) refl }

pub only_inverse : OnlyIsInverse
only_inverse o keep inverse = only_is_inverse o keep inverse
