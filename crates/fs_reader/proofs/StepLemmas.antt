-- The references of a chaining block, read one by one.
use Rattle.std.proofs.Common.{◌≡◌, ℕ, ◌+◌, ◌*◌, ◌<◌, List, Option, Some, None, sym, ap, subst, ◌∙◌, arith}
use Rattle.std.specs.Prelude.{slice_get, unwrap_or}
use Rattle.fs_layout.specs.declared.reference.Reference.{Reference}
use Rattle.fs_rules.specs.declared.content.Content.{Content}
use Rattle.fs_rules.specs.declared.geometry.Geometry.{Geometry}
use Rattle.fs_rules.specs.Geometry.{IsWithinLimits}
use Rattle.mini_tx.specs.FlatMemory.{Flat}
use Rattle.fs_image.specs.Owners.{Part, Block}
use Rattle.fs_reader.specs.Contents.{IsReadTo, IsClaimed, IsReferenceRead, CanBeRead, ReadsTo, IsNoneClaimed, Refers}
use Rattle.fs_reader.specs.Marks.{turn}
use Rattle.fs_reader.proofs.MarkLemmas.{takes_can}
use Rattle.fs_reader.proofs.ReadLemmas.{read_none, read_block, can_put}

module _ (g : Geometry) (limits : IsWithinLimits g) (flat : Flat) where
  -- one reference more
  step : (place : Part → Option Reference) (turns : ℕ) (empty : Content) (start left : List ℕ) (c : Content) (new : List ℕ) (d : Content) (i : ℕ) (o : Option Reference) → turn (Block i) ≡ turns
      → place (Block i) ≡ o → IsReferenceRead g flat o i left c new d → IsReadTo g flat place turns empty start left c → IsReadTo g flat place (turns + 1) empty start new d
  step place turns empty start left c new d i None now at read before =
      subst (λ (l : List ℕ). IsReadTo g flat place (turns + 1) empty start l d) (sym read.0)
      (subst (λ (e : Content). IsReadTo g flat place (turns + 1) empty start left e) (sym read.1) (read_none g limits flat place turns empty start left c before i now at))
  step place turns empty start left c new d i (Some p) now at read before =
      read_block g limits flat place turns empty start left c before i now p at new d read.inside read.marked read.set read.put

  can_step : (n : ℕ) (place : Part → Option Reference) (turns : ℕ) (empty : Content) (start left : List ℕ) (c d : Content) (i : ℕ) (o : Option Reference) → turn (Block i) ≡ turns
      → place (Block i) ≡ o → IsReadTo g flat place turns empty start left c → IsClaimed g flat n place empty start d → CanBeRead g flat o i left c
  can_step n place turns empty start left c d i None now at read claim = tt
  can_step n place turns empty start left c d i (Some p) now at read claim =
      record {
        inside = claim.marks.inside (Block i) p at;
        marked = takes_can g limits place turns start left read.takes (Block i) now p at claim.marks;
        put = can_put g limits flat place turns empty start left c read i now p at n d claim;
      }

  module _ (references : List (Option Reference)) (index : ℕ) where
    abbrev Know : (Part → Option Reference) → Type 0
    Know place = Refers place index references

    at_place : (place : Part → Option Reference) → Know place → (j : ℕ) (o : Option Reference) → j < 510 → slice_get references j ≡ Some o → place (Block (510 * index + j)) ≡ o
    at_place place know j o below is = ap (λ x. unwrap_or x o) (sym (know j below) ∙ is)

    now_of : (j : ℕ) → j < 510 → turn (Block (510 * index + j)) ≡ 511 * index + 1 + j
    now_of j below = omega (arith, below)

    -- no reference was read
    pub none_read : (left : List ℕ) (c : Content) → ReadsTo g flat Know (511 * index + 1) (511 * index + 1 + 0) left c left c
    none_read left c place empty start know read =
        let same : 511 * index + 1 ≡ 511 * index + 1 + 0 = omega arith in
        subst (λ (t : ℕ). IsReadTo g flat place t empty start left c) same read

    -- one more
    pub more_read : (j i : ℕ) (o : Option Reference) (first : List ℕ) (b : Content) (left : List ℕ) (c : Content) (new : List ℕ) (d : Content) → j < 510 → i ≡ 510 * index + j
        → slice_get references j ≡ Some o → ReadsTo g flat Know (511 * index + 1) (511 * index + 1 + j) first b left c → IsReferenceRead g flat o i left c new d
        → ReadsTo g flat Know (511 * index + 1) (511 * index + 1 + (j + 1)) first b new d
    more_read j i o first b left c new d below is at before read place empty start know from =
        let next : 511 * index + 1 + j + 1 ≡ 511 * index + 1 + (j + 1) = omega arith in
        let one = subst (λ (k : ℕ). IsReferenceRead g flat o k left c new d) is read in
        subst (λ (t : ℕ). IsReadTo g flat place t empty start new d) next
        (step place (511 * index + 1 + j) empty start left c new d (510 * index + j) o (now_of j below) (at_place place know j o below at) one (before place empty start know from))

    -- all
    pub all_read : (j : ℕ) (first : List ℕ) (b : Content) (left : List ℕ) (c : Content) → j ≡ 510 → ReadsTo g flat Know (511 * index + 1) (511 * index + 1 + j) first b left c
        → ReadsTo g flat Know (511 * index + 1) (511 * (index + 1)) first b left c
    all_read j first b left c end before place empty start know from =
        let same : 511 * index + 1 + j ≡ 511 * (index + 1) = omega (arith, end) in
        subst (λ (t : ℕ). IsReadTo g flat place t empty start left c) same (before place empty start know from)

    -- one that cannot be read
    pub not_read : (j i : ℕ) (o : Option Reference) (first : List ℕ) (b : Content) (left : List ℕ) (c : Content) → j < 510 → i ≡ 510 * index + j → slice_get references j ≡ Some o
        → ReadsTo g flat Know (511 * index + 1) (511 * index + 1 + j) first b left c → (CanBeRead g flat o i left c → ⊥) → IsNoneClaimed g flat Know (511 * index + 1) first b
    not_read j i o first b left c below is at before not n place empty start d know from claim =
        not (subst (λ (k : ℕ). CanBeRead g flat o k left c) (sym is)
        (can_step n place (511 * index + 1 + j) empty start left c d (510 * index + j) o (now_of j below) (at_place place know j o below at) (before place empty start know from) claim))
