-- What holds of a memory node's state at every moment.
use Rattle.std.specs.Prelude.{◌≡◌, ℕ, true, List, [], ◌∷◌, length, All, ⊤}
use Rattle.std.specs.List.{AllByRecursion, AllByRecursion-prop}
use Rattle.std.proofs.Math.Bool.{Bool-set}
use Rattle.mini_tx.specs.declared.entry.Entry.{Entry}
use Rattle.mem_rules.specs.declared.kept.Kept.{Kept}
use Rattle.mem_rules.specs.declared.setup.Setup.{Setup}
use Rattle.mem_rules.specs.Fit.{IsRangeInside, IsWriteInside, IsCovered, IsIn, IsFit, size_of}
use Rattle.mem_rules.specs.Identifiers.{precedes}
use Rattle.mem_rules.specs.Rules.{is_undecided}
use Rattle.mem_rules.specs.State.{State, opened, after_entry}

-- each record's identifier comes before those of the records behind it
abbrev pub AreAscending : List Kept → Type 0
AreAscending [] = ⊤
AreAscending (k ∷ kept) = AllByRecursion (λ (other : Kept). precedes k.id other.id ≡ true) kept × AreAscending kept

-- the ranges and writes of a record lie inside the image, and the writes inside the ranges
pub record IsInPlace (s : Setup) (k : Kept) : Type 0 where
  pub ranges : All (IsRangeInside (size_of s)) k.ranges
  pub writes : All (IsWriteInside (size_of s)) k.writes
  pub covered : All (IsCovered k.ranges) k.writes

-- where both are undecided, no byte is locked by both
abbrev pub AreApart : Kept → Kept → Type 0
AreApart k other = is_undecided k ≡ true → is_undecided other ≡ true
    → (place : ℕ) → IsIn k.ranges place → IsIn other.ranges place → ⊥

-- each is apart from those behind it
abbrev pub AreAllApart : List Kept → Type 0
AreAllApart [] = ⊤
AreAllApart (k ∷ kept) = AllByRecursion (AreApart k) kept × AreAllApart kept

-- there is a place for the floor of each coordinator, the image has its size, and the records ascend, are in place and
-- lock different bytes
pub record IsGood (s : Setup) (state : State) : Type 0 where
  pub floors : length state.floors ≡ s.geometry.nodes
  pub image : length state.image ≡ size_of s
  pub ascending : AreAscending state.kept
  pub records : AllByRecursion (IsInPlace s) state.kept
  pub apart : AreAllApart state.kept

-- each of these has one proof at most
pub AreAscending-prop : (kept : List Kept) → IsProp (AreAscending kept)
AreAscending-prop [] = Prim.hlevel
AreAscending-prop (k ∷ kept) = Prim.hlevel (AllByRecursion-prop, Bool-set, AreAscending-prop kept)

pub AreAllApart-prop : (kept : List Kept) → IsProp (AreAllApart kept)
AreAllApart-prop [] = Prim.hlevel
AreAllApart-prop (k ∷ kept) = Prim.hlevel (AllByRecursion-prop, Bool-set, AreAllApart-prop kept)

-- before the first entry it holds
abbrev pub OpenedStatesAreGood : Type 0
OpenedStatesAreGood = (s : Setup) (image : List ℕ) → length image ≡ size_of s → IsGood s (opened s.geometry.nodes image)

-- and each entry that is fit keeps it
abbrev pub EntriesKeepStatesGood : Type 0
EntriesKeepStatesGood = (s : Setup) (state : State) (e : Entry) → IsGood s state → IsFit s state e → IsGood s (after_entry state e)
