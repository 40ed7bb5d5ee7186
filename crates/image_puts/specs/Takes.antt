-- Files of edits give up blocks, and take free ones.
use Rattle.std.specs.Prelude.{◌≡◌, ℕ, ◌==◌, Bool, false, true, ◌&&◌, ◌||◌, List, [], ◌∷◌, Some, None, is_some}
use Rattle.std.specs.List.{AllByRecursion, list_any}
use Rattle.fs_layout.specs.declared.reference.Reference.{Reference}
use Rattle.fs_rules.specs.declared.geometry.Geometry.{Geometry}
use Rattle.fs_rules.specs.Edits.{Edit}
use Rattle.fs_rules.specs.Numbers.{IsNumber}
use Rattle.fs_image.specs.Edits.{are_of}
use Rattle.fs_image.specs.Owners.{Part, Owners, IsInverse, is_same_place, is_same_part, taken, kept_part, only}
use Rattle.fs_image.specs.Stands.{IsBlock}
use Rattle.image_puts.specs.Only.{AreOwnersAfter}

-- a block that a file takes for a part
pub record Take : Type 0 where
  pub file : ℕ
  pub part : Part
  pub place : Reference

-- one after the other
unfoldable pub all_taken : List Take → Owners → Owners
all_taken [] o = o
all_taken (t ∷ takes) o = all_taken takes (taken o t.file t.part t.place)

-- whether a block is taken
abbrev pub is_taken : List Take → Reference → Bool
is_taken takes r = list_any (λ t. is_same_place r t.place) takes

-- the owners once all but these parts were given up, and these blocks were taken
abbrev pub owners_after : (ℕ → Part → Bool) → List Take → Owners → Owners
owners_after keep takes o = all_taken takes (only keep o)

-- a file of an edit takes a free block for a part that it has not
pub record IsFreeFor (g : Geometry) (es : List Edit) (o : Owners) (t : Take) : Type 0 where
  pub of : are_of es t.file ≡ true
  pub number : IsNumber g t.file
  pub block : IsBlock g t.place
  pub free : o.owner t.place ≡ None
  pub missing : o.place t.file t.part ≡ None

-- no block is taken twice, and none is taken for the same part
pub record IsAnother (t u : Take) : Type 0 where
  pub place : is_same_place u.place t.place ≡ false
  pub part : ((u.file == t.file) && is_same_part u.part t.part) ≡ false

unfoldable pub AreOthers : List Take → Type 0
AreOthers [] = Unit {0}
AreOthers (t ∷ takes) = AllByRecursion (IsAnother t) takes × AreOthers takes

-- what is taken and what is given up
pub record IsExchange (g : Geometry) (es : List Edit) (o : Owners) (keep : ℕ → Part → Bool) (takes : List Take) : Type 0 where
  pub inverse : IsInverse o
  pub inside : (n : ℕ) (x : Part) (r : Reference) → o.place n x ≡ Some r → IsNumber g n × IsBlock g r
  pub keeps : (n : ℕ) (x : Part) → are_of es n ≡ false → keep n x ≡ true
  pub free : AllByRecursion (IsFreeFor g es (only keep o)) takes
  pub others : AreOthers takes

-- a block has an owner then if it was kept or taken
abbrev pub has_owner_after : (ℕ → Part → Bool) → List Take → Owners → Reference → Bool
has_owner_after keep takes o r = is_some (kept_part keep (o.owner r)) || is_taken takes r

pub record IsExchanged (g : Geometry) (es : List Edit) (o : Owners) (keep : ℕ → Part → Bool) (takes : List Take) : Type 0 where
  pub owners : AreOwnersAfter g es o (owners_after keep takes o)
  pub bits : (r : Reference) → is_some ((owners_after keep takes o).owner r) ≡ has_owner_after keep takes o r

abbrev pub ExchangesAreOwners : Type 0
ExchangesAreOwners = (g : Geometry) (es : List Edit) (o : Owners) (keep : ℕ → Part → Bool) (takes : List Take) → IsExchange g es o keep takes → IsExchanged g es o keep takes
