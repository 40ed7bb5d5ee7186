-- That picked blocks may be taken.
use Rattle.std.specs.Prelude.{◌≡◌, ℕ, ◌<◌, Bool, false, true, List, [], ◌∷◌, All, None}
use Rattle.std.specs.List.{AllByRecursion}
use Rattle.fs_layout.specs.declared.reference.Reference.{Reference}
use Rattle.fs_rules.specs.declared.geometry.Geometry.{Geometry}
use Rattle.fs_rules.specs.declared.plain_tree.PlainTree.{PlainTree}
use Rattle.fs_rules.specs.Edits.{Edit}
use Rattle.fs_rules.specs.Numbers.{IsNumber}
use Rattle.mini_tx.specs.FlatMemory.{Flat}
use Rattle.fs_image.specs.Edits.{are_of}
use Rattle.fs_image.specs.Owners.{Part, Owners, is_same_part}
use Rattle.fs_image.specs.Stands.{Shows}
use Rattle.node_cache.specs.declared.held.Held.{Held}
use Rattle.plan_rules.specs.declared.look.Look.{Look}
use Rattle.plan_rules.specs.Matched.{IsOwnLook}
use Rattle.plan_rules.specs.Room.{room_maps}
use Rattle.plan_rules.specs.Steps.{looks_in}
use Rattle.plan_rules.specs.Told.{free_on}
use Rattle.plan_rules.specs.Works.{IsWorkSet}
use Rattle.image_puts.specs.Takes.{IsExchange, Take}
use Rattle.plan_room.specs.Picked.{picked}

-- a file takes these blocks for these parts, one by one
abbrev pub takes_of : ℕ → List Part → List Reference → List Take
takes_of n [] rs = []
takes_of n (x ∷ xs) [] = []
takes_of n (x ∷ xs) (r ∷ rs) = record { file = n; part = x; place = r } ∷ takes_of n xs rs

-- no two parts are the same
unfoldable pub AreParts : List Part → Type 0
AreParts [] = Unit {0}
AreParts (x ∷ xs) = AllByRecursion (λ y. is_same_part y x ≡ false) xs × AreParts xs

-- different parts that a file of the edits has not
pub record AreNewParts (g : Geometry) (es : List Edit) (o : Owners) (n : ℕ) (parts : List Part) : Type 0 where
  pub of : are_of es n ≡ true
  pub number : IsNumber g n
  pub missing : AllByRecursion (λ x. o.place n x ≡ None) parts
  pub different : AreParts parts

-- everything is kept
abbrev pub keep_all : ℕ → Part → Bool
keep_all n x = true

-- what is looked at for so many blocks
abbrev pub room_looks : Held → ℕ → ℕ → List Look
room_looks held home need = looks_in (room_maps held (free_on held) home held.geometry.memories need)

-- a flat memory shows a tree, and the maps that are looked at are its own; then a file takes what is picked
abbrev pub PickedMayBeTaken : Type 0
PickedMayBeTaken = (held : Held) (flat : Flat) (t : PlainTree) (o : Owners) (es : List Edit) (home need n : ℕ) (parts : List Part) → IsWorkSet held
    → held.geometry ≡ t.geometry → Shows flat t o → home < held.geometry.memories → All (IsOwnLook t.geometry flat o held) (room_looks held home need)
    → AreNewParts t.geometry es o n parts → IsExchange t.geometry es o keep_all (takes_of n parts (picked held home need))
