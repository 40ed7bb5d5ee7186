-- What moves where something is wanted.
use Rattle.std.specs.Prelude.{◌≡◌, Bool, true, false, Some, None}
use Rattle.node_cache.specs.Cached.{Cached, held_of}
use Rattle.node_cache.specs.declared.want.Want.{Want}
use Rattle.node_cache.specs.declared.want.Want.TheVariants as want
use Rattle.node_rules.specs.Stock.{Stock, moved}

-- it was there and is moved, or it was not there and all is as it was
abbrev pub Moves : Stock → Want → Bool → Stock → Type 0
Moves s w true t = moved s w ≡ Some t
Moves s w false t = (moved s w ≡ None) × (t ≡ s)

-- no entry of the file is left whose record was wanted
abbrev pub IsGone : Want → Cached → Type 0
IsGone (want.Inode n) cache = held_of n cache.files ≡ None
IsGone (want.Chain n k) cache = Unit {0}
IsGone (want.Slots n g) cache = Unit {0}
IsGone (want.Map m) cache = Unit {0}
