-- That reading takes just the spellings.
use Rattle.std.specs.Prelude.{◌≡◌, ℕ, ◌^◌, ◌<◌, ◌≤◌, List, length}
use Rattle.sfs_base.specs.Reading.{IsExact}
use Rattle.sfs_xdr.specs.Items.{word, boolean, opaque, opaque_var, IsOpaque, IsOpaqueVar}
use Rattle.sfs_xdr.specs.Reading.{word_of, boolean_of, opaque_of, opaque_max_of}

abbrev pub WordIsExact : Type 0
WordIsExact = IsExact word_of (λ n item. (n < 2 ^ 32) × (item ≡ word n))

abbrev pub BooleanIsExact : Type 0
BooleanIsExact = IsExact boolean_of (λ b item. item ≡ boolean b)

abbrev pub OpaqueIsExact : Type 0
OpaqueIsExact = (n : ℕ) → IsExact (opaque_of n) (λ bytes item. (length bytes ≡ n) × IsOpaque bytes item)

abbrev pub OpaqueMaxIsExact : Type 0
OpaqueMaxIsExact = (max : ℕ) → max < 2 ^ 32 → IsExact (opaque_max_of max) (λ bytes item. (length bytes ≤ max) × IsOpaqueVar bytes item)

abbrev pub WritersAreInTheGrammar : Type 0
WritersAreInTheGrammar = (bytes : List ℕ) → IsOpaque bytes (opaque bytes) × IsOpaqueVar bytes (opaque_var bytes)
