-- The first page of a memory node's disk.
use Rattle.std.specs.Prelude.{◌≡◌, ℕ, List, [], ◌∷◌}
use Rattle.std.specs.List.{flat_map}
use Rattle.sfs_xdr.specs.Items.{word}
use Rattle.disk_model.specs.Crash.{Content, Holds}
use Rattle.mem_rules.specs.declared.setup.Setup.{Setup}

-- the mark "SFSD", the version, the role, the number of the memory node, and the numbers of the cluster
unfoldable pub header_words : Setup → List ℕ
header_words s =
    0x53465344 ∷ 1 ∷ 1 ∷ s.index ∷ s.geometry.nodes ∷ s.geometry.memories ∷ s.geometry.blocks ∷ s.geometry.inodes ∷ []

abbrev pub header_bytes : Setup → List ℕ
header_bytes s = flat_map word (header_words s)

-- the disk is formatted, for this memory node of this cluster
pub record IsFormatted (s : Setup) (content : Content) : Type 0 where
  pub header : Holds content 64 (header_bytes s)
  pub mark : content 128 ≡ 1
