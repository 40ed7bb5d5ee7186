-- The length of the header.
use Rattle.std.proofs.Common.{◌≡◌, length, refl}
use Rattle.mem_rules.specs.declared.setup.Setup.{Setup}
use Rattle.node_disk.specs.Header.{header_words, header_bytes}

pub length-header : (s : Setup) → length (header_bytes s) ≡ 32
unfolding header_words
length-header s = refl
