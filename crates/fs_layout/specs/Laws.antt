-- What is spelled has one value.
use Rattle.std.specs.Prelude.{◌≡◌, ℕ, List, Option}
use Rattle.sfs_xdr.specs.Items as items
use Rattle.fs_layout.specs.declared.attrs.Attrs.{Attrs}
use Rattle.fs_layout.specs.declared.reference.Reference.{Reference}
use Rattle.fs_layout.specs.declared.superblock.Superblock.{Superblock}
use Rattle.fs_layout.specs.Words.{AreWords, spelled}
use Rattle.fs_layout.specs.References.{reference_words}
use Rattle.fs_layout.specs.Inodes.{SpellsInode}
use Rattle.fs_layout.specs.Handles.{SpellsHandle}
use Rattle.fs_layout.specs.Superblocks.{SpellsSuperblock}

abbrev pub WordsHaveOneValue : Type 0
WordsHaveOneValue = (xs ys : List ℕ) → AreWords xs → AreWords ys → spelled xs ≡ spelled ys → xs ≡ ys

-- words are the numbers of XDR (RFC 1014, section 3.2): they are spelled alike, and the same numbers are words
abbrev pub WordsAreItems : Type 0
WordsAreItems = (numbers : List ℕ) → (spelled numbers ≡ items.words numbers) × (AreWords numbers → items.AreWords numbers)
    × (items.AreWords numbers → AreWords numbers)

abbrev pub ReferencesHaveOneValue : Type 0
ReferencesHaveOneValue = (r s : Option Reference) → reference_words r ≡ reference_words s → r ≡ s

abbrev pub InodesHaveOneValue : Type 0
InodesHaveOneValue = (a b : Attrs) (bytes : List ℕ) → SpellsInode a bytes → SpellsInode b bytes → a ≡ b

abbrev pub HandlesHaveOneValue : Type 0
HandlesHaveOneValue = (number generation other last : ℕ) (bytes : List ℕ) → SpellsHandle number generation bytes → SpellsHandle other last bytes
    → (number ≡ other) × (generation ≡ last)

abbrev pub SuperblocksHaveOneValue : Type 0
SuperblocksHaveOneValue = (s t : Superblock) (bytes : List ℕ) → SpellsSuperblock s bytes → SpellsSuperblock t bytes → s ≡ t
