-- That reading takes just the spellings of a path.
use Rattle.sfs_base.specs.Reading.{IsExact}
use Rattle.sfs_xdr.specs.Codec.{text_item, IsText}

-- the path of MNT and UMNT: reading it takes a text of at most 1,024 bytes and nothing else, whatever follows it
abbrev pub PathsAreExact : Type 0
PathsAreExact = IsExact (text_item 1024) (IsText 1024)
