-- The file of a record.
use Rattle.std.specs.Prelude.{◌≡◌, ℕ, ◌*◌, false, List, [], unwrap_or}
use Rattle.fs_layout.specs.declared.attrs.Attrs.{Attrs}
use Rattle.fs_layout.specs.declared.reference.Reference.{Reference}
use Rattle.fs_rules.specs.declared.content.Content.{Content}
use Rattle.fs_rules.specs.declared.file.File.{File}
use Rattle.fs_rules.specs.declared.geometry.Geometry.{Geometry}
use Rattle.fs_rules.specs.File.{kind_of, slots_of, parent_of}
use Rattle.mini_tx.specs.FlatMemory.{Flat}
use Rattle.fs_image.specs.Parts.{chains_of, is_stored, live_inode}
use Rattle.fs_image.specs.Places.{block_bytes}
use Rattle.fs_reader.specs.Contents.{IsContentAt}
use Rattle.fs_reader.specs.Marks.{Takes, CanTake}
use Rattle.fs_reader.specs.Walk.{places}

-- the file with this number: its record has these fields, and its blocks hold what it contains
pub record IsFileAt (block : Reference → List ℕ) (n : ℕ) (a : Attrs) (f : File) : Type 0 where
  pub attrs : live_inode f a.first ≡ a
  pub content : IsContentAt block n (places block a.first) f.content

-- a file was read, and the marks of its blocks are taken
pub record IsFileRead (g : Geometry) (flat : Flat) (n : ℕ) (a : Attrs) (old new : List ℕ) (f : File) : Type 0 where
  pub file : IsFileAt (block_bytes g flat) n a f
  pub takes : Takes g (places (block_bytes g flat) a.first) (511 * a.chains) old new

-- there is no file with this record whose blocks could be taken
abbrev pub IsNoFile : Geometry → Flat → ℕ → Attrs → List ℕ → Type 0
IsNoFile g flat n a old = (f : File) → IsFileAt (block_bytes g flat) n a f → CanTake g (places (block_bytes g flat) a.first) old → ⊥

-- ---- what it contains

-- a content of the kind, with the parent and as many chaining blocks as a record tells
pub record Fits (a : Attrs) (c : Content) : Type 0 where
  pub kind : kind_of c ≡ a.kind
  pub parent : unwrap_or (parent_of c) 0 ≡ a.parent
  pub chains : chains_of c ≡ a.chains

-- a content of the kind and with the parent that a record tells, with nothing in it
pub record IsEmptyFor (a : Attrs) (c : Content) : Type 0 where
  pub kind : kind_of c ≡ a.kind
  pub parent : unwrap_or (parent_of c) 0 ≡ a.parent
  pub none : (i : ℕ) → is_stored c i ≡ false
  pub slots : slots_of c ≡ []

-- the content of a record was read, which is the only one
pub record IsContentRead (g : Geometry) (flat : Flat) (n : ℕ) (a : Attrs) (old new : List ℕ) (c : Content) : Type 0 where
  pub content : IsContentAt (block_bytes g flat) n (places (block_bytes g flat) a.first) c
  pub fits : Fits a c
  pub takes : Takes g (places (block_bytes g flat) a.first) (511 * a.chains) old new
  pub only : (d : Content) → IsContentAt (block_bytes g flat) n (places (block_bytes g flat) a.first) d → Fits a d → CanTake g (places (block_bytes g flat) a.first) old → c ≡ d

-- there is none whose blocks could be taken
abbrev pub IsNoContent : Geometry → Flat → ℕ → Attrs → List ℕ → Type 0
IsNoContent g flat n a old = (d : Content) → IsContentAt (block_bytes g flat) n (places (block_bytes g flat) a.first) d → Fits a d → CanTake g (places (block_bytes g flat) a.first) old → ⊥

-- the file with this content and the fields of a record
abbrev pub file_by : Content → Attrs → File
file_by c a =
    record {
      content = c;
      mode = a.mode;
      links = a.links;
      uid = a.uid;
      gid = a.gid;
      size = a.size;
      generation = a.generation;
      change = a.change;
      atime = record { sec = a.atime_sec; usec = a.atime_usec };
      mtime = record { sec = a.mtime_sec; usec = a.mtime_usec };
      ctime = record { sec = a.ctime_sec; usec = a.ctime_usec };
    }
