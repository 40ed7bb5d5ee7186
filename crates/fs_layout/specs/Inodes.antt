-- Inode records.
use Rattle.std.specs.Prelude.{◌≡◌, ◌≢◌, ℕ, ◌/◌, ◌%◌, ◌^◌, ◌<◌, ◌⊎◌, List, ◌∷◌, ◌++◌, replicate, None}
use Rattle.fs_layout.specs.declared.attrs.Attrs.{Attrs}
use Rattle.fs_layout.specs.Words.{AreWords, spelled}
use Rattle.fs_layout.specs.References.{IsReference, reference_words}

-- free, regular, directory, symbolic link
abbrev pub IsKind : ℕ → Type 0
IsKind kind = (kind ≡ 0) ⊎ ((kind ≡ 1) ⊎ ((kind ≡ 2) ⊎ (kind ≡ 5)))

-- a record of no file: all but the generation and the change number is zero
abbrev pub free_inode : ℕ → ℕ → Attrs
free_inode generation change =
    record {
      kind = 0;
      mode = 0;
      links = 0;
      uid = 0;
      gid = 0;
      size = 0;
      generation = generation;
      used = 0;
      change = change;
      atime_sec = 0;
      atime_usec = 0;
      mtime_sec = 0;
      mtime_usec = 0;
      ctime_sec = 0;
      ctime_usec = 0;
      first = None;
      chains = 0;
      parent = 0;
      names = 0;
    }

-- what the fields of a record may be
pub record IsInode (a : Attrs) : Type 0 where
  pub kind : IsKind a.kind
  pub mode : a.mode < 2 ^ 12
  pub first : IsReference a.first
  pub free : a.kind ≡ 0 → a ≡ free_inode a.generation a.change
  pub no_directory : a.kind ≢ 2 → (a.parent ≡ 0) × (a.names ≡ 0)

-- the words of a record, in order; the change number has its high word first
unfoldable pub inode_words : Attrs → List ℕ
inode_words a =
    a.kind ∷ a.mode ∷ a.links ∷ a.uid ∷ a.gid ∷ a.size ∷ a.generation ∷ a.used ∷ (a.change / 2 ^ 32) ∷ (a.change % 2 ^ 32)
    ∷ a.atime_sec ∷ a.atime_usec ∷ a.mtime_sec ∷ a.mtime_usec ∷ a.ctime_sec ∷ a.ctime_usec
    ∷ (reference_words a.first ++ (a.chains ∷ a.parent ∷ a.names ∷ replicate 11 0))

-- the bytes are the record with these fields
pub record SpellsInode (a : Attrs) (bytes : List ℕ) : Type 0 where
  pub fields : IsInode a
  pub words : AreWords (inode_words a)
  pub bytes_are : bytes ≡ spelled (inode_words a)
