-- The types of the messages (RFC 1094, section 2.3): how they are spelled, and what reading them gives.
use Rattle.std.specs.Prelude.{ℕ, List, [], ◌∷◌}
use Rattle.sfs_xdr.specs.Codec.{Reading, both_of, made_of, number_item, fixed_item, text_item, ◌⟫◌, IsNumber, IsFixed, IsText}
use Rattle.nfs_proto.specs.declared.fattr.Fattr.{Fattr}
use Rattle.nfs_proto.specs.declared.handle.Handle.{Handle}
use Rattle.nfs_proto.specs.declared.sattr.Sattr.{Sattr}
use Rattle.nfs_proto.specs.declared.stamp.Stamp.{Stamp}

-- a handle: 32 bytes
abbrev pub IsHandle : Handle → List ℕ → Type 0
IsHandle h = IsFixed 32 h.0

abbrev pub handle_from : List ℕ → Handle
handle_from bytes = record { 0 = bytes }

abbrev pub handle_item : Reading Handle
handle_item = made_of handle_from (fixed_item 32)

-- a name, a path and data, each behind its length
abbrev pub IsName : List ℕ → List ℕ → Type 0
IsName name = IsText 1024 name

abbrev pub name_item : Reading (List ℕ)
name_item = text_item 1024

abbrev pub IsPath : List ℕ → List ℕ → Type 0
IsPath path = IsText 1024 path

abbrev pub path_item : Reading (List ℕ)
path_item = text_item 1024

abbrev pub IsData : List ℕ → List ℕ → Type 0
IsData data_ = IsText 8192 data_

abbrev pub data_item : Reading (List ℕ)
data_item = text_item 8192

-- a moment: seconds, microseconds
abbrev pub stamp_words : Stamp → List ℕ
stamp_words t = t.sec ∷ t.usec ∷ []

abbrev pub IsStamp : Stamp → List ℕ → Type 0
IsStamp t = IsNumber t.sec ⟫ IsNumber t.usec

abbrev pub stamp_from : ℕ × ℕ → Stamp
stamp_from p = record { sec = p.0; usec = p.1 }

unfoldable pub stamp_item : Reading Stamp
stamp_item = made_of stamp_from (both_of number_item number_item)

-- what is set of a file: mode, user, group, size, and two moments
abbrev pub sattr_words : Sattr → List ℕ
sattr_words a = a.mode ∷ a.uid ∷ a.gid ∷ a.size ∷ a.atime.sec ∷ a.atime.usec ∷ a.mtime.sec ∷ a.mtime.usec ∷ []

abbrev pub IsSattr : Sattr → List ℕ → Type 0
IsSattr a = IsNumber a.mode ⟫ IsNumber a.uid ⟫ IsNumber a.gid ⟫ IsNumber a.size ⟫ IsStamp a.atime ⟫ IsStamp a.mtime

abbrev pub sattr_from : ℕ × (ℕ × (ℕ × (ℕ × (Stamp × Stamp)))) → Sattr
sattr_from p = record { mode = p.0; uid = p.1.0; gid = p.1.1.0; size = p.1.1.1.0; atime = p.1.1.1.1.0; mtime = p.1.1.1.1.1 }

unfoldable pub sattr_item : Reading Sattr
sattr_item = made_of sattr_from (both_of number_item (both_of number_item (both_of number_item (both_of number_item (both_of stamp_item stamp_item)))))

-- what is told of a file: eleven numbers and three moments
abbrev pub fattr_words : Fattr → List ℕ
fattr_words a =
    a.kind ∷ a.mode ∷ a.links ∷ a.uid ∷ a.gid ∷ a.size ∷ a.block_size ∷ a.rdev ∷ a.blocks ∷ a.fsid ∷ a.fileid ∷ a.atime.sec ∷ a.atime.usec ∷ a.mtime.sec ∷ a.mtime.usec ∷ a.ctime.sec ∷ a.ctime.usec ∷ []

abbrev pub IsFattr : Fattr → List ℕ → Type 0
IsFattr a =
    IsNumber a.kind ⟫ IsNumber a.mode ⟫ IsNumber a.links ⟫ IsNumber a.uid ⟫ IsNumber a.gid ⟫ IsNumber a.size ⟫ IsNumber a.block_size ⟫ IsNumber a.rdev
    ⟫ IsNumber a.blocks ⟫ IsNumber a.fsid ⟫ IsNumber a.fileid ⟫ IsStamp a.atime ⟫ IsStamp a.mtime ⟫ IsStamp a.ctime

abbrev pub fattr_from : ℕ × (ℕ × (ℕ × (ℕ × (ℕ × (ℕ × (ℕ × (ℕ × (ℕ × (ℕ × (ℕ × (Stamp × (Stamp × Stamp)))))))))))) → Fattr
fattr_from p =
    record {
      kind = p.0;
      mode = p.1.0;
      links = p.1.1.0;
      uid = p.1.1.1.0;
      gid = p.1.1.1.1.0;
      size = p.1.1.1.1.1.0;
      block_size = p.1.1.1.1.1.1.0;
      rdev = p.1.1.1.1.1.1.1.0;
      blocks = p.1.1.1.1.1.1.1.1.0;
      fsid = p.1.1.1.1.1.1.1.1.1.0;
      fileid = p.1.1.1.1.1.1.1.1.1.1.0;
      atime = p.1.1.1.1.1.1.1.1.1.1.1.0;
      mtime = p.1.1.1.1.1.1.1.1.1.1.1.1.0;
      ctime = p.1.1.1.1.1.1.1.1.1.1.1.1.1;
    }

unfoldable pub fattr_item : Reading Fattr
fattr_item =
    made_of fattr_from
    (both_of number_item (both_of number_item (both_of number_item (both_of number_item (both_of number_item (both_of number_item (both_of number_item (both_of number_item
    (both_of number_item (both_of number_item (both_of number_item (both_of stamp_item (both_of stamp_item stamp_item)))))))))))))
