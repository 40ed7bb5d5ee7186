-- Reading takes the spellings of the types and nothing else, and what is written is one of them.
use Rattle.std.proofs.Common.{◌≡◌, ℕ, List, length, refl}
use Rattle.sfs_base.specs.Reading.{IsExact}
use Rattle.sfs_xdr.specs.Items.{AreWords, word, words, opaque}
use Rattle.sfs_xdr.specs.ItemLemmas.{writers_are_in}
use Rattle.sfs_xdr.specs.Codec.{Reading, both_of, number_item, ◌⟫◌, IsNumber}
use Rattle.sfs_xdr.specs.CodecLemmas.{number_exact, fixed_exact, both_exact, made_exact, behind}
use Rattle.nfs_proto.specs.declared.fattr.Fattr.{Fattr}
use Rattle.nfs_proto.specs.declared.handle.Handle.{Handle}
use Rattle.nfs_proto.specs.declared.sattr.Sattr.{Sattr}
use Rattle.nfs_proto.specs.declared.stamp.Stamp.{Stamp}
use Rattle.nfs_proto.specs.Types.{IsHandle, handle_from, handle_item, stamp_words, IsStamp, stamp_from, stamp_item, sattr_words, IsSattr, sattr_from, sattr_item, fattr_words, IsFattr, fattr_from, fattr_item}

pub handle_exact : IsExact handle_item IsHandle
handle_exact = made_exact handle_from (λ h. h.0) _ _ (λ b. refl) (λ h. refl) (fixed_exact 32)

pub handle_written : (h : Handle) → length h.0 ≡ 32 → Unit {0} → IsHandle h (opaque h.0)
handle_written h typed fits = (typed, (writers_are_in h.0).0)

pub stamp_exact : IsExact stamp_item IsStamp
unfolding stamp_item
stamp_exact = made_exact stamp_from (λ t. (t.sec, t.usec)) _ _ (λ p. refl) (λ t. refl) (both_exact number_item number_item IsNumber IsNumber number_exact number_exact)

pub stamp_written : (t : Stamp) → AreWords (stamp_words t) → Unit {0} → IsStamp t (words (stamp_words t))
stamp_written t typed fits = behind (word t.sec) (word t.usec) (typed.0, refl) (typed.1.0, refl)

-- one number, and what follows it
numbered : {X : Type 0} (second : Reading X) (B : X → List ℕ → Type 0) → IsExact second B → IsExact (both_of number_item second) (λ p. IsNumber p.0 ⟫ B p.1)
numbered second B is = both_exact number_item second IsNumber B number_exact is

pub sattr_exact : IsExact sattr_item IsSattr
unfolding sattr_item
sattr_exact =
    made_exact sattr_from (λ a. (a.mode, (a.uid, (a.gid, (a.size, (a.atime, a.mtime)))))) _ _ (λ p. refl) (λ a. refl)
    (numbered _ _ (numbered _ _ (numbered _ _ (numbered _ _ (both_exact stamp_item stamp_item IsStamp IsStamp stamp_exact stamp_exact)))))

pub sattr_written : (a : Sattr) → AreWords (sattr_words a) → Unit {0} → IsSattr a (words (sattr_words a))
sattr_written a t fits =
    behind (word a.mode) _ (t.0, refl)
    (behind (word a.uid) _ (t.1.0, refl)
    (behind (word a.gid) _ (t.1.1.0, refl)
    (behind (word a.size) _ (t.1.1.1.0, refl)
    (behind (words (stamp_words a.atime)) (words (stamp_words a.mtime)) (stamp_written a.atime (t.1.1.1.1.0, (t.1.1.1.1.1.0, tt)) tt)
    (stamp_written a.mtime (t.1.1.1.1.1.1.0, (t.1.1.1.1.1.1.1.0, tt)) tt)))))

pub fattr_exact : IsExact fattr_item IsFattr
unfolding fattr_item
fattr_exact =
    made_exact fattr_from
    (λ a. (a.kind, (a.mode, (a.links, (a.uid, (a.gid, (a.size, (a.block_size, (a.rdev, (a.blocks, (a.fsid, (a.fileid, (a.atime, (a.mtime, a.ctime))))))))))))))
    _ _ (λ p. refl) (λ a. refl)
    (numbered _ _ (numbered _ _ (numbered _ _ (numbered _ _ (numbered _ _ (numbered _ _ (numbered _ _ (numbered _ _ (numbered _ _ (numbered _ _ (numbered _ _
    (both_exact stamp_item _ IsStamp _ stamp_exact (both_exact stamp_item stamp_item IsStamp IsStamp stamp_exact stamp_exact)))))))))))))

pub fattr_written : (a : Fattr) → AreWords (fattr_words a) → Unit {0} → IsFattr a (words (fattr_words a))
fattr_written a t fits =
    behind (word a.kind) _ (t.0, refl)
    (behind (word a.mode) _ (t.1.0, refl)
    (behind (word a.links) _ (t.1.1.0, refl)
    (behind (word a.uid) _ (t.1.1.1.0, refl)
    (behind (word a.gid) _ (t.1.1.1.1.0, refl)
    (behind (word a.size) _ (t.1.1.1.1.1.0, refl)
    (behind (word a.block_size) _ (t.1.1.1.1.1.1.0, refl)
    (behind (word a.rdev) _ (t.1.1.1.1.1.1.1.0, refl)
    (behind (word a.blocks) _ (t.1.1.1.1.1.1.1.1.0, refl)
    (behind (word a.fsid) _ (t.1.1.1.1.1.1.1.1.1.0, refl)
    (behind (word a.fileid) _ (t.1.1.1.1.1.1.1.1.1.1.0, refl)
    (behind (words (stamp_words a.atime)) _ (stamp_written a.atime (t.1.1.1.1.1.1.1.1.1.1.1.0, (t.1.1.1.1.1.1.1.1.1.1.1.1.0, tt)) tt)
    (behind (words (stamp_words a.mtime)) (words (stamp_words a.ctime))
    (stamp_written a.mtime (t.1.1.1.1.1.1.1.1.1.1.1.1.1.0, (t.1.1.1.1.1.1.1.1.1.1.1.1.1.1.0, tt)) tt)
    (stamp_written a.ctime (t.1.1.1.1.1.1.1.1.1.1.1.1.1.1.1.0, (t.1.1.1.1.1.1.1.1.1.1.1.1.1.1.1.1.0, tt)) tt)))))))))))))
