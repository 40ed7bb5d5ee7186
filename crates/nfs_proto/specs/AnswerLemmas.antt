-- Reading takes the spellings of a name of a directory and nothing else, and what is written is one of them.
use Rattle.std.proofs.Common.{◌<◌, ◌≤◌, ◌^◌, ◌++◌, length, refl}
use Rattle.sfs_base.specs.Reading.{IsExact}
use Rattle.sfs_xdr.specs.Items.{word, opaque_var}
use Rattle.sfs_xdr.specs.Codec.{number_item, IsNumber}
use Rattle.sfs_xdr.specs.CodecLemmas.{number_exact, text_exact, both_exact, made_exact, behind, text_written}
use Rattle.std.proofs.Common.{lit<}
use Rattle.nfs_proto.specs.declared.dir_entry.DirEntry.{DirEntry}
use Rattle.nfs_proto.specs.Types.{name_item, IsName}
use Rattle.nfs_proto.specs.Answers.{IsEntry, entry_from, entry_item}

pub entry_exact : IsExact entry_item IsEntry
unfolding entry_item
entry_exact =
    made_exact entry_from (λ e. (e.fileid, (e.name, e.cookie))) _ _ (λ p. refl) (λ e. refl)
    (both_exact number_item _ IsNumber _ number_exact (both_exact name_item number_item IsName IsNumber (text_exact 1024 (lit< tt)) number_exact))

pub entry_written : (e : DirEntry) → (e.fileid < 2 ^ 32) × (e.cookie < 2 ^ 32) → length e.name ≤ 1024
    → IsEntry e (word e.fileid ++ (opaque_var e.name ++ word e.cookie))
entry_written e typed fits =
    behind (word e.fileid) _ (typed.0, refl) (behind (opaque_var e.name) (word e.cookie) (text_written 1024 e.name fits) (typed.1, refl))
