-- The handle of the root, as an item and as words.
use Rattle.std.proofs.Common.{◌≡◌, ◌∷◌, ◌++◌, refl}
use Rattle.sfs_xdr.specs.Items.{word, words, opaque}
use Rattle.fs_layout.specs.Words.{spelled}
use Rattle.fs_layout.specs.Handles.{handle_words, handle}
use Rattle.mount_proto.specs.Mount.{root_handle}

pub root_is : word 0 ++ opaque (handle 1 1) ≡ words (0 ∷ root_handle)
unfolding spelled handle_words
root_is = refl
