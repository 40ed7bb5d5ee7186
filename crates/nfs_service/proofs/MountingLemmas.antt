-- The handle that MNT answers names the root.
use Rattle.std.proofs.Common.{◌≡◌, ℕ, Some, None, cond, sym, ap, ◌∙◌}
use Rattle.std.specs.Prelude.{option_and_then}
use Rattle.std.specs.Str.{bytes_eq}
use Rattle.fs_layout.specs.Words.{spelled}
use Rattle.fs_layout.specs.Handles.{handle_words, handle}
use Rattle.fs_rules.specs.declared.file.File.{File}
use Rattle.mount_proto.proofs.RootLemmas.{root_is}
use Rattle.nfs_service.specs.Mounting.{TheRootIsMounted, root}

-- a file in its first generation is named by the handle
named : (f : File) → f.generation ≡ 1 → cond (bytes_eq root (handle 1 f.generation)) (Some f) None ≡ Some f
unfolding spelled handle_words
named f is = ap (λ (n : ℕ). cond (bytes_eq root (handle 1 n)) (Some f) None) is

pub root_is_mounted : TheRootIsMounted
unfolding spelled handle_words
root_is_mounted = (
  sym root_is,
  λ t f there first.
      ap (option_and_then (λ f. cond (bytes_eq root (handle 1 f.generation)) (Some f) None)) there ∙ named f first,
)
