-- What the mount protocol answers (RFC 1094, appendix A).
use Rattle.std.specs.Prelude.{ℕ, if◌then◌else◌, List, [], ◌∷◌, bytes_eq, Option, Some, None, slice_get, Result, Ok, Err}
use Rattle.sfs_xdr.specs.Items.{words}
use Rattle.sfs_xdr.specs.Codec.{text_item}
use Rattle.fs_layout.specs.Handles.{handle_words}
use Rattle.sfs_xdr.specs.declared.arg_fault.ArgFault.{ArgFault}
use Rattle.sfs_xdr.specs.declared.arg_fault.ArgFault.TheVariants as fault

-- the words of the handle of the root: file 1 in its first generation
abbrev pub root_handle : List ℕ
root_handle = handle_words 1 1

-- the one path that is exported: "/"
abbrev pub exported : List ℕ
exported = 47 ∷ []

-- MNT of a path: OK and the handle of the root, or that there is no such file
abbrev pub mounted : List ℕ → List ℕ
mounted path = if bytes_eq path exported then words (0 ∷ root_handle) else words (2 ∷ [])

-- what the path that the bytes begin with is answered
abbrev pub with_path : (List ℕ → List ℕ) → Result (List ℕ × List ℕ) (Unit {0}) → Result (List ℕ) ArgFault
with_path answer (Ok path) = Ok (answer path.0)
with_path answer (Err e) = Err fault.Garbage

-- the procedures: NULL, MNT, DUMP of an empty list, UMNT, UMNTALL, and EXPORT of "/" for everyone
abbrev pub procedures : List (List ℕ → Result (List ℕ) ArgFault)
procedures =
    (λ args. Ok []) ∷ (λ args. with_path mounted (text_item 1024 args)) ∷ (λ args. Ok (words (0 ∷ []))) ∷ (λ args. with_path (λ path. []) (text_item 1024 args)) ∷ (λ args. Ok [])
    ∷ (λ args. Ok (words (1 ∷ 1 ∷ 0x2f000000 ∷ 0 ∷ 0 ∷ []))) ∷ []

abbrev pub answered : Option (List ℕ → Result (List ℕ) ArgFault) → List ℕ → Result (List ℕ) ArgFault
answered None args = Err fault.NoProcedure
answered (Some answer) args = answer args

-- what a call of a procedure with these arguments is answered
unfoldable pub answer_of : ℕ → List ℕ → Result (List ℕ) ArgFault
answer_of procedure args = answered (slice_get procedures procedure) args
