-- The lines that tell a tree.
use Rattle.std.specs.Prelude.{ℕ, ◌+◌, ◌/◌, ◌%◌, List, [], ◌∷◌, map, codes, decimal, Option, Some, None}
use Rattle.std.specs.List.{flat_map, join_with_byte}
use Rattle.std.specs.FinMap as table
use Rattle.hex.specs.Hex.{encode_lower}
use Rattle.fs_rules.specs.declared.content.Content.{Content}
use Rattle.fs_rules.specs.declared.content.Content.TheVariants.{Regular, Link, Directory}
use Rattle.fs_rules.specs.declared.entry.Entry.{Entry}
use Rattle.fs_rules.specs.declared.file.File.{File}
use Rattle.fs_rules.specs.declared.plain_tree.PlainTree.{PlainTree}

-- the line of these words, with a space between two
unfoldable pub spaced : List (List ℕ) → List ℕ
spaced words = join_with_byte 32 words

-- the kind of a file
abbrev pub kind_word : Content → List ℕ
kind_word (Regular blocks) = codes "reg"
kind_word (Directory slots parent) = codes "dir"
kind_word (Link blocks) = codes "lnk"

-- a mode of 12 bits as four octal digits, of which 48 is the byte of 0
abbrev pub mode_word : ℕ → List ℕ
mode_word mode = map (λ place. 48 + mode / place % 8) (0o1000 ∷ 0o100 ∷ 0o10 ∷ 1 ∷ [])

-- the line of a file
unfoldable pub file_line : ℕ → File → List ℕ
file_line number f =
    spaced
    (codes "file" ∷ decimal number ∷ decimal f.generation ∷ kind_word f.content ∷ mode_word f.mode
    ∷ decimal f.links ∷ decimal f.uid ∷ decimal f.gid ∷ decimal f.size ∷ decimal f.change
    ∷ decimal f.atime.sec ∷ decimal f.atime.usec
    ∷ decimal f.mtime.sec ∷ decimal f.mtime.usec
    ∷ decimal f.ctime.sec ∷ decimal f.ctime.usec ∷ [])

-- the line of a slot in use of a directory
unfoldable pub name_line : ℕ → ℕ → Entry → List ℕ
name_line directory slot e =
    spaced (codes "name" ∷ decimal directory ∷ decimal slot ∷ encode_lower e.name ∷ decimal e.file ∷ [])

-- the line of a stored block of a file
unfoldable pub data_line : ℕ → ℕ → List ℕ → List ℕ
data_line number index block =
    spaced (codes "data" ∷ decimal number ∷ decimal index ∷ encode_lower block ∷ [])

-- the lines of the slots in use, of which the first slot that is left is the one at this index
unfoldable pub name_lines : ℕ → ℕ → List (Option Entry) → List (List ℕ)
name_lines directory slot [] = []
name_lines directory slot (None ∷ slots) = name_lines directory (slot + 1) slots
name_lines directory slot (Some e ∷ slots) = name_line directory slot e ∷ name_lines directory (slot + 1) slots

-- the lines of blocks with their indices
abbrev pub data_lines : ℕ → List (ℕ × List ℕ) → List (List ℕ)
data_lines number blocks = map (λ block. data_line number block.0 block.1) blocks

-- the lines of what a file contains
abbrev pub content_lines : ℕ → Content → List (List ℕ)
content_lines number (Regular blocks) = data_lines number (table.entries blocks)
content_lines number (Directory slots parent) = name_lines number 0 slots
content_lines number (Link blocks) = data_lines number (table.entries blocks)

-- the lines of a file
abbrev pub file_lines : ℕ → File → List (List ℕ)
file_lines number f = file_line number f ∷ content_lines number f.content

-- the lines of a tree: its files in ascending order of their numbers
abbrev pub listing : PlainTree → List (List ℕ)
listing tree = flat_map (λ file. file_lines file.0 file.1) (table.entries tree.files)
