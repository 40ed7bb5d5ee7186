-- What READLINK, READ and READDIR read and answer, by what is held, once they want no part and no check fails.
use Rattle.std.specs.Prelude.{ℕ, ◌+◌, ◌-◌, ◌*◌, ◌^◌, min, if◌then◌else◌, List, [], ◌∷◌, map, flat_map, codes}
use Rattle.std.specs.Option.{option_map_or}
use Rattle.nfs_proto.specs.declared.answer.Answer.TheVariants.{Fault}
use Rattle.nfs_proto.specs.declared.dir_entry.DirEntry.{DirEntry}
use Rattle.fs_layout.specs.declared.attrs.Attrs.{Attrs}
use Rattle.fs_layout.specs.declared.reference.Reference.{Reference}
use Rattle.fs_layout.specs.Places.{block_place}
use Rattle.fs_dir.specs.declared.slot.Slot.{Slot}
use Rattle.fs_dir.specs.Slots.{in_use}
use Rattle.fs_rules.specs.declared.geometry.Geometry.{Geometry}
use Rattle.fs_rules.specs.Contents.{touched}
use Rattle.fs_rules.specs.Reading.{names_answer}
use Rattle.fs_rules.specs.Slots.{entries_behind}
use Rattle.fs_rules.specs.Statuses.{stale}
use Rattle.fs_image.specs.Owners.{Block}
use Rattle.fs_image.specs.Places.{layout_of}
use Rattle.mini_tx.specs.declared.item.Item.{Item}
use Rattle.mini_tx.specs.declared.item.Item.TheVariants as item
use Rattle.node_cache.specs.declared.held.Held.{Held}
use Rattle.plan_rules.specs.Told.{at_record, place_of, slots_of}
use Rattle.plan_forms.specs.declared.form.AnswerForm.TheVariants.{Path, Part}
use Rattle.plan_forms.specs.declared.form.Piece.{Piece}
use Rattle.plan_forms.specs.declared.form.Piece.TheVariants.{Zeros, Read}
use Rattle.plan_forms.specs.declared.plan.Reading.{Reading}
use Rattle.read_laws.specs.Answers.{fattr_by, ready}

-- ---- so many bytes of a file from a place on, block by block

-- where those of a block begin in it, and how many there are
abbrev pub start_in : ℕ → ℕ → ℕ
start_in offset i = offset - 4096 * i

abbrev pub bytes_in : ℕ → ℕ → ℕ → ℕ
bytes_in offset count i = min 4096 (offset + count - 4096 * i) - start_in offset i

-- of a block that is stored just these are read
abbrev pub bytes_read : Geometry → ℕ → ℕ → ℕ → Reference → Item
bytes_read g offset count i r = item.Read r.memory (block_place (layout_of g) r.block + start_in offset i) (bytes_in offset count i)

abbrev pub reads_at : Held → ℕ → ℕ → ℕ → ℕ → List Item
reads_at held n offset count i = option_map_or (λ r. bytes_read held.geometry offset count i r ∷ []) (place_of held n (Block i)) []

-- those of one that is not are zeros
abbrev pub piece_at : Held → ℕ → ℕ → ℕ → ℕ → Piece
piece_at held n offset count i = option_map_or (λ r. Read) (place_of held n (Block i)) (Zeros (bytes_in offset count i))

-- all of them, in order
abbrev pub part_reads : Held → ℕ → ℕ → ℕ → List Item
part_reads held n offset count = flat_map (reads_at held n offset count) (touched offset count)

abbrev pub part_pieces : Held → ℕ → ℕ → ℕ → List Piece
part_pieces held n offset count = map (piece_at held n offset count) (touched offset count)

-- ---- READLINK: the path

abbrev pub path_by : Held → ℕ → Attrs → Reading
path_by held n a = record { items = part_reads held n 0 a.size; form = Path (part_pieces held n 0 a.size) }

abbrev pub read_link_by : Held → ℕ → Reading
read_link_by held n = at_record held n (ready (Fault stale)) (path_by held n)

-- ---- READ: as many bytes as are asked for, at most 8,192, and none past the size

abbrev pub given_of : ℕ → ℕ → ℕ → ℕ
given_of size offset count = min count (min 8192 (size - offset))

abbrev pub part_by : Held → ℕ → ℕ → ℕ → Attrs → Reading
part_by held n offset count a = record { items = part_reads held n offset count; form = Part (fattr_by n a) (part_pieces held n offset count) }

abbrev pub read_by : Held → ℕ → ℕ → ℕ → Reading
read_by held n offset count = at_record held n (ready (Fault stale)) (λ a. part_by held n offset (given_of a.size offset count) a)

-- ---- READDIR

-- the cookie of the slot behind one with this cookie: one more, as far as a word tells it
abbrev pub next_cookie : ℕ → ℕ
next_cookie cookie = min (cookie + 1) (2 ^ 32 - 1)

-- the names in slots, of which the first has this cookie
unfoldable pub names_from : ℕ → List Slot → List DirEntry
names_from cookie [] = []
names_from cookie (s ∷ slots) =
    if in_use s
    then record { fileid = s.number; name = s.name; cookie = cookie } ∷ names_from (next_cookie cookie) slots
    else names_from (next_cookie cookie) slots

-- a directory itself, its parent, and its names
abbrev pub entries_in : ℕ → ℕ → List Slot → List DirEntry
entries_in n parent slots =
    record { fileid = n; name = codes "."; cookie = 1 } ∷ record { fileid = parent; name = codes ".."; cookie = 2 } ∷ names_from 3 slots

-- those behind a cookie, as many as fit
abbrev pub names_by : Held → ℕ → ℕ → ℕ → Attrs → Reading
names_by held n cookie count a = ready (names_answer count (entries_behind cookie (entries_in n a.parent (slots_of held n))))

abbrev pub read_dir_by : Held → ℕ → ℕ → ℕ → Reading
read_dir_by held n cookie count = at_record held n (ready (Fault stale)) (names_by held n cookie count)
