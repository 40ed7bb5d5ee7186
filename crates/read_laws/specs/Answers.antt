-- What the reading procedures read and answer, by what is held, once they want no part and no check fails.
use Rattle.std.specs.Prelude.{ℕ, ◌+◌, ◌-◌, ◌*◌, ◌/◌, ◌^◌, ◌==◌, min, if◌then◌else◌, List, [], map}
use Rattle.std.specs.Option.{option_map_or}
use Rattle.nfs_proto.specs.declared.answer.Answer.{Answer}
use Rattle.nfs_proto.specs.declared.answer.Answer.TheVariants.{Fault, Attr, Found}
use Rattle.nfs_proto.specs.declared.fattr.Fattr.{Fattr}
use Rattle.fs_layout.specs.declared.attrs.Attrs.{Attrs}
use Rattle.fs_rules.specs.declared.geometry.Geometry.{Geometry}
use Rattle.fs_rules.specs.Handle.{handle}
use Rattle.fs_rules.specs.Lists.{below}
use Rattle.fs_rules.specs.Statuses.{noent, stale}
use Rattle.mini_tx.specs.declared.item.Item.{Item}
use Rattle.mini_tx.specs.declared.item.Item.TheVariants as item
use Rattle.node_cache.specs.declared.held.Held.{Held}
use Rattle.plan_rules.specs.Names.{target}
use Rattle.plan_rules.specs.Told.{at_record}
use Rattle.plan_forms.specs.declared.form.AnswerForm.TheVariants.{Ready, Space}
use Rattle.plan_forms.specs.declared.plan.Reading.{Reading}

-- an answer that reads nothing
abbrev pub ready : Answer → Reading
ready answer = record { items = []; form = Ready answer }

-- ---- what a client is told of a file, by its record

abbrev pub type_bits_by : ℕ → ℕ
type_bits_by kind = if kind == 1 then 0o100000 else if kind == 2 then 0o040000 else 0o120000

abbrev pub fattr_with : ℕ → Attrs → ℕ → ℕ → Fattr
fattr_with number a mode blocks =
    record {
      kind = a.kind;
      mode = mode;
      links = a.links;
      uid = a.uid;
      gid = a.gid;
      size = a.size;
      block_size = 4096;
      rdev = 0;
      blocks = blocks;
      fsid = 1;
      fileid = number;
      atime = record { sec = a.atime_sec; usec = a.atime_usec };
      mtime = record { sec = a.mtime_sec; usec = a.mtime_usec };
      ctime = record { sec = a.ctime_sec; usec = a.ctime_usec };
    }

-- the mode with the bits of the kind, and the blocks in units of 512 bytes, as far as a word tells them
abbrev pub fattr_by : ℕ → Attrs → Fattr
fattr_by number a = fattr_with number a (min (type_bits_by a.kind + a.mode) (2 ^ 32 - 1)) (min (a.used * 8) (2 ^ 32 - 1))

-- ---- the procedures

-- GETATTR: the record
abbrev pub get_attr_by : Held → ℕ → Reading
get_attr_by held n = ready (at_record held n (Fault stale) (λ a. Attr (fattr_by n a)))

-- STATFS: the maps of the blocks of all memory nodes
abbrev pub map_read : Geometry → ℕ → Item
map_read g m = item.Read m 4096 ((g.blocks + 7) / 8)

abbrev pub stat_fs_by : Geometry → Reading
stat_fs_by g = record { items = map (map_read g) (below g.memories); form = Space g }

-- LOOKUP: the record of the file that the name names
abbrev pub found_by : Held → ℕ → Answer
found_by held m =
    at_record held m (Fault stale) (λ a. if a.kind == 0 then Fault stale else Found (record { 0 = handle m a.generation }) (fattr_by m a))

abbrev pub lookup_by : Held → ℕ → List ℕ → Reading
lookup_by held n name = ready (option_map_or (found_by held) (target held n name) (Fault noent))
