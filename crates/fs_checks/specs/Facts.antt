-- The facts of a file: all of it but for its bytes and names.
use Rattle.std.specs.Prelude.{ℕ, ◌==◌, if◌then◌else◌, [], Option, Some, None, option_map}
use Rattle.std.specs.FinMap as table
use Rattle.fs_layout.specs.declared.attrs.Attrs.{Attrs}
use Rattle.fs_rules.specs.declared.content.Content.{Content}
use Rattle.fs_rules.specs.declared.content.Content.TheVariants as content
use Rattle.fs_rules.specs.declared.file.File.{File}
use Rattle.fs_checks.specs.declared.kind.Kind.{Kind}
use Rattle.fs_checks.specs.declared.kind.Kind.TheVariants as kind
use Rattle.fs_checks.specs.declared.facts.Facts.{Facts}

-- the kind of a content
abbrev pub kind_in : Content → Kind
kind_in (content.Regular blocks) = kind.Regular
kind_in (content.Directory slots parent) = kind.Directory
kind_in (content.Link blocks) = kind.Link

-- the kind with a number
abbrev pub kind_by : ℕ → Option Kind
kind_by number = if number == 1 then Some kind.Regular else if number == 2 then Some kind.Directory else if number == 5 then Some kind.Link else None

-- a content of a kind, with no bytes and no names
abbrev pub nothing_of : Kind → Content
nothing_of kind.Regular = content.Regular table.empty
nothing_of kind.Directory = content.Directory [] 0
nothing_of kind.Link = content.Link table.empty

-- the facts of a file of the plain tree
abbrev pub facts_of : File → Facts
facts_of f =
    record {
      kind = kind_in f.content;
      mode = f.mode;
      links = f.links;
      uid = f.uid;
      gid = f.gid;
      size = f.size;
      generation = f.generation;
      change = f.change;
      atime = f.atime;
      mtime = f.mtime;
      ctime = f.ctime;
    }

-- those of an inode record; one that is free has none
abbrev pub facts_by : Attrs → Option Facts
facts_by a =
    option_map (λ kind. let x : Facts = record {
      kind = kind;
      mode = a.mode;
      links = a.links;
      uid = a.uid;
      gid = a.gid;
      size = a.size;
      generation = a.generation;
      change = a.change;
      atime = record { sec = a.atime_sec; usec = a.atime_usec };
      mtime = record { sec = a.mtime_sec; usec = a.mtime_usec };
      ctime = record { sec = a.ctime_sec; usec = a.ctime_usec };
    } in x) (kind_by a.kind)

-- a file with these facts and this content
abbrev pub file_with : Content → Facts → File
file_with content x =
    record {
      content = content;
      mode = x.mode;
      links = x.links;
      uid = x.uid;
      gid = x.gid;
      size = x.size;
      generation = x.generation;
      change = x.change;
      atime = x.atime;
      mtime = x.mtime;
      ctime = x.ctime;
    }

-- the file with these facts that has no bytes and no names: checks look at nothing else
abbrev pub bare : Facts → File
bare x = file_with (nothing_of x.kind) x
