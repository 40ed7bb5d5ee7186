-- A file that stands for another.
use Rattle.std.specs.FinMap as table
use Rattle.fs_rules.specs.declared.content.Content.TheVariants.{Regular}
use Rattle.fs_rules.specs.declared.file.File.{File}

-- the file that stands in a tree for one that is taken out for a while
abbrev pub blank : File
blank =
    record {
      content = Regular table.empty;
      mode = 0;
      links = 0;
      uid = 0;
      gid = 0;
      size = 0;
      generation = 0;
      change = 0;
      atime = record { sec = 0; usec = 0 };
      mtime = record { sec = 0; usec = 0 };
      ctime = record { sec = 0; usec = 0 };
    }
