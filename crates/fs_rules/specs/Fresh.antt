-- The tree with which a cluster begins.
use Rattle.std.specs.Prelude.{[]}
use Rattle.std.specs.FinMap as table
use Rattle.fs_rules.specs.declared.content.Content.TheVariants.{Directory}
use Rattle.fs_rules.specs.declared.file.File.{File}
use Rattle.fs_rules.specs.declared.geometry.Geometry.{Geometry}
use Rattle.nfs_proto.specs.declared.stamp.Stamp.{Stamp}
use Rattle.fs_rules.specs.declared.plain_tree.PlainTree.{PlainTree}

-- the moment at which all its times stand
abbrev pub zero_moment : Stamp
zero_moment = record { sec = 0; usec = 0 }

-- the root alone: a directory of user and group 0 with no names, its own parent, which all may read, write and search
abbrev pub fresh_root : File
fresh_root =
    record {
      content = Directory [] 1;
      mode = 0o777;
      links = 2;
      uid = 0;
      gid = 0;
      size = 0;
      generation = 1;
      change = 1;
      atime = zero_moment;
      mtime = zero_moment;
      ctime = zero_moment;
    }

abbrev pub fresh : Geometry → PlainTree
fresh g = record { geometry = g; files = table.insert table.empty 1 fresh_root; freed = table.empty }
