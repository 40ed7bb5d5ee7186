-- What holds of flat memories and the trees that they stand for.
use Rattle.std.specs.Prelude.{◌≡◌}
use Rattle.fs_rules.specs.declared.plain_tree.PlainTree.{PlainTree}
use Rattle.mini_tx.specs.FlatMemory.{Flat}
use Rattle.fs_image.specs.Stands.{Stands}

-- a flat memory stands for at most one tree of a cluster
abbrev pub OneTree : Type 0
OneTree = (flat : Flat) (t u : PlainTree) → t.geometry ≡ u.geometry → Stands flat t → Stands flat u → t ≡ u
