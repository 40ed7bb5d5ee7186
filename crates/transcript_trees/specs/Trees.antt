-- Which trees of a transcript are kept, and what an arrival is answered in one.
use Rattle.std.specs.Prelude.{◌≡◌, ℕ, ◌+◌, ◌-◌, ◌<◌, ◌≤◌, List, [], ◌∷◌, ◌++◌, length, drop, slice_get, Option, Some, None}
use Rattle.nfs_proto.specs.declared.stamp.Stamp.{Stamp}
use Rattle.fs_rules.specs.declared.plain_tree.PlainTree.{PlainTree}
use Rattle.nfs_service.specs.declared.request.Request.{Request}
use Rattle.nfs_service.specs.Reply.{effect}
use Rattle.arrival_outcome.specs.declared.outcome.Outcome.{Outcome}
use Rattle.arrival_outcome.specs.Outcome.{ComesTo}
use Rattle.transcript_trees.specs.declared.trees.Trees.{Trees}

-- all trees but the oldest ones are kept, and the last is
pub record AreKept (trees : List PlainTree) (t : Trees) : Type 0 where
  pub kept : t.kept.items ≡ drop t.oldest trees
  pub last : t.oldest < length trees

-- this is what comes of an arrival in the tree after so many changes; where it changes nothing, the same trees are kept
pub record AnswersIn (trees : List PlainTree) (at : ℕ) (request : Request) (number : ℕ) (moment : Stamp) (after : Trees) (o : Outcome) : Type 0 where
  pub tree : PlainTree
  pub new : PlainTree
  pub there : slice_get trees at ≡ Some tree
  pub comes : ComesTo tree new o (effect tree request number moment)
  pub same : o.change ≡ None → AreKept trees after

-- or that tree is not kept
abbrev pub Answers : List PlainTree → ℕ → ℕ → Request → ℕ → Stamp → Trees → Option Outcome → Type 0
Answers trees oldest at request number moment after None = oldest ≤ at → at < length trees → ⊥
Answers trees oldest at request number moment after (Some o) = AnswersIn trees at request number moment after o

-- this is what comes of an arrival in the last tree, and the tree that it leaves is kept behind it
pub record Changes (trees : List PlainTree) (request : Request) (number : ℕ) (moment : Stamp) (after : Trees) (o : Outcome) : Type 0 where
  pub tree : PlainTree
  pub new : PlainTree
  pub there : slice_get trees (length trees - 1) ≡ Some tree
  pub comes : ComesTo tree new o (effect tree request number moment)
  pub kept : AreKept (trees ++ new ∷ []) after
