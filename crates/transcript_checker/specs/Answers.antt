-- What a change and a reply are by the trees that are kept.
use Rattle.std.specs.Prelude.{◌≡◌, ◌≢◌, ℕ, ◌-◌, ◌≤◌, ◌==◌, Bool, true, false, ◌&&◌, if◌then◌else◌, List, [], ◌∷◌, ◌++◌, length, slice_get, Option, None, Some}
use Rattle.fs_rules.specs.declared.plain_tree.PlainTree.{PlainTree}
use Rattle.fs_tree.specs.declared.response.Change.{Change}
use Rattle.nfs_service.specs.Reply.{Effect}
use Rattle.arrival_outcome.specs.declared.outcome.Outcome.{Outcome}
use Rattle.transcript_rules.specs.declared.arrival.Arrival.{Arrival}
use Rattle.transcript_rules.specs.Book.{numbered, response}
use Rattle.transcript_judges.specs.Tests.{is_none}
use Rattle.transcript_judges.specs.Rules.{Decides}
use Rattle.transcript_trees.specs.declared.trees.Trees.{Trees}
use Rattle.transcript_trees.specs.Trees.{AreKept}
use Rattle.transcript_trees.specs.Kept.{is_reply}

-- one file that was made is another
abbrev pub is_file : Option (ℕ × ℕ) → Option (ℕ × ℕ) → Bool
is_file None None = true
is_file (Some a) (Some b) = (a.0 == b.0) && (a.1 == b.1)
is_file a b = false

-- the reply of an outcome that changes the tree, and makes this file
abbrev pub reply_by : Option (List ℕ) → Option Change → Option (ℕ × ℕ) → Option (List ℕ)
reply_by reply None made = None
reply_by reply (Some change) made = if is_file change.made made then reply else None

abbrev pub reply_of : Outcome → Option (ℕ × ℕ) → Option (List ℕ)
reply_of o made = reply_by o.reply o.change made

-- what an arrival is answered in a tree
pub record IsAnswered (tree : PlainTree) (a : Arrival) (number : ℕ) (e : Effect) : Type 0 where
  pub answered : response a number tree ≡ Some e

-- the call of an arrival changes the last tree, and makes this file
pub record MakesChange (ts : List PlainTree) (a : Arrival) (number : ℕ) (made : Option (ℕ × ℕ)) (tree : PlainTree) (e : Effect) : Type 0 where
  pub last : slice_get ts (length ts - 1) ≡ Some tree
  pub answered : response a number tree ≡ Some e
  pub differs : e.tree ≢ tree
  pub made_is : made ≡ e.made

-- this reply was made with it, and the tree that it leaves is kept; or it makes no such change
abbrev pub Changed : List PlainTree → Arrival → ℕ → Option (ℕ × ℕ) → Trees → Option (List ℕ) → Type 0
Changed ts a number made after (Some reply) = (tree : PlainTree) × (e : Effect) × MakesChange ts a number made tree e × (reply ≡ e.reply) × AreKept (ts ++ e.tree ∷ []) after
Changed ts a number made after None = (tree : PlainTree) (e : Effect) → MakesChange ts a number made tree e → ⊥

-- trees that others may name are still kept
abbrev pub ReachesBeside : List Arrival → ℕ → ℕ → ℕ → Type 0
ReachesBeside arrivals number before after = (k : ℕ) (a : Arrival) → numbered arrivals k ≡ Some a → a.ended ≡ None → (k ≡ number → ⊥) → before ≤ a.points → after ≤ a.points

-- an outcome changes nothing, and has this reply
abbrev pub is_answer : List ℕ → Option Outcome → Bool
is_answer bytes None = false
is_answer bytes (Some o) = is_none o.change && is_reply bytes o.reply

-- where the reply of an arrival holds, by the change that it made
abbrev pub HoldsBy : List PlainTree → ℕ → Option ℕ → PlainTree → Effect → Type 0
HoldsBy ts at (Some point) t e = slice_get ts (point - 1) ≡ Some t
HoldsBy ts at None t e = (slice_get ts at ≡ Some t) × (e.tree ≡ t)

-- these are the bytes of its reply
pub record IsReplyOf (ts : List PlainTree) (a : Arrival) (number at : ℕ) (bytes : List ℕ) : Type 0 where
  pub tree : PlainTree
  pub e : Effect
  pub answered : response a number tree ≡ Some e
  pub holds : HoldsBy ts at a.point tree e
  pub is : bytes ≡ e.reply

-- it was decided whether they are; and the same trees are kept
pub record HasBytes (ts : List PlainTree) (a : Arrival) (number at : ℕ) (bytes : List ℕ) (after : Trees) (has : Bool) : Type 0 where
  pub decides : Decides has (IsReplyOf ts a number at bytes)
  pub kept : has ≡ true → AreKept ts after
