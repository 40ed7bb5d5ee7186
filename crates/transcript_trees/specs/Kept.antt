-- What is kept beside the arrivals and the backups of a transcript.
use Rattle.std.specs.Prelude.{◌≡◌, ℕ, ◌-◌, Bool, true, false, List, [], ◌∷◌, length, slice_get, Option, Some, None}
use Rattle.std.specs.Str.{bytes_eq}
use Rattle.fs_rules.specs.declared.plain_tree.PlainTree.{PlainTree}
use Rattle.fs_listing.specs.Listing.{listing}
use Rattle.nfs_service.specs.Reply.{Effect}
use Rattle.transcript_rules.specs.declared.arrival.Arrival.{Arrival}
use Rattle.transcript_rules.specs.declared.backup.Backup.{Backup}
use Rattle.transcript_rules.specs.Book.{numbered, response}

-- ---- replies

-- there is a reply, and it has these bytes
abbrev pub is_reply : List ℕ → Option (List ℕ) → Bool
is_reply bytes None = false
is_reply bytes (Some reply) = bytes_eq reply bytes

abbrev pub is_given : List ℕ → Option (Option (List ℕ)) → Bool
is_given bytes None = false
is_given bytes (Some reply) = is_reply bytes reply

abbrev pub with_reply : List ℕ → Option (List ℕ) → Option (List ℕ)
with_reply bytes before = Some bytes

-- the reply of an arrival that made this change: that of the tree before the change
pub record IsMade (trees : List PlainTree) (number : ℕ) (a : Arrival) (point : ℕ) (reply : Option (Option (List ℕ))) : Type 0 where
  pub tree : PlainTree
  pub e : Effect
  pub there : slice_get trees (point - 1) ≡ Some tree
  pub answered : response a number tree ≡ Some e
  pub is : reply ≡ Some (Some e.reply)

-- the reply of each arrival that made a change is kept
pub record AreReplies (trees : List PlainTree) (arrivals : List Arrival) (replies : List (Option (List ℕ))) : Type 0 where
  pub many : length replies ≡ length arrivals
  pub each : (k : ℕ) (a : Arrival) (point : ℕ) → numbered arrivals k ≡ Some a → a.point ≡ Some point → IsMade trees k a point (numbered replies k)

-- ---- cuts

abbrev pub with_tree : PlainTree → Option PlainTree → Option PlainTree
with_tree tree before = Some tree

abbrev pub lines_of_cut : Option PlainTree → List (List ℕ)
lines_of_cut None = []
lines_of_cut (Some t) = listing t

abbrev pub lines_of : Option (Option PlainTree) → List (List ℕ)
lines_of None = []
lines_of (Some cut) = lines_of_cut cut

-- the tree of a cut of so many changes, if there is a cut
abbrev pub IsCutAt : List PlainTree → Option ℕ → Option (Option PlainTree) → Type 0
IsCutAt trees None cut = cut ≡ Some None
IsCutAt trees (Some at) cut = (t : PlainTree) × (cut ≡ Some (Some t)) × (slice_get trees at ≡ Some t)

-- the tree of each cut is kept
pub record AreCuts (trees : List PlainTree) (backups : List Backup) (cuts : List (Option PlainTree)) : Type 0 where
  pub many : length cuts ≡ length backups
  pub each : (k : ℕ) (b : Backup) → numbered backups k ≡ Some b → IsCutAt trees b.cut (numbered cuts k)
