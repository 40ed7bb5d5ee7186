-- The directories that are reached from the root.
use Rattle.std.specs.Prelude.{◌≡◌, ◌≢◌, ◌⊎◌, ◌+◌, ◌<◌, ◌++◌, ℕ, List, [], ◌∷◌, length, slice_get, Contains, Option, Some, None, IsSome}
use Rattle.std.specs.Option.{option_map_or}
use Rattle.std.specs.Ordering.{nat_cmp}
use Rattle.std.specs.FinMap as table
use Rattle.std.specs.FinMap.{FinMap}
use Rattle.fs_rules.specs.declared.entry.Entry.{Entry}
use Rattle.fs_rules.specs.declared.plain_tree.PlainTree.{PlainTree}
use Rattle.fs_rules.specs.File.{slots_of}
use Rattle.fs_rules.specs.Good.{parent_at}
use Rattle.fs_laws.proofs.WholeLemmas.{Leads}
use Rattle.fs_good.specs.Counts.{AreNamed}
use Rattle.fs_good.specs.Places.{AreInPlace, IsShaped}

-- parents lead from each directory to the root
abbrev pub AllLead : PlainTree → Type 0
AllLead t = (n p : ℕ) → parent_at t n ≡ Some p → Leads t n

-- what is known of a tree before its parents are followed
pub record IsReady (t : PlainTree) : Type 0 where
  pub shaped : IsShaped t
  pub placed : AreInPlace t
  pub named : AreNamed t

-- all directories but the root, each with its parent
abbrev pub AreParents : PlainTree → FinMap nat_cmp ℕ → Type 0
AreParents t parents = (table.get parents 1 ≡ None) × ((n : ℕ) → n ≢ 1 → table.get parents n ≡ parent_at t n)

-- some directories were reached, of which those that are left have not been looked into
pub record IsReachedTo (t : PlainTree) (unknown : FinMap nat_cmp ℕ) (work : List ℕ) : Type 0 where
  pub root : table.get unknown 1 ≡ None
  pub known : (n p : ℕ) → parent_at t n ≡ Some p → table.get unknown n ≡ None → Leads t n
  pub queued : (n : ℕ) → Contains work n → Leads t n
  pub parents : (n p : ℕ) → table.get unknown n ≡ Some p → parent_at t n ≡ Some p
  pub pending : (n p : ℕ) → table.get unknown n ≡ Some p → IsSome (table.get unknown p) ⊎ Contains work p

-- the slots of the file with a number
abbrev pub slots_in : PlainTree → ℕ → List (Option Entry)
slots_in t n = option_map_or (λ f. slots_of f.content) (table.get t.files n) []

-- one of so many slots names a number
pub record IsNamedBelow (slots : List (Option Entry)) (end n : ℕ) : Type 0 where
  pub place : ℕ
  pub entry : Entry
  pub before : place < end
  pub there : slice_get slots place ≡ Some (Some entry)
  pub file : entry.file ≡ n

-- a number is reached now, where it was not before
abbrev pub IsReached : ℕ → FinMap nat_cmp ℕ → List ℕ → FinMap nat_cmp ℕ → List ℕ → Type 0
IsReached n unknown work new more =
    (new ≡ table.remove unknown n) × (((table.get unknown n ≡ None) × (more ≡ work)) ⊎ (IsSome (table.get unknown n) × (more ≡ work ++ n ∷ [])))

-- the same of what a slot names, if it is in use
abbrev pub IsSlotReached : Option Entry → FinMap nat_cmp ℕ → List ℕ → FinMap nat_cmp ℕ → List ℕ → Type 0
IsSlotReached None unknown work new more = (new ≡ unknown) × (more ≡ work)
IsSlotReached (Some e) unknown work new more = IsReached e.file unknown work new more

-- of the directories that were not reached, those that so many slots name are reached now, to be looked into
pub record Reaches (slots : List (Option Entry)) (end : ℕ) (unknown : FinMap nat_cmp ℕ) (work : List ℕ) (new : FinMap nat_cmp ℕ) (more : List ℕ) : Type 0 where
  pub left : (n p : ℕ) → table.get new n ≡ Some p → table.get unknown n ≡ Some p
  pub named : (n : ℕ) → IsNamedBelow slots end n → table.get new n ≡ None
  pub gone : (n : ℕ) → table.get new n ≡ None → (table.get unknown n ≡ None) ⊎ (Contains more n × IsNamedBelow slots end n)
  pub kept : (n : ℕ) → Contains work n → Contains more n
  pub only : (n : ℕ) → Contains more n → Contains work n ⊎ (IsSome (table.get unknown n) × IsNamedBelow slots end n)
  pub sized : table.len new + length more ≡ table.len unknown + length work
