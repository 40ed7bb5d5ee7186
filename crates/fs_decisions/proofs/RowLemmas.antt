-- Checks in a row, and the file that a handle names.
use Rattle.std.proofs.Common.{◌-◌, ◌≡◌, ℕ, ◌*◌, ◌≤◌, Bool, true, false, cond, List, [], ◌∷◌, ◌++◌, Option, Some, None, refl, sym, ap, ◌∙◌, arith}
use Rattle.std.specs.Prelude.{sum_by, option_and_then, bytes_eq}
use Rattle.std.specs.Ordering.{nat_cmp, eq_by_cmp}
use Rattle.std.proofs.lemmas.Bool.{le-ltb}
use Rattle.std.proofs.lemmas.List.Sums.{sum_by-cons}
use Rattle.std.specs.FinMap.{find, get, entries, get-entries}
use Rattle.fs_rules.specs.declared.file.File.{File}
use Rattle.fs_rules.specs.declared.plain_tree.PlainTree.{PlainTree}
use Rattle.fs_rules.specs.Handle.{handle, number_in}
use Rattle.fs_rules.specs.File.{used}
use Rattle.fs_rules.specs.Numbers.{used_in_all, free_blocks}
use Rattle.fs_rules.specs.Good.{IsGood}
use Rattle.fs_rules.specs.Statuses.{Check, first_failure}
use Rattle.fs_rules.specs.Arguments.{file_of}
use Rattle.fs_rules.specs.Edits.{limits}
use Rattle.fs_decisions.specs.Steps.{Fits}

-- ---- checks in a row

-- a row of checks that all pass decides nothing
pub behind_none : (first more : List Check) → first_failure first ≡ None → first_failure (first ++ more) ≡ first_failure more
unfolding first_failure
behind_none [] more none = refl
behind_none (None ∷ first) more none = behind_none first more none
behind_none (Some status ∷ first) more none = absurd cc

-- a row of checks of which one fails decides
pub before_some : (first more : List Check) (status : ℕ) → first_failure first ≡ Some status → first_failure (first ++ more) ≡ Some status
unfolding first_failure
before_some [] more status some = absurd cc
before_some (None ∷ first) more status some = before_some first more status some
before_some (Some other ∷ first) more status some = some

-- checks that pass, behind others, change nothing
pub passing_behind : (first more : List Check) → first_failure more ≡ None → first_failure (first ++ more) ≡ first_failure first
unfolding first_failure
passing_behind [] more none = none
passing_behind (None ∷ first) more none = passing_behind first more none
passing_behind (Some status ∷ first) more none = refl

-- no change passes no limit
pub no_limits : (t : PlainTree) (start : ℕ) → first_failure (limits t start []) ≡ None
unfolding first_failure limits
no_limits t start = ap (λ (b : Bool). first_failure (cond b (Some 28) None ∷ [])) (le-ltb (free_blocks t) 0 (omega arith))

-- ---- the file that a handle names

-- a file that an option goes on to with a test is the one that the option has
tested : (o : Option File) (test : File → Bool) (f : File) → option_and_then (λ g. cond (test g) (Some g) None) o ≡ Some f → o ≡ Some f
tested None test f h = absurd cc
tested (Some g) test f h =
    elim (test g) as (λ b. cond b (Some g) None ≡ Some f → ◌≡◌ {A = Option File} (Some g) (Some f)) [
      | true ↦ λ is. is
      | false ↦ λ is. absurd cc
    ] h

-- it has its number
pub named_there : (t : PlainTree) (name : List ℕ) (f : File) → file_of t name ≡ Some f → get t.files (number_in name) ≡ Some f
named_there t name f is = tested (get t.files (number_in name)) (λ g. bytes_eq name (handle (number_in name) g.generation)) f is

-- what one entry counts is at most what all count
part_of_sum : {X : Type 0} (count : X → ℕ) (es : List (ℕ × X)) (q : ℕ) (x : X) → find nat_cmp q es ≡ Some x → count x ≤ sum_by (λ e. count e.1) es
part_of_sum count [] q x h = absurd cc
part_of_sum {X} count (e ∷ es) q x h =
    let total = sum_by-cons (λ (e : ℕ × X). count e.1) e es in
    elim (eq_by_cmp nat_cmp q e.0) as (λ b. cond b (Some e.1) (find nat_cmp q es) ≡ Some x → count x ≤ sum_by (λ e. count e.1) (e ∷ es)) [
      | true ↦ λ is. let same : e.1 ≡ x = cc in omega (arith, ap count same, total)
      | false ↦ λ is. omega (arith, part_of_sum count es q x is, total)
    ] h

-- a file that grows by no more than what is free still fits
pub fits_grown : (t : PlainTree) (n : ℕ) (f g : File) → IsGood t → get t.files n ≡ Some f → used g.content - used f.content ≤ free_blocks t → g.mode ≤ 0o7777 → Fits g
fits_grown t n f g good live grown mode =
    let part : used f.content ≤ used_in_all t = part_of_sum (λ g. used g.content) (entries t.files) n f (sym (get-entries t.files n) ∙ live) in
    let room : t.geometry.memories * t.geometry.blocks ≤ 8 * 16384 = grind (arith, good.geometry.memories.1, good.geometry.blocks.1) in
    record { mode = mode; room = omega (arith, part, good.fits, room, grown) }

pub file_fits : (t : PlainTree) (n : ℕ) (f : File) → IsGood t → get t.files n ≡ Some f → Fits f
file_fits t n f good live =
    let part : used f.content ≤ used_in_all t = part_of_sum (λ g. used g.content) (entries t.files) n f (sym (get-entries t.files n) ∙ live) in
    let room : t.geometry.memories * t.geometry.blocks ≤ 8 * 16384 = grind (arith, good.geometry.memories.1, good.geometry.blocks.1) in
    record { mode = (good.files n f live).mode; room = omega (arith, part, good.fits, room) }
