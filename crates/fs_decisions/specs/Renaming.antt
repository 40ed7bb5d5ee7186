-- How RENAME goes.
use Rattle.std.specs.Prelude.{◌≡◌, ℕ, ◌+◌, ◌-◌, ◌^◌, ◌<◌, ◌==◌, nat_lt, Bool, false, not, ◌&&◌, ◌||◌, if◌then◌else◌, List, [], ◌∷◌, Option, Some, None, is_some}
use Rattle.std.specs.Option.{option_map_or, option_or}
use Rattle.std.specs.List.{list_any}
use Rattle.std.specs.FinMap.{get}
use Rattle.rpc_msg.specs.declared.cred.Cred.{Cred}
use Rattle.nfs_proto.specs.declared.answer.Answer.TheVariants.{Plain}
use Rattle.nfs_proto.specs.declared.call.Call.TheVariants.{Rename}
use Rattle.nfs_proto.specs.declared.handle.Handle.{Handle}
use Rattle.nfs_proto.specs.declared.stamp.Stamp.{Stamp}
use Rattle.fs_rules.specs.declared.file.File.{File}
use Rattle.fs_rules.specs.declared.plain_tree.PlainTree.{PlainTree}
use Rattle.fs_rules.specs.Lists.{below}
use Rattle.fs_rules.specs.File.{slots_of, is_directory}
use Rattle.fs_rules.specs.Slots.{is_in_use}
use Rattle.fs_rules.specs.Statuses.{Check, first_failure, fails_where, acces, noent}
use Rattle.fs_rules.specs.Arguments.{at_number, is_dots}
use Rattle.fs_rules.specs.Names.{Move, is_same, one_where, move_edits, leads_to}
use Rattle.fs_rules.specs.Respond.{decided, respond}
use Rattle.fs_checks.specs.Naming as naming
use Rattle.fs_edits.specs.declared.plan.Plan.{Plan}
use Rattle.fs_edits.specs.declared.replaced.Replaced.{Replaced}
use Rattle.fs_edits.specs.declared.replaced.Replaced.TheVariants.{Nothing, LosesLink, IsFreed}
use Rattle.fs_edits.specs.Moving.{CanMove, CanReplace}
use Rattle.fs_decisions.specs.declared.decision.Decision.{Decision}
use Rattle.fs_decisions.specs.declared.decision.Decision.TheVariants.{Same, Moves}
use Rattle.fs_decisions.specs.Limits.{is_spent_at}

-- ---- the checks

-- neither name is "." or "..", and the first is there
abbrev pub source_row : List ℕ → List ℕ → Option ℕ → List Check
source_row from_name to_name source = fails_where acces (is_dots from_name || is_dots to_name) ∷ fails_where noent (not (is_some source)) ∷ []

-- the file that is replaced is the one that is moved
abbrev pub is_same_number : ℕ → Option ℕ → Bool
is_same_number s replaced = option_map_or (λ n. n == s) replaced false

-- what a test says of the file with a number, and of the one that is replaced, where there is one
abbrev pub is_dir_at : PlainTree → ℕ → Bool
is_dir_at t n = at_number t n false (λ f. is_directory f.content)

abbrev pub replaced_is : PlainTree → Option ℕ → (File → Bool) → Bool
replaced_is t replaced test = option_map_or (λ n. at_number t n false test) replaced false

-- the kind of what is moved, and the file that is replaced
abbrev pub over_row : Bool → File → List Check
over_row is_dir r = naming.over_row is_dir r (is_in_use (slots_of r.content))

abbrev pub kind_check : PlainTree → ℕ → Option ℕ → Check
kind_check t s replaced = option_map_or (λ n. at_number t n None (λ r. first_failure (over_row (is_dir_at t s) r))) replaced None

-- the chain of parents from the directory b
abbrev pub chain_row : PlainTree → ℕ → ℕ → List Check
chain_row t b s = naming.way_row (leads_to t 200 b 1) (list_any (λ moves. leads_to t moves b s) (below 201))

-- a directory goes from one directory to another
abbrev pub goes_across : PlainTree → ℕ → ℕ → ℕ → Bool
goes_across t a b s = is_dir_at t s && not (a == b)

-- the checks of the move of the file s from the directory a to b, over the one that is replaced
abbrev pub move_check : PlainTree → ℕ → ℕ → ℕ → Option ℕ → Check
move_check t a b s replaced = option_or (kind_check t s replaced) (if goes_across t a b s then first_failure (chain_row t b s) else None)

-- ---- the change numbers

-- a change number that a move raises is spent
abbrev pub spent_by : PlainTree → File → File → ℕ → Option ℕ → Bool
spent_by t c d s replaced =
    (c.change == 2 ^ 64 - 1) || ((d.change == 2 ^ 64 - 1) || (is_spent_at t s || replaced_is t replaced (λ r. r.change == 2 ^ 64 - 1)))

-- all of them can rise
pub record CanRise (t : PlainTree) (c d : File) (s : ℕ) (replaced : Option ℕ) : Type 0 where
  pub from : c.change < 2 ^ 64 - 1
  pub to : d.change < 2 ^ 64 - 1
  pub source : (f : File) → get t.files s ≡ Some f → f.change < 2 ^ 64 - 1
  pub gone : (n : ℕ) (r : File) → replaced ≡ Some n → get t.files n ≡ Some r → r.change < 2 ^ 64 - 1

-- ---- the plan

-- what becomes of the file that is replaced
abbrev pub fate_of : ℕ → File → Replaced
fate_of n r = if is_directory r.content || not (nat_lt 1 r.links) then IsFreed n else LosesLink n

abbrev pub replaced_at : PlainTree → Option ℕ → Replaced
replaced_at t replaced = option_map_or (λ n. at_number t n Nothing (fate_of n)) replaced Nothing

-- how many links the second directory has afterwards
abbrev pub links_after : PlainTree → ℕ → ℕ → ℕ → Option ℕ → File → ℕ
links_after t a b s replaced d = d.links + one_where (goes_across t a b s) - one_where (replaced_is t replaced (λ r. is_directory r.content))

-- the plan for the file s from the directory a to b, which is d
abbrev pub plan_of : PlainTree → ℕ → ℕ → File → ℕ → Option ℕ → Plan
plan_of t a b d s replaced =
    record { from = a; to = b; source = s; along = one_where (is_dir_at t s); links = links_after t a b s replaced d; replaced = replaced_at t replaced }

-- ---- what is decided

-- RENAME does the plan
pub record MayMove (t : PlainTree) (from : Handle) (from_name : List ℕ) (to : Handle) (to_name : List ℕ) (cred : Cred) (now : Stamp) (start : ℕ) (p : Plan) : Type 0 where
  pub move : Move
  pub other : is_same move ≡ false
  pub can : CanMove t.files p move from_name to_name
  pub replacing : CanReplace t.files move p.replaced
  pub answers : respond t (Rename from from_name to to_name) cred now start ≡ decided None t (Rename from from_name to to_name) now (move_edits now move)

-- a decision is that of the rules, where they do not refuse the call
abbrev pub Decides : PlainTree → Handle → List ℕ → Handle → List ℕ → Cred → Decision → Type 0
Decides t from from_name to to_name cred Same =
    (now : Stamp) → (start : ℕ) → respond t (Rename from from_name to to_name) cred now start ≡ record { answer = Plain; tree = t; made = None }
Decides t from from_name to to_name cred (Moves p) = (now : Stamp) → (start : ℕ) → MayMove t from from_name to to_name cred now start p
