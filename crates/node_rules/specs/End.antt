-- What an outcome makes of an arrival.
use Rattle.std.specs.Prelude.{◌≡◌, ℕ, ◌+◌, ◌<◌, ◌==◌, Bool, true, false, if◌then◌else◌, List, [], ◌∷◌, get_or, slice_set, Option, Some, None}
use Rattle.std.specs.List.{list_any}
use Rattle.mini_tx.specs.declared.vote.Vote.{Vote}
use Rattle.mini_tx.specs.declared.vote.Vote.TheVariants as vote
use Rattle.nfs_proto.specs.Answers.{answer_spelling}
use Rattle.rpc_msg.specs.Messages.{accepted}
use Rattle.node_cache.specs.declared.entry.Entry.{Entry}
use Rattle.node_cache.specs.declared.held.Held.{Held}
use Rattle.node_cache.specs.declared.want.Want.{Want}
use Rattle.node_cache.specs.Cached.{Cached, put_first}
use Rattle.plan_forms.specs.Forms.{said}
use Rattle.plan_rules.specs.Fetched.{IsKept, IsUnfitAt}
use Rattle.tx_coord.specs.declared.outcome.Outcome.{Outcome}
use Rattle.tx_coord.specs.declared.outcome.Outcome.TheVariants as outcome
use Rattle.node_rules.specs.declared.attempt.Attempt.TheVariants as attempt
use Rattle.node_rules.specs.declared.attempt.Pending.{Pending}
use Rattle.node_rules.specs.declared.cause.Cause.{Cause}
use Rattle.node_rules.specs.declared.cause.Cause.TheVariants as cause
use Rattle.node_rules.specs.declared.cause.Why.TheVariants as why
use Rattle.node_rules.specs.declared.output.Output.{Output}
use Rattle.node_rules.specs.declared.output.Output.TheVariants as output
use Rattle.node_rules.specs.declared.running.Running.{Running}
use Rattle.node_rules.specs.declared.running.Work.{Work}
use Rattle.node_rules.specs.Stock.{empty_held, empty_cache}

-- ---- a granted final

-- a number is among these
abbrev pub is_among : List ℕ → ℕ → Bool
is_among numbers n = list_any (λ k. k == n) numbers

-- the entries of unchanged files go to the cache, in their order
unfoldable pub files_after : List ℕ → List Entry → List Entry → List Entry
files_after changed [] files = files
files_after changed (e ∷ es) files = files_after changed es (if is_among changed e.number then files else put_first e files)

-- the map of a memory node goes to the cache, in the place of the one that was there; where it was written none is left
abbrev pub map_after : List ℕ → ℕ → Option (List ℕ) → List (Option (List ℕ)) → List (Option (List ℕ))
map_after written m None maps = maps
map_after written m (Some page) maps = if is_among written m then maps else slice_set maps m (Some page)

-- the maps of the memory nodes from this one on
unfoldable pub maps_after : List ℕ → ℕ → List (Option (List ℕ)) → List (Option (List ℕ)) → List (Option (List ℕ))
maps_after written m [] maps = maps
maps_after written m (page ∷ pages) maps = maps_after written (m + 1) pages (map_after written m page maps)

abbrev pub cached_after : Pending → Held → Cached → Cached
cached_after p held cache = record { files = files_after p.changed held.entries cache.files; maps = maps_after p.written 0 held.maps cache.maps }

-- ---- a vote that is not Granted

abbrev pub is_mismatch : Vote → Bool
is_mismatch (vote.Granted reads) = false
is_mismatch (vote.Mismatch item kept) = true
is_mismatch (vote.Locked holder) = false
is_mismatch (vote.Forced floor) = false
is_mismatch (vote.Held cut) = false

-- what it tells: a mismatch names an item, whose address is told. A Granted vote is no failure
abbrev pub cause_of : ℕ → Vote → List ℕ → Cause
cause_of m (vote.Granted reads) places = cause.Unreached
cause_of m (vote.Mismatch item kept) places = cause.Mismatch m (get_or places item 0)
cause_of m (vote.Locked holder) places = cause.Locked m holder
cause_of m (vote.Forced floor) places = cause.Forced m
cause_of m (vote.Held cut) places = cause.Held m cut

-- at a Mismatch the whole work set and the whole cache are emptied; at another vote both stay
abbrev pub work_after : Vote → Work → Work
work_after v work =
    record work { held = if is_mismatch v then empty_held work.held.geometry else work.held; failures = work.failures + 1 }

abbrev pub cache_after : Vote → Cached → Cached
cache_after v cache = if is_mismatch v then empty_cache else cache

-- ---- all outcomes

-- an arrival goes on with what it has then, or ends with this; the cache is left so
pub data Progress : Type 0 where
  GoesOn : Work → Cached → Progress
  Ends : Output → Cached → Progress

-- what was read is held, or is unfit and ends the arrival; what a granted final read is answered; the eighth failure ends it,
-- and an earlier one does not
pub data Comes (r : Running) (cache : Cached) : Outcome → Progress → Type 0 where
  kept : (w : Want) (reads : List (List ℕ)) (new : Held) → r.attempt ≡ attempt.Fetch w → IsKept r.work.held w reads new
      → Comes r cache (outcome.Committed reads) (GoesOn (record r.work { held = new }) cache)
  damaged : (w : Want) (reads : List (List ℕ)) (m at : ℕ) → r.attempt ≡ attempt.Fetch w → IsUnfitAt r.work.held w reads m at
      → Comes r cache (outcome.Committed reads) (Ends (output.Dropped r.work.arrival.id (why.Damaged m at)) cache)
  answered : (p : Pending) (reads : List (List ℕ)) → r.attempt ≡ attempt.Final p
      → Comes r cache (outcome.Committed reads)
      (Ends (output.Reply r.work.arrival.id (accepted r.work.arrival.xid (answer_spelling (said p.answer reads)))) (cached_after p r.work.held cache))
  again : (m : ℕ) (v : Vote) → r.work.failures + 1 < 8
      → Comes r cache (outcome.Refused m v) (GoesOn (work_after v r.work) (cache_after v cache))
  failed : (m : ℕ) (v : Vote) → r.work.failures + 1 ≡ 8
      → Comes r cache (outcome.Refused m v) (Ends (output.Retry r.work.arrival.id (cause_of m v r.places)) (cache_after v cache))
