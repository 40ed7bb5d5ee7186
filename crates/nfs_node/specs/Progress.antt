-- What an outcome leaves.
use Rattle.std.specs.Prelude.{◌≡◌, ℕ, ◌+◌, ◌<◌, false, List, length, map}
use Rattle.mini_tx.specs.declared.vote.Vote.{Vote}
use Rattle.mini_tx.specs.EntryGrammar.{is_granted}
use Rattle.nfs_proto.specs.Answers.{answer_spelling}
use Rattle.rpc_msg.specs.Messages.{accepted}
use Rattle.node_cache.specs.declared.want.Want.{Want}
use Rattle.node_cache.specs.declared.held.Held.{Held}
use Rattle.node_cache.specs.Cached.{Cached}
use Rattle.plan_forms.specs.Forms.{said}
use Rattle.plan_rules.specs.Fetched.{IsKept, IsUnfitAt}
use Rattle.tx_coord.specs.declared.outcome.Outcome.{Outcome}
use Rattle.tx_coord.specs.declared.outcome.Outcome.TheVariants as outcome
use Rattle.node_parts.specs.Votes.{IsPlaced}
use Rattle.node_rules.specs.declared.attempt.Pending.{Pending}
use Rattle.node_rules.specs.declared.cause.Why.TheVariants as why
use Rattle.node_rules.specs.declared.output.Output.TheVariants as output
use Rattle.node_rules.specs.declared.running.Running.{Running}
use Rattle.node_rules.specs.declared.running.Work.{Work}
use Rattle.node_rules.specs.End.{Progress, GoesOn, Ends, cause_of, work_after}
use Rattle.nfs_node.specs.declared.next.Next.{Next}
use Rattle.nfs_node.specs.declared.next.Next.TheVariants as next

-- an outcome is one for the minitransaction that runs: each read has its length, or a participant's vote is not Granted and
-- names an item
abbrev pub IsOutcomeOf : Running → Outcome → Type 0
IsOutcomeOf r (outcome.Committed reads) = map length reads ≡ r.sizes
IsOutcomeOf r (outcome.Refused m v) = (is_granted v ≡ false) × IsPlaced v r.places

-- the arrival goes on or ends, with this cache
abbrev pub progress_of : Next → Cached → Progress
progress_of (next.GoesOn work) cache = GoesOn work cache
progress_of (next.Ends o) cache = Ends o cache

-- ---- parts of it

-- what was read is held, or is unfit
pub data IsHeld (work : Work) (w : Want) (reads : List (List ℕ)) : Next → Type 0 where
  kept : (new : Held) → IsKept work.held w reads new → IsHeld work w reads (next.GoesOn (record work { held = new }))
  damaged : (m at : ℕ) → IsUnfitAt work.held w reads m at → IsHeld work w reads (next.Ends (output.Dropped work.arrival.id (why.Damaged m at)))

-- it is answered
abbrev pub is_answered : Work → Pending → List (List ℕ) → Next
is_answered work p reads = next.Ends (output.Reply work.arrival.id (accepted work.arrival.xid (answer_spelling (said p.answer reads))))

-- it is tried again, or failed too often
pub data IsRefused (work : Work) (places : List ℕ) (m : ℕ) (v : Vote) : Next → Type 0 where
  again : work.failures + 1 < 8 → IsRefused work places m v (next.GoesOn (work_after v work))
  failed : work.failures + 1 ≡ 8 → IsRefused work places m v (next.Ends (output.Retry work.arrival.id (cause_of m v places)))
