-- What a coordinator does, by computing.
use Rattle.std.specs.Prelude.{◌≡◌, ℕ, zero, suc, ◌+◌, true, false, List, [], ◌∷◌, ◌++◌, map, length}
use Rattle.mini_tx.specs.declared.item.Item.{Item}
use Rattle.mini_tx.specs.declared.item.Item.TheVariants.{Compare, Read}
use Rattle.mini_tx.specs.declared.message.Message.{Message}
use Rattle.mini_tx.specs.declared.message.Message.TheVariants as message
use Rattle.mini_tx.specs.declared.tx_id.TxId.{TxId}
use Rattle.mini_tx.specs.declared.vote.Vote.TheVariants as vote
use Rattle.tx_coord.specs.declared.finishing.Finishing.{Finishing}
use Rattle.tx_coord.specs.declared.outcome.Outcome.TheVariants.{Committed, Refused}
use Rattle.tx_coord.specs.Laws.{Delivery, after_hearing}
use Rattle.tx_coord.specs.State.{Free, Ended, State, started}
use Rattle.tx_coord.specs.Rules.{Step, begun, decide, forget, given_up, heard, on_done, prepare, resent, cleared, finishing_of}

abbrev pub comes : ℕ → Message → Delivery
comes m x = record { from = m; message = x }

-- it reads at memory node 2, then at 0, then at 2 again, and compares at 0
abbrev pub items : List Item
items = Read 2 10 1 ∷ Read 0 20 2 ∷ Read 2 30 1 ∷ Compare 0 40 (7 ∷ []) ∷ []

abbrev pub id : TxId
id = record { coord = 3; boot = 5; seq = 1 }

abbrev pub first : Step
first = begun (started 3 5) items

abbrev pub of_0 : Delivery
of_0 = comes 0 (message.Voted id (vote.Granted ((1 ∷ 2 ∷ []) ∷ [])))

abbrev pub of_2 : Delivery
of_2 = comes 2 (message.Voted id (vote.Granted ((3 ∷ []) ∷ (4 ∷ []) ∷ [])))

abbrev pub locked : ℕ → Delivery
locked m = comes m (message.Voted id (vote.Locked id))

abbrev pub mismatch : ℕ → Delivery
mismatch place = comes 0 (message.Voted id (vote.Mismatch place (8 ∷ [])))

-- this vote makes an outcome, where that of memory node 2 was counted
abbrev pub last : Delivery → Step
last d = let c = after_hearing first.now (of_2 ∷ []) in heard c d.from d.message

abbrev pub decided : State
decided = (last of_0).now

-- both votes, in this order; the reads come in the order of the items; a second vote, one of a stranger, one for
-- another identifier and one that does not fit do not count
pub record VotesAreCounted : Type 0 where
  pub prepares : first.posts ≡ prepare id items 0 ∷ prepare id items 2 ∷ []
  pub committed : decided.phase ≡ Ended (Committed ((3 ∷ []) ∷ (1 ∷ 2 ∷ []) ∷ (4 ∷ []) ∷ []))
  pub decides : (last of_0).posts ≡ decide id true 0 ∷ decide id true 2 ∷ []
  pub finishing : decided.finishing ≡ finishing_of id true (0 ∷ 2 ∷ []) ∷ []
  pub refused : (last (locked 0)).now.phase ≡ Ended (Refused 0 (vote.Locked id))
  pub aborts : (last (locked 0)).posts ≡ decide id false 0 ∷ decide id false 2 ∷ []
  pub differs : (last (mismatch 3)).now.phase ≡ Ended (Refused 0 (vote.Mismatch 3 (8 ∷ [])))
  pub no_compare : (last (mismatch 1)).now.phase ≡ (after_hearing first.now (of_2 ∷ [])).phase
  pub second : (last (locked 2)).now.phase ≡ (after_hearing first.now (of_2 ∷ [])).phase
  pub stranger : (last (locked 1)).now.phase ≡ (after_hearing first.now (of_2 ∷ [])).phase
  pub another : (last (comes 0 (message.Voted (record id { seq = 2 }) (vote.Locked id)))).now.phase ≡ (after_hearing first.now (of_2 ∷ [])).phase
  pub short : (last (comes 0 (message.Voted id (vote.Granted [])))).now.phase ≡ (after_hearing first.now (of_2 ∷ [])).phase
  pub long : (last (comes 0 (message.Voted id (vote.Granted ((1 ∷ 2 ∷ 3 ∷ []) ∷ []))))).now.phase ≡ (after_hearing first.now (of_2 ∷ [])).phase

abbrev pub half_done : Step
half_done = on_done decided 2 id

abbrev pub all_done : Step
all_done = on_done half_done.now 0 id

-- `done` twice of one memory node is not that of both; and then it is forgotten everywhere
pub record DecisionsAreFinished : Type 0 where
  pub waits : half_done.posts ≡ []
  pub twice : on_done half_done.now 2 id ≡ half_done
  pub again : resent half_done.now ≡ decide id true 0 ∷ []
  pub forgets : all_done.posts ≡ forget (finishing_of id true (0 ∷ 2 ∷ []))
  pub finished : all_done.now.finishing ≡ []
  pub missing : resent (after_hearing first.now (of_2 ∷ [])) ≡ prepare id items 0 ∷ []
  pub gave_up : (given_up first.now).phase ≡ Free
  pub kept : given_up decided ≡ decided
  pub taken : (cleared decided).phase ≡ Free

-- so many numbers from one on
abbrev pub counted_from : ℕ → ℕ → List ℕ
counted_from n zero = []
counted_from n (suc k) = n ∷ counted_from (n + 1) k

-- so many identifiers are finishing
abbrev pub with_finishing : ℕ → State
with_finishing n =
    record first.now { finishing = map (λ (seq : ℕ). finishing_of (record { coord = 3; boot = 4; seq = seq }) true (0 ∷ 2 ∷ [])) (counted_from 1 n) }

-- a 33rd pushes out the oldest
pub record OldestGoes : Type 0 where
  pub kept : length (after_hearing (with_finishing 31) (locked 0 ∷ [])).finishing ≡ 32
  pub gone : map (λ (f : Finishing). f.id.seq) (after_hearing (with_finishing 32) (locked 0 ∷ [])).finishing ≡ map (λ (n : ℕ). n) (counted_from 2 31) ++ 1 ∷ []
