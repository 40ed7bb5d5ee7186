-- What the recoverer does, by computing.
use Rattle.std.specs.Prelude.{◌≡◌, ℕ, zero, suc, ◌+◌, true, false, List, [], ◌∷◌, map, length, Some, None}
use Rattle.mini_tx.specs.declared.cut_id.CutId.{CutId}
use Rattle.mini_tx.specs.declared.kept_id.KeptId.{KeptId}
use Rattle.mini_tx.specs.declared.message.Message.TheVariants as message
use Rattle.mini_tx.specs.declared.tx_id.TxId.{TxId}
use Rattle.tx_recover.specs.declared.notice.Notice.TheVariants.{Ask, Decide, Forget}
use Rattle.tx_recover.specs.declared.work.Work.{Work}
use Rattle.tx_recover.specs.Rules.{Step, heard, told, resent}

abbrev pub id : ℕ → TxId
id seq = record { coord = 0; boot = 1; seq = seq }

-- the record of an identifier of memory nodes 0 and 2
abbrev pub kept : ℕ → KeptId
kept seq = record { id = id seq; participants = 0 ∷ 2 ∷ [] }

abbrev pub cut : CutId
cut = record { boot = 1; seq = 1 }

-- memory node 2 keeps two records, and holds a cut
abbrev pub first : Step
first = heard [] 2 (message.Kept (kept 3 ∷ kept 1 ∷ kept 3 ∷ []) (Some cut)) None

abbrev pub answer : List Work → ℕ → ℕ → Step
answer works m seq = heard works m (message.Answer (id seq) true) None

-- memory node 0 voted for identifier 3, and then 2 did
abbrev pub half : Step
half = answer first.now 0 3

abbrev pub agreed : Step
agreed = answer half.now 2 3

abbrev pub denied : Step
denied = heard half.now 2 (message.Answer (id 3) false) None

abbrev pub through : List Work → ℕ → Step
through works m = heard works m (message.Done (id 3)) None

-- what is named is taken up once, in ascending order, and its participants are asked; a cut that does not run is dropped;
-- the last answer commits, the first that is not ok aborts, and one of a stranger is ignored; `done` before the decision
-- is ignored; and after that of all participants it is forgotten everywhere
pub record OrphansAreFinished : Type 0 where
  pub asks : first.posts
      ≡ told (Ask (id 3)) 0 ∷ told (Ask (id 3)) 2 ∷ told (Ask (id 1)) 0 ∷ told (Ask (id 1)) 2 ∷ record { memory = 2; message = message.Drop cut } ∷ []
  pub ascending : map (λ (w : Work). w.id.seq) first.now ≡ 1 ∷ 3 ∷ []
  pub running : (heard [] 2 (message.Kept [] (Some cut)) (Some cut)).posts ≡ []
  pub waits : half.posts ≡ []
  pub asks_again : resent half.now ≡ told (Ask (id 1)) 0 ∷ told (Ask (id 1)) 2 ∷ told (Ask (id 3)) 2 ∷ []
  pub commits : agreed.posts ≡ told (Decide (id 3) true) 0 ∷ told (Decide (id 3) true) 2 ∷ []
  pub twice : answer half.now 0 3 ≡ half
  pub aborts : denied.posts ≡ told (Decide (id 3) false) 0 ∷ told (Decide (id 3) false) 2 ∷ []
  pub decided : answer denied.now 2 3 ≡ record { now = denied.now; posts = [] }
  pub stranger : heard half.now 1 (message.Answer (id 3) false) None ≡ half
  pub early : through half.now 0 ≡ half
  pub decides_again : resent (through agreed.now 2).now ≡ told (Ask (id 1)) 0 ∷ told (Ask (id 1)) 2 ∷ told (Decide (id 3) true) 0 ∷ []
  pub forgets : (through (through agreed.now 2).now 0).posts ≡ told (Forget (id 3)) 0 ∷ told (Forget (id 3)) 2 ∷ []
  pub left : map (λ (w : Work). w.id.seq) (through (through agreed.now 2).now 0).now ≡ 1 ∷ []

-- so many records, from a number on
abbrev pub kept_from : ℕ → ℕ → List KeptId
kept_from seq zero = []
kept_from seq (suc n) = kept seq ∷ kept_from (seq + 1) n

-- the 65th is passed over
pub record The65thIsPassedOver : Type 0 where
  pub taken : length (heard [] 0 (message.Kept (kept_from 1 64) None) None).now ≡ 64
  pub passed : (heard (heard [] 0 (message.Kept (kept_from 1 64) None) None).now 0 (message.Kept (kept 65 ∷ []) None) None).posts ≡ []
