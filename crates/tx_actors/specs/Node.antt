-- A memory node: what it takes from its log, and how it answers each message.
use Rattle.std.specs.Prelude.{◌≡◌, ℕ, nat_lt, ◌==◌, Bool, false, not, cond, ◌&&◌, ◌||◌, List, [], ◌∷◌, filter, take, map, Option, Some, None, unwrap_or, ⊤}
use Rattle.tx_rules.specs.Mini.{Want, has_several, is_logged, Setting, nodes_of, participants_at, cells_of, reads_of}
use Rattle.tx_rules.specs.Decision.{Reason, Forced, Held, Locked, Mismatch, Record, Grant, Refuse, Commit, Abort, Forget, Entry, At}
use Rattle.tx_rules.specs.World.{Message, Prepare, Granted, Looked, Refused, DecideCommit, DecideAbort, Done, Forgotten, ListKept, Kept, Ask, AnswerOk, AnswerAbort, World, Event, Grants, Completes, Refuses, Commits, Aborts, Forgets}
use Rattle.tx_rules.specs.Lists.{is_in, overlap}

-- ---- the state that records make

-- the records of one memory node's log, newest first
abbrev pub own : ℕ → List Entry → List Record
own m [] = []
own m (At n r ∷ log) = cond (n == m) (r ∷ own m log) (own m log)

-- whether there is a grant of the identifier
abbrev pub has_grant : List Record → ℕ → Bool
has_grant [] t = false
has_grant (Grant u ∷ rs) t = (u == t) || has_grant rs t
has_grant (r ∷ rs) t = has_grant rs t

-- whether there is a decision on it
abbrev pub has_decision : List Record → ℕ → Bool
has_decision [] t = false
has_decision (Commit u ∷ rs) t = (u == t) || has_decision rs t
has_decision (Abort u ∷ rs) t = (u == t) || has_decision rs t
has_decision (r ∷ rs) t = has_decision rs t

-- whether there is the record that it is forgotten
abbrev pub has_forget : List Record → ℕ → Bool
has_forget [] t = false
has_forget (Forget u ∷ rs) t = (u == t) || has_forget rs t
has_forget (r ∷ rs) t = has_forget rs t

-- a vote on an identifier that has an entry: it was granted, or not, and why
abbrev pub cast_as : Option Reason → ℕ → Record
cast_as None t = Grant t
cast_as (Some why) t = Refuse t why

-- a floor that an identifier's vote may raise: it never falls
abbrev pub raised : ℕ → Option Reason → Option (ℕ × Option Reason) → Option (ℕ × Option Reason)
raised t vote None = Some (t, vote)
raised t vote (Some floor) = cond (nat_lt floor.0 t) (Some (t, vote)) (Some floor)

-- the floor of a coordinator: the greatest of its identifiers that was voted on with an entry or forced to abort, and
-- why that vote is not Granted, where it is not
abbrev pub floor_of : Setting → List Record → ℕ → Option (ℕ × Option Reason)
floor_of s [] c = None
floor_of s (Grant t ∷ rs) c = cond (s.coord t == c) (raised t None (floor_of s rs c)) (floor_of s rs c)
floor_of s (Refuse t why ∷ rs) c = cond (s.coord t == c) (raised t (Some why) (floor_of s rs c)) (floor_of s rs c)
floor_of s (r ∷ rs) c = floor_of s rs c

-- where an identifier stands to a floor: above it, at it with its vote, or below this floor
pub data Standing : Type 0 where
  Above : Standing
  Same : Option Reason → Standing
  Below : ℕ → Standing

-- where it stands to a floor that is there or not
abbrev pub to_floor : ℕ → Option (ℕ × Option Reason) → Standing
to_floor t None = Above
to_floor t (Some floor) = cond (nat_lt floor.0 t) Above (cond (floor.0 == t) (Same floor.1) (Below floor.0))

-- where it stands to the floor of its coordinator
abbrev pub standing : Setting → List Record → ℕ → Standing
standing s rs t = to_floor t (floor_of s rs (s.coord t))

-- whether a memory node keeps the record of an identifier: it was granted, has several participants, and is not forgotten
abbrev pub is_kept : Setting → ℕ → List Record → ℕ → Bool
is_kept s m rs t = has_grant rs t && (has_several (participants_at s m t) && not (has_forget rs t))

-- whether its record is undecided: it holds the locks of its cells
abbrev pub is_undecided : List Record → ℕ → Bool
is_undecided rs t = has_grant rs t && not (has_decision rs t)

-- the identifiers that were granted, newest first
abbrev pub granted_in : List Record → List ℕ
granted_in [] = []
granted_in (Grant t ∷ rs) = t ∷ granted_in rs
granted_in (r ∷ rs) = granted_in rs

-- a number in its place in an ascending list, which has it once
abbrev pub sorted_in : ℕ → List ℕ → List ℕ
sorted_in n [] = n ∷ []
sorted_in n (x ∷ xs) = cond (nat_lt x n) (x ∷ sorted_in n xs) (cond (n == x) (x ∷ xs) (n ∷ x ∷ xs))

-- the elements of a list in ascending order, each once
abbrev pub sorted : List ℕ → List ℕ
sorted [] = []
sorted (x ∷ xs) = sorted_in x (sorted xs)

-- the least 64 identifiers whose records a memory node keeps, ascending, each with the participants that its record names
abbrev pub kept_in : Setting → ℕ → List Record → List (ℕ × List ℕ)
kept_in s m rs = map (λ t. (t, participants_at s m t)) (take 64 (sorted (filter (is_kept s m rs) (granted_in rs))))

-- the image that records make of one: with the writes of those that were committed, in their order
abbrev pub replayed : Setting → ℕ → List Record → (ℕ → ℕ) → ℕ → ℕ
replayed s m [] image a = image a
replayed s m (Commit t ∷ rs) image a = unwrap_or ((s.mini t).writes m a) (replayed s m rs image a)
replayed s m (r ∷ rs) image a = replayed s m rs image a

-- ---- what a memory node does with a message

-- what a memory node has: its records, its image, and the bytes that its granted records keep of what they read
pub record View : Type 0 where
  pub records : List Record
  pub image : ℕ → ℕ
  pub seen : ℕ → ℕ → ℕ

-- what a memory node has in a world
abbrev pub view : World → ℕ → View
view w m = record { records = own m w.log; image = w.image m; seen = λ t. w.seen t m }

-- the records that it appends, oldest first, before the messages that it posts
pub record Reaction : Type 0 where
  pub appends : List Record
  pub posts : List Message

-- it does nothing
abbrev pub silent : Reaction
silent = record { appends = []; posts = [] }

-- it answers, and appends nothing
abbrev pub answers : Message → Reaction
answers message = record { appends = []; posts = message ∷ [] }

-- ---- `prepare`: the first rule that fits

-- a kept record's vote again; the floor's vote again, Granted or not; Forced by a floor above; a new vote that is not
-- Granted, and why: Held while a cut is held, Locked by the least holder, Mismatch at the first compare item that
-- differs; and Granted
pub data Rule : Type 0 where
  RecordAgain : Rule
  FloorAgain : Option Reason → Rule
  BelowFloor : ℕ → Rule
  Against : Reason → Rule
  Passes : Rule

-- the first element of a list
abbrev pub first_of_list : List ℕ → Option ℕ
first_of_list [] = None
first_of_list (x ∷ xs) = Some x

-- whether the record of an identifier is undecided and touches a cell of this one
abbrev pub is_in_the_way : Setting → ℕ → List Record → ℕ → ℕ → Bool
is_in_the_way s m rs t u = is_undecided rs u && overlap (cells_of s t m) (cells_of s u m)

-- the least identifier whose undecided record touches a cell of this one
abbrev pub least_holder : Setting → ℕ → List Record → ℕ → Option ℕ
least_holder s m rs t = first_of_list (sorted (filter (is_in_the_way s m rs t) (granted_in rs)))

-- the place of the first compare item that differs
abbrev pub first_mismatch : List Want → (ℕ → ℕ) → Option ℕ
first_mismatch [] image = None
first_mismatch (want ∷ wants) image = cond (image want.cell == want.byte) (first_mismatch wants image) (Some want.item)

-- the rule where the compare items are asked
abbrev pub rule_by_items : Option ℕ → Rule
rule_by_items (Some item) = Against (Mismatch item)
rule_by_items None = Passes

-- the rule where the locks are asked first
abbrev pub rule_by_locks : Option ℕ → Option ℕ → Rule
rule_by_locks (Some holder) mismatch = Against (Locked holder)
rule_by_locks None mismatch = rule_by_items mismatch

-- the rule where the cut that is held is asked first
abbrev pub rule_by_cut : Option ℕ → Option ℕ → Option ℕ → Rule
rule_by_cut (Some cut) holder mismatch = Against (Held cut)
rule_by_cut None holder mismatch = rule_by_locks holder mismatch

-- the rule where no record is kept
abbrev pub rule_by_floor : Setting → ℕ → Option ℕ → View → ℕ → Standing → Rule
rule_by_floor s m held v t Above = rule_by_cut held (least_holder s m v.records t) (first_mismatch ((s.mini t).wants m) v.image)
rule_by_floor s m held v t (Same vote) = FloorAgain vote
rule_by_floor s m held v t (Below floor) = BelowFloor floor

-- the first rule that fits, while this cut is held or none
abbrev pub rule_for : Setting → ℕ → Option ℕ → View → ℕ → Rule
rule_for s m held v t = cond (is_kept s m v.records t) RecordAgain (rule_by_floor s m held v t (standing s v.records t))

-- a Granted vote that is sent again
abbrev pub grants_again : Setting → ℕ → View → ℕ → Reaction
grants_again s m v t = answers (Granted m t (reads_of s t m (v.seen t)))

-- a new vote that is not Granted: it becomes the floor, but for one participant without a write item
abbrev pub refuses : Setting → ℕ → ℕ → Reason → Reaction
refuses s m t why = cond (is_logged (s.mini t)) (record { appends = Refuse t why ∷ []; posts = Refused m t why ∷ [] }) (answers (Refused m t why))

-- a Granted vote, with the bytes of the read items as they are before the writes: of one participant the writes are
-- applied at once, and without a write item nothing is logged
abbrev pub grants : Setting → ℕ → View → ℕ → Reaction
grants s m v t =
    cond (is_logged (s.mini t))
    (record { appends = Grant t ∷ cond (has_several (nodes_of s t)) [] (Commit t ∷ []); posts = Granted m t (reads_of s t m v.image) ∷ [] })
    (answers (Looked m t (reads_of s t m v.image)))

-- what each rule does
abbrev pub by_rule : Setting → ℕ → View → ℕ → Rule → Reaction
by_rule s m v t RecordAgain = grants_again s m v t
by_rule s m v t (FloorAgain None) = grants_again s m v t
by_rule s m v t (FloorAgain (Some why)) = answers (Refused m t why)
by_rule s m v t (BelowFloor floor) = answers (Refused m t (Forced floor))
by_rule s m v t (Against why) = refuses s m t why
by_rule s m v t Passes = grants s m v t

-- `prepare`: what the first rule that fits does
abbrev pub on_prepare : Setting → ℕ → Option ℕ → View → ℕ → Reaction
on_prepare s m held v t = by_rule s m v t (rule_for s m held v t)

-- ---- the other messages

-- `decide commit`: an undecided record is decided, its writes are applied and its locks are free
abbrev pub on_commit : ℕ → View → ℕ → Reaction
on_commit m v t = record { appends = cond (is_undecided v.records t) (Commit t ∷ []) []; posts = Done m t ∷ [] }

-- an identifier above the floor is forced to abort
abbrev pub forced : ℕ → Standing → List Record
forced t Above = Refuse t (Forced t) ∷ []
forced t (Same vote) = []
forced t (Below floor) = []

-- `decide abort`: an undecided record is decided; above the floor the identifier is forced to abort
abbrev pub on_abort : Setting → ℕ → View → ℕ → Reaction
on_abort s m v t = record { appends = cond (is_undecided v.records t) (Abort t ∷ []) (forced t (standing s v.records t)); posts = Done m t ∷ [] }

-- `forget`: a decided record is dropped
abbrev pub on_forget : Setting → ℕ → View → ℕ → Reaction
on_forget s m v t = record { appends = cond (is_kept s m v.records t && has_decision v.records t) (Forget t ∷ []) []; posts = [] }

-- `ask` by the floor: ok where its vote at the identifier is Granted; above it the identifier is forced to abort
abbrev pub answers_by_floor : ℕ → ℕ → Standing → Reaction
answers_by_floor m t (Same None) = answers (AnswerOk m t)
answers_by_floor m t at_floor = record { appends = forced t at_floor; posts = AnswerAbort m t ∷ [] }

-- `ask`: ok where the record is kept
abbrev pub on_ask : Setting → ℕ → View → ℕ → Reaction
on_ask s m v t = cond (is_kept s m v.records t) (answers (AnswerOk m t)) (answers_by_floor m t (standing s v.records t))

-- each message but `list` is for participants alone; of old identifiers any memory node may be one
abbrev pub to_participant : Setting → ℕ → ℕ → Reaction → Reaction
to_participant s m t reaction = cond (is_in m (nodes_of s t) || is_in t s.old) reaction silent

-- what a memory node does with each message while it holds this cut or none; it ignores those that are for others
abbrev pub handle : Setting → ℕ → Option ℕ → View → Message → Reaction
handle s m held v (Prepare t) = to_participant s m t (on_prepare s m held v t)
handle s m held v (DecideCommit t) = to_participant s m t (on_commit m v t)
handle s m held v (DecideAbort t) = to_participant s m t (on_abort s m v t)
handle s m held v (Forgotten t) = to_participant s m t (on_forget s m v t)
handle s m held v (Ask t) = to_participant s m t (on_ask s m v t)
handle s m held v ListKept = answers (Kept m (kept_in s m v.records))
handle s m held v message = silent

-- ---- two memory nodes that have the same

pub record IsAlike (v u : View) : Type 0 where
  pub records : v.records ≡ u.records
  pub image : (a : ℕ) → v.image a ≡ u.image a
  pub seen : (t a : ℕ) → v.seen t a ≡ u.seen t a

-- what a memory node has after a record, and after several, oldest first
abbrev pub after_record : Setting → ℕ → View → Record → View
after_record s m v (Grant t) = record { records = Grant t ∷ v.records; image = v.image; seen = λ u. cond (u == t) v.image (v.seen u) }
after_record s m v (Commit t) = record { records = Commit t ∷ v.records; image = λ a. unwrap_or ((s.mini t).writes m a) (v.image a); seen = v.seen }
after_record s m v r = record { records = r ∷ v.records; image = v.image; seen = v.seen }

abbrev pub after_records : Setting → ℕ → View → List Record → View
after_records s m v [] = v
after_records s m v (r ∷ rs) = after_records s m (after_record s m v r) rs

-- ---- what happens at other memory nodes

-- an event that appends nothing to the log of the memory node
abbrev pub IsElsewhere : ℕ → Event → Type 0
IsElsewhere m (Grants n t) = ¬ (n ≡ m)
IsElsewhere m (Completes n t) = ¬ (n ≡ m)
IsElsewhere m (Refuses n t why) = ¬ (n ≡ m)
IsElsewhere m (Commits n t) = ¬ (n ≡ m)
IsElsewhere m (Aborts n t) = ¬ (n ≡ m)
IsElsewhere m (Forgets n t) = ¬ (n ≡ m)
IsElsewhere m e = ⊤

-- events that append nothing to the log of the memory node
abbrev pub AllElsewhere : ℕ → List Event → Type 0
AllElsewhere m [] = ⊤
AllElsewhere m (e ∷ events) = IsElsewhere m e × AllElsewhere m events
