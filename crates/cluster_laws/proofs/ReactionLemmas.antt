-- What a memory node's answer tells of its entry.
use Rattle.std.proofs.Common.{◌≡◌, [], Bool, true, false, ◌&&◌, cond, List, ℕ, is_none, Option, Some, None, refl, sym, ap, ◌∙◌, map, if◌then◌else◌}
use Rattle.mini_tx.specs.declared.entry.Entry.{Entry}
use Rattle.mini_tx.specs.declared.entry.Entry.TheVariants as entry
use Rattle.mini_tx.specs.declared.message.Message.{Message}
use Rattle.mini_tx.specs.declared.message.Message.TheVariants as message
use Rattle.mini_tx.specs.declared.placed_item.PlacedItem.{PlacedItem}
use Rattle.mini_tx.specs.declared.tx_id.TxId.{TxId}
use Rattle.mini_tx.specs.declared.vote.Vote.{Vote}
use Rattle.mini_tx.specs.declared.vote.Vote.TheVariants as vote
use Rattle.mini_tx.specs.EntryGrammar.{is_granted}
use Rattle.mem_rules.specs.declared.floor.Floor.{Floor}
use Rattle.mem_rules.specs.declared.kept.Kept.{Kept}
use Rattle.mem_rules.specs.declared.rule.Rule.{Rule}
use Rattle.mem_rules.specs.declared.rule.Rule.TheVariants.{RecordAgain, FloorAgain, ForcedBy, HeldBy, LockedBy, MismatchAt, Passes}
use Rattle.mem_rules.specs.declared.standing.Standing.{Standing}
use Rattle.mem_rules.specs.declared.standing.Standing.TheVariants.{Above, At, Below}
use Rattle.mem_rules.specs.declared.difference.Difference.{Difference}
use Rattle.mini_tx.specs.declared.cut_id.CutId.{CutId}
use Rattle.mem_rules.specs.Fit.{IsOfTransactions}
use Rattle.mem_rules.specs.Items.{range_of, writes_of}
use Rattle.mem_rules.specs.Memory.{vote_kept, vote_of}
use Rattle.mem_rules.specs.Rules as rules
use Rattle.mem_rules.specs.Items.{first_difference}
use Rattle.mem_rules.specs.Identifiers.{cut_precedes}
use Rattle.mini_tx.specs.declared.held_answer.HeldAnswer.TheVariants as hold
use Rattle.mem_rules.specs.State.{State, kept_of}
use Rattle.story_rules.specs.MemoryNodes.{MemoryNode, reaction}
use Rattle.story_rules.specs.Steps.{grant_of, grant_in}
use Rattle.cluster_laws.specs.Reactions.{is_grant, unvoted, grants, AnswersTellGrants, CopiesStay}

-- no identifier
abbrev pub nothing : Option TxId
nothing = None

-- ---- the entry of a new vote

entry_grants : (id : TxId) (v : Vote) (several : Bool) (participants : List ℕ) (items : List PlacedItem)
    → grant_in (if is_granted v then (if several then entry.Prepared id participants v (map range_of items) (writes_of items) else entry.Single id v (writes_of items)) else entry.Refused id v)
    ≡ (if is_granted v then Some id else None)
entry_grants id v several participants items = go (is_granted v) refl several
  where
    go : (b : Bool) → is_granted v ≡ b → (several_ : Bool)
        → grant_in (if b then (if several_ then entry.Prepared id participants v (map range_of items) (writes_of items) else entry.Single id v (writes_of items)) else entry.Refused id v)
        ≡ (if b then Some id else None)
    go true is true = ap (λ (b : Bool). if b then Some id else None) is
    go true is false = ap (λ (b : Bool). if b then Some id else None) is
    go false is several_ = refl

casts_grant : (n : MemoryNode) (id : TxId) (participants : List ℕ) (items : List PlacedItem) (v : Vote)
    → grant_of (rules.casts n id participants items v).entry
    ≡ grants (if rules.is_logged participants items then Some id else None) (rules.casts n id participants items v).answer
casts_grant n id participants items v = go (rules.is_logged participants items)
  where
    turned : (b : Bool) → (if b then Some id else None) ≡ (if b then Some id else None)
    turned b = refl

    none : (b : Bool) → nothing ≡ (if b then nothing else nothing)
    none true = refl
    none false = refl

    go : (b : Bool)
        → grant_of (if b then rules.appends n (rules.entry_of_vote id participants items v) (message.Voted id v) else rules.answers n (message.Voted id v)).entry
        ≡ grants (if b then Some id else None) (if b then rules.appends n (rules.entry_of_vote id participants items v) (message.Voted id v) else rules.answers n (message.Voted id v)).answer
    go true = entry_grants id v (rules.has_several participants) participants items
    go false = none (is_granted v)

-- ---- each rule

-- a rule that repeats a vote, or forces, has no entry; and none of them grants anew
abbrev pub may : Bool → Bool → TxId → Option TxId
may none logged id = if none && logged then Some id else None

pick_none : (b : Bool) → nothing ≡ (if b then nothing else nothing)
pick_none true = refl
pick_none false = refl

module _ (n : MemoryNode) (id : TxId) (participants : List ℕ) (items : List PlacedItem) where
  again : (v : Vote) → None ≡ grants None (Some (message.Voted id v))
  again v = pick_none (is_granted v)

  -- where the identifier is above the floor, the rule is a new one
  above : (cut : Option CutId) (holder : Option TxId) (difference : Option Difference)
      → grant_of (rules.by_rule n id participants items (rules.rule_by_cut cut holder difference)).entry
      ≡ grants (if rules.is_logged participants items then Some id else None) (rules.by_rule n id participants items (rules.rule_by_cut cut holder difference)).answer
  above (Some c) holder difference = casts_grant n id participants items (vote.Held c)
  above None (Some h) difference = casts_grant n id participants items (vote.Locked h)
  above None None (Some d) = casts_grant n id participants items (vote.Mismatch d.place d.kept)
  above None None None = casts_grant n id participants items (rules.vote_by n.state.image items Passes)

  by_floor : (s : Standing)
      → grant_of (rules.by_rule n id participants items (rules.rule_by_floor s (rules.rule_above n items))).entry
      ≡ grants (may (is_none (rules.vote_standing s)) (rules.is_logged participants items) id) (rules.by_rule n id participants items (rules.rule_by_floor s (rules.rule_above n items))).answer
  by_floor Above = above (rules.held_cut n.copy) (rules.least_holder n.state (map range_of items)) (first_difference n.state.image items)
  by_floor (At v) = again v
  by_floor (Below floor) = refl

  by_record : (k : Option Kept) (s : Standing)
      → grant_of (rules.by_rule n id participants items (rules.rule_by_record k (rules.rule_by_floor s (rules.rule_above n items)))).entry
      ≡ grants (may (is_none (vote_kept k (rules.vote_standing s))) (rules.is_logged participants items) id)
      (rules.by_rule n id participants items (rules.rule_by_record k (rules.rule_by_floor s (rules.rule_above n items)))).answer
  by_record None s = by_floor s
  by_record (Some k) s = again k.vote

  -- ---- other messages

  forced : (s : Standing) (x : Message) → is_grant (Some x) ≡ false → grant_of (rules.forces n id s x).entry ≡ None
  forced Above x other = refl
  forced (At v) x other = refl
  forced (Below floor) x other = refl

  on_decide : (commit : Bool) (k : Option Kept) → grant_of (rules.on_decide n id commit k).entry ≡ None
  on_decide commit (Some k) = go (rules.is_undecided k)
    where
      go : (b : Bool) → grant_of (if b then rules.appends n (entry.Decided id commit) (message.Done id) else rules.answers n (message.Done id)).entry ≡ None
      go true = refl
      go false = refl
  on_decide true None = refl
  on_decide false None = forced (rules.standing n.state id) (message.Done id) refl

  on_forget : (k : Option Kept) → grant_of (rules.on_forget n id k).entry ≡ None
  on_forget (Some k) = go (rules.is_undecided k)
    where
      go : (b : Bool) → grant_of (if b then rules.silent n else record { entry = Some (entry.Forgotten id); answer = None; copy = n.copy }).entry ≡ None
      go true = refl
      go false = refl
  on_forget None = refl

  by_asked : (s : Standing) → grant_of (rules.by_floor_asked n id s).entry ≡ None
  by_asked Above = refl
  by_asked (At v) = refl
  by_asked (Below floor) = refl

  on_ask : (k : Option Kept) → grant_of (rules.on_ask n id k).entry ≡ None
  on_ask (Some k) = refl
  on_ask None = by_asked (rules.standing n.state id)

grants_nothing : (answer : Option Message) → None ≡ grants None answer
grants_nothing answer = pick_none (is_grant answer)

on_hold : (n : MemoryNode) (cut : CutId) → grant_of (rules.on_hold n cut).entry ≡ None
on_hold n cut = go (rules.is_copied n.copy cut)
  where
    holds : (holder : Option TxId) → grant_of (rules.holds n cut holder).entry ≡ None
    holds (Some h) = refl
    holds None = refl

    floor : (f : Option CutId) → grant_of (rules.by_cut_floor n cut f).entry ≡ None
    floor None = holds (rules.least_with rules.is_undecided None n.state.kept)
    floor (Some f) = by_order (cut_precedes f cut)
      where
        by_order : (b : Bool) → grant_of (if b then rules.holds n cut (rules.least_with rules.is_undecided None n.state.kept) else rules.answers n (message.Held cut (hold.Past f))).entry ≡ None
        by_order true = holds (rules.least_with rules.is_undecided None n.state.kept)
        by_order false = refl

    go : (b : Bool) → grant_of (if b then rules.answers n (message.Held cut hold.Copied) else rules.by_cut_floor n cut n.state.cut).entry ≡ None
    go true = refl
    go false = floor n.state.cut

-- whether the vote has an entry, and then whether there was none
by_steps : (s : State) (id : TxId) (logged : Bool) → may (is_none (vote_of s id)) logged id ≡ unvoted s (if logged then Some id else None)
by_steps s id true = ap (λ (b : Bool). if b then Some id else None) (with_true (is_none (vote_of s id)))
  where
    with_true : (b : Bool) → (b && true) ≡ b
    with_true true = refl
    with_true false = refl
by_steps s id false = ap (λ (b : Bool). if b then Some id else None) (with_false (is_none (vote_of s id)))
  where
    with_false : (b : Bool) → (b && false) ≡ false
    with_false true = refl
    with_false false = refl

pub answers_tell_grants : AnswersTellGrants
answers_tell_grants n (message.Prepare id participants items) =
    by_record n id participants items (kept_of n.state.kept id) (rules.standing n.state id)
    ∙ ap (λ (m : Option TxId). grants m (rules.on_prepare n id participants items).answer) (by_steps n.state id (rules.is_logged participants items))
answers_tell_grants n (message.Decide id commit) = on_decide n id [] [] commit (kept_of n.state.kept id) ∙ grants_nothing (rules.on_decide n id commit (kept_of n.state.kept id)).answer
answers_tell_grants n (message.Forget id) = on_forget n id [] [] (kept_of n.state.kept id) ∙ grants_nothing (rules.on_forget n id (kept_of n.state.kept id)).answer
answers_tell_grants n (message.Ask id) = on_ask n id [] [] (kept_of n.state.kept id) ∙ grants_nothing (rules.on_ask n id (kept_of n.state.kept id)).answer
answers_tell_grants n message.List = refl
answers_tell_grants n (message.Hold cut) = on_hold n cut ∙ grants_nothing (rules.on_hold n cut).answer
answers_tell_grants n (message.Release cut) = refl
answers_tell_grants n (message.Drop cut) = refl
answers_tell_grants n (message.ReadCut cut place) = refl
answers_tell_grants n (message.Voted id v) = refl
answers_tell_grants n (message.Done id) = refl
answers_tell_grants n (message.Kept ids cut) = refl
answers_tell_grants n (message.Answer id ok) = refl
answers_tell_grants n (message.Held cut answer) = refl
answers_tell_grants n (message.Piece cut place bytes) = refl

-- ---- the copy

copy_or : (n : MemoryNode) (b : Bool) (r s : rules.Reaction) → r.copy ≡ n.copy → s.copy ≡ n.copy → (if b then r else s).copy ≡ n.copy
copy_or n true r s this that = this
copy_or n false r s this that = that

module _ (n : MemoryNode) (id : TxId) (participants : List ℕ) (items : List PlacedItem) where
  cast_copy : (v : Vote) → (rules.casts n id participants items v).copy ≡ n.copy
  cast_copy v = copy_or n (rules.is_logged participants items) (rules.appends n (rules.entry_of_vote id participants items v) (message.Voted id v)) (rules.answers n (message.Voted id v)) refl refl

  rule_copy : (rule : Rule) → (rules.by_rule n id participants items rule).copy ≡ n.copy
  rule_copy rule = copy_or n (rules.is_new rule) (rules.casts n id participants items (rules.vote_by n.state.image items rule))
      (rules.answers n (message.Voted id (rules.vote_by n.state.image items rule))) (cast_copy (rules.vote_by n.state.image items rule)) refl

  forced_copy : (s : Standing) (x : Message) → (rules.forces n id s x).copy ≡ n.copy
  forced_copy Above x = refl
  forced_copy (At v) x = refl
  forced_copy (Below floor) x = refl

  decide_copy : (commit : Bool) (k : Option Kept) → (rules.on_decide n id commit k).copy ≡ n.copy
  decide_copy commit (Some k) = copy_or n (rules.is_undecided k) (rules.appends n (entry.Decided id commit) (message.Done id)) (rules.answers n (message.Done id)) refl refl
  decide_copy true None = refl
  decide_copy false None = forced_copy (rules.standing n.state id) (message.Done id)

  forget_copy : (k : Option Kept) → (rules.on_forget n id k).copy ≡ n.copy
  forget_copy (Some k) = copy_or n (rules.is_undecided k) (rules.silent n) (record { entry = Some (entry.Forgotten id); answer = None; copy = n.copy }) refl refl
  forget_copy None = refl

  asked_copy : (s : Standing) → (rules.by_floor_asked n id s).copy ≡ n.copy
  asked_copy Above = refl
  asked_copy (At v) = refl
  asked_copy (Below floor) = refl

  ask_copy : (k : Option Kept) → (rules.on_ask n id k).copy ≡ n.copy
  ask_copy (Some k) = refl
  ask_copy None = asked_copy (rules.standing n.state id)

pub copies_stay : CopiesStay
copies_stay n (message.Prepare id participants items) built = rule_copy n id participants items (rules.rule_for n id items)
copies_stay n (message.Decide id commit) built = decide_copy n id [] [] commit (kept_of n.state.kept id)
copies_stay n (message.Forget id) built = forget_copy n id [] [] (kept_of n.state.kept id)
copies_stay n (message.Ask id) built = ask_copy n id [] [] (kept_of n.state.kept id)
copies_stay n message.List built = refl
copies_stay n (message.Hold cut) built = absurd built
copies_stay n (message.Release cut) built = absurd built
copies_stay n (message.Drop cut) built = absurd built
copies_stay n (message.ReadCut cut place) built = absurd built
copies_stay n (message.Voted id v) built = refl
copies_stay n (message.Done id) built = refl
copies_stay n (message.Kept ids cut) built = refl
copies_stay n (message.Answer id ok) built = refl
copies_stay n (message.Held cut answer) built = refl
copies_stay n (message.Piece cut place bytes) built = refl
