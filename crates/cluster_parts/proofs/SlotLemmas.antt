-- What becomes of a slot where its memory node handles a message.
use Rattle.std.proofs.Common.{◌≡◌, ◌⊎◌, ◌<◌, inl, inr, ℕ, Bool, true, false, List, [], ◌++◌, Option, Some, None, Result, Ok, Err, is_none, if◌then◌else◌, refl, sym, ap, subst, ◌∙◌}
use Rattle.std.proofs.Common.{Bor}
use Rattle.std.specs.Option.{option_copied}
use Rattle.std.proofs.Math.Path.{fun_ext}
use Rattle.std.specs.Result.{IfOk}
use Rattle.std.proofs.lemmas.Result.{IfOk-weaker}
use Rattle.story_rules.specs.Story.{Up}
use Rattle.disk_model.specs.Crash.{Content, Snapshot, History, MayLeave, LeavesOnly, is_pending}
use Rattle.gate_log.specs.declared.log.Log.{Log}
use Rattle.disk_model.specs.declared.disk.Disk.{Ghosts}
use Rattle.disk_model.specs.Health.{Health}
use Rattle.disk_model.proofs.MomentLemmas.{left_last}
use Rattle.link_model.specs.Links.{numbered}
use Rattle.mini_tx.specs.declared.entry.Entry.{Entry}
use Rattle.mini_tx.specs.declared.message.Message.{Message}
use Rattle.mini_tx.specs.declared.message.Message.TheVariants as message
use Rattle.mini_tx.specs.declared.posted.Posted.{Posted}
use Rattle.mini_tx.specs.declared.tx_id.TxId.{TxId}
use Rattle.mini_tx.specs.declared.vote.Vote.{Vote}
use Rattle.mem_rules.specs.declared.setup.Setup.{Setup}
use Rattle.mem_rules.specs.Fit.{IsFitMessage, IsOfTransactions}
use Rattle.mem_rules.specs.Memory.{state_of, node_with}
use Rattle.mem_rules.specs.Rules as rules
use Rattle.mem_rules.specs.State.{State}
use Rattle.mem_node.specs.declared.mem_node.MemNode.{MemNode}
use Rattle.mem_node.specs.declared.node_fault.NodeFault.{NodeFault}
use Rattle.mem_node.specs.declared.node_fault.NodeFault.TheVariants.{Down, Full, Other, Damaged, NoMemory}
use Rattle.mem_node.specs.Disk.{Has, Makes}
use Rattle.mem_node.specs.Node.{Handles, IsBeforeOrAfter, IsOnDisk, IsSound, appended, node_of, node_disk_of, setup_of, shut_of}
use Rattle.story_rules.specs.MemoryNodes.{MemoryNode, reaction}
use Rattle.cluster_parts.specs.declared.delivered.Handled.{Handled as Fate}
use Rattle.cluster_laws.specs.Reactions.{logged_in}
use Rattle.cluster_laws.proofs.ReactionLemmas.{copies_stay}
use Rattle.cluster_parts.specs.declared.memory_slot.MemorySlot.{MemorySlot}
use Rattle.cluster_parts.specs.Slots.{IsAt, RestsAt, MayHold, FallsBy, Answers, site_after, entry_for, entry_with}

-- ---- votes

pub copied_none : (o : Option (Bor Vote)) (p : Option Vote) → option_copied o ≡ p → is_none o ≡ is_none p
copied_none o p is = none o ∙ ap is_none is
  where
    none : (o : Option (Bor Vote)) → is_none o ≡ is_none (option_copied o)
    none None = refl
    none (Some v) = refl

-- the coordinator of a message that asks for a vote is of the cluster
pub logged_fit : (s : Setup) (x : Message) (id : TxId) → IsFitMessage s x → logged_in x ≡ Some id → id.coord < s.geometry.nodes
logged_fit s (message.Prepare own participants items) id fit is = go (rules.is_logged participants items) is
  where
    go : (b : Bool) → (if b then Some own else None) ≡ Some id → id.coord < s.geometry.nodes
    go true same = let e : own ≡ id = cc in subst (λ (t : TxId). t.coord < s.geometry.nodes) e fit.coordinator
    go false same = absurd cc
logged_fit s (message.Voted own v) id fit is = absurd cc
logged_fit s (message.Decide own commit) id fit is = absurd cc
logged_fit s (message.Done own) id fit is = absurd cc
logged_fit s (message.Forget own) id fit is = absurd cc
logged_fit s message.List id fit is = absurd cc
logged_fit s (message.Kept ids cut) id fit is = absurd cc
logged_fit s (message.Ask own) id fit is = absurd cc
logged_fit s (message.Answer own ok) id fit is = absurd cc
logged_fit s (message.Hold cut) id fit is = absurd cc
logged_fit s (message.Held cut answer) id fit is = absurd cc
logged_fit s (message.Release cut) id fit is = absurd cc
logged_fit s (message.Drop cut) id fit is = absurd cc
logged_fit s (message.ReadCut cut place) id fit is = absurd cc
logged_fit s (message.Piece cut place bytes) id fit is = absurd cc

-- ---- what a memory node has then

-- the rules of a memory node speak of what it has, and no copy
same_parts : (n m : MemoryNode) → n.state ≡ m.state → n.copy ≡ m.copy → n ≡ m
same_parts n m state copy = ap (λ (t : State). of t n.copy) state ∙ ap (λ (t : Option rules.Copy). of m.state t) copy
  where
    of : State → Option rules.Copy → MemoryNode
    of state_ copy_ = record { state = state_; copy = copy_ }

module _ {D : Type 0} {G : Ghosts D} (tells : D → Type 0) (history : D → History) (health : D → Health) (before now : MemNode D G) (x : Message) where
  abbrev Handled : (R : Type 0) → Result R NodeFault → Type 0
  Handled R result = Handles tells history health before now (rules.react (node_of before) x).entry result

  pub ok_site : (R : Type 0) (a : R) (s : Setup) (n : MemoryNode) → Handled R (Ok a) → IsOfTransactions x → setup_of before ≡ s → node_of before ≡ n
      → (setup_of now ≡ s) × (node_of now ≡ rules.after_reaction n (rules.react n x)) × (shut_of now ≡ None)
  ok_site R a s n h built setup node = (
    h.setup ∙ setup,
    subst (λ (k : MemoryNode). node_of now ≡ rules.after_reaction k (rules.react k x)) node
        (same_parts (node_of now) (rules.after_reaction (node_of before) (rules.react (node_of before) x)) h.state (sym (copies_stay (node_of before) x built))),
    h.running,
  )

  pub ok_rests : (R : Type 0) (a : R) → Handled R (Ok a) → IsOnDisk tells history health before → IsOnDisk tells history health now
  ok_rests R a h on = (on.0, (on.1.0 ++ appended (rules.react (node_of before) x).entry, h.sound on.0 on.1.0 on.1.1))

  pub fault_rests : (R : Type 0) (result : Result R NodeFault) (s : Setup) (n : MemoryNode) (k : ℕ) (posted : List Posted) (p : Posted) → Handled R result
      → setup_of before ≡ s → node_of before ≡ n → numbered posted k ≡ Some p → p.message ≡ x → IsOnDisk tells history health before
      → tells (node_disk_of now) × MayHold s posted (history (node_disk_of now)).now n (Some k)
  fault_rests R result s n k posted p h setup node at same on = (
    h.still on.1.1.logged.ready.speaks,
    record {
      image = on.0;
      bytes = on.1.0;
      makes = subst (λ (m : MemoryNode). Makes s on.0 on.1.0 m.state) node (subst (λ (t : Setup). Makes t on.0 on.1.0 (state_of before.memory)) setup on.1.1.makes);
      left = λ content may.
          subst (λ (e : Option Entry). IsBeforeOrAfter s on.0 on.1.0 e content) entry_is
          (subst (λ (t : Setup). IsBeforeOrAfter t on.0 on.1.0 (rules.react (node_of before) x).entry content) setup
          (left_last (IsBeforeOrAfter before.memory.setup on.0 on.1.0 (rules.react (node_of before) x).entry) (history before.log.disk) (history now.log.disk)
          (h.any_moment on.0 on.1.0 on.1.1) content may));
    },
  )
    where
      entry_is : (rules.react (node_of before) x).entry ≡ entry_for posted n (Some k)
      entry_is =
          ap (λ (m : MemoryNode). (rules.react m x).entry) node
          ∙ ap (λ (y : Message). (rules.react n y).entry) (sym same)
          ∙ ap (entry_with n) (sym at)

  pub full_rests : (R : Type 0) (s : Setup) (n : MemoryNode) (posted : List Posted) → Handled R (Err Full) → setup_of before ≡ s → node_of before ≡ n
      → IsOnDisk tells history health before → tells (node_disk_of now) × MayHold s posted (history (node_disk_of now)).now n None
  full_rests R s n posted h setup node on = (
    h.still on.1.1.logged.ready.speaks,
    record {
      image = on.0;
      bytes = on.1.0;
      makes = subst (λ (m : MemoryNode). Makes s on.0 on.1.0 m.state) node (subst (λ (t : Setup). Makes t on.0 on.1.0 (state_of before.memory)) setup on.1.1.makes);
      left = λ content may. inl (subst (λ (t : Setup). Has t content on.0 on.1.0) setup
          (subst (λ (c : Content). Has before.memory.setup c on.0 on.1.0) (sym (is_content content may)) on.1.1.has));
    },
  )
    where
      same_log : now.log ≡ before.log
      same_log = h.full_log refl

      is_content : (content : Content) → MayLeave (history now.log.disk).now content → content ≡ (history before.log.disk).now.content
      is_content content may = fun_ext (λ place. kept place)
        where
          old : MayLeave (history before.log.disk).now content
          old = subst (λ (l : Log D). MayLeave (history l.disk).now content) same_log may

          kept : (place : ℕ) → content place ≡ (history before.log.disk).now.content place
          kept place = old.same place (ap (λ (ranges : List (ℕ × ℕ)). is_pending ranges place) on.1.1.logged.ready.safe)

  -- ---- one that goes down

  abbrev down : MemorySlot D G
  down = record { node = now; is_down = true }

  pub fell_site : (R : Type 0) (fault : NodeFault) (slot : MemorySlot D G) (handled : Fate) (s : Setup) (n : MemoryNode) (k : ℕ) → Handled R (Err fault) → FallsBy fault handled
      → slot ≡ down → setup_of before ≡ s → IsAt s slot (site_after k n x handled)
  fell_site R fault slot handled s n k h falls is setup =
      subst (λ (sl : MemorySlot D G). IsAt s sl (site_after k n x handled)) (sym is) (go fault falls)
    where
      same : setup_of now ≡ s
      same = h.setup ∙ setup

      go : (f : NodeFault) → FallsBy f handled → IsAt s down (site_after k n x handled)
      go Down falls_ = subst (λ (hd : Fate). IsAt s down (site_after k n x hd)) (sym falls_) (refl, same)
      go Full falls_ = subst (λ (hd : Fate). IsAt s down (site_after k n x hd)) (sym falls_) (refl, same)
      go Other falls_ = subst (λ (hd : Fate). IsAt s down (site_after k n x hd)) (sym falls_) (refl, same)
      go (Damaged at) falls_ = subst (λ (hd : Fate). IsAt s down (site_after k n x hd)) (sym falls_) (refl, same)
      go NoMemory falls_ = absurd falls_

  pub fell_answers : (fault : NodeFault) (handled : Fate) (n : MemoryNode) → FallsBy fault handled → Answers n x handled
  fell_answers Down handled n falls = subst (λ (hd : Fate). Answers n x hd) (sym falls) tt
  fell_answers Full handled n falls = subst (λ (hd : Fate). Answers n x hd) (sym falls) tt
  fell_answers Other handled n falls = subst (λ (hd : Fate). Answers n x hd) (sym falls) tt
  fell_answers (Damaged at) handled n falls = subst (λ (hd : Fate). Answers n x hd) (sym falls) tt
  fell_answers NoMemory handled n falls = absurd falls

  pub fell_rests : (R : Type 0) (fault : NodeFault) (slot : MemorySlot D G) (handled : Fate) (s : Setup) (n : MemoryNode) (k : ℕ) (posted : List Posted) (p : Posted) → Handled R (Err fault)
      → FallsBy fault handled → slot ≡ down → setup_of before ≡ s → node_of before ≡ n → numbered posted k ≡ Some p → p.message ≡ x → IsOnDisk tells history health before
      → RestsAt tells history health s posted slot (site_after k n x handled)
  fell_rests R fault slot handled s n k posted p h falls is setup node at same on =
      subst (λ (sl : MemorySlot D G). RestsAt tells history health s posted sl (site_after k n x handled)) (sym is) (go fault h falls)
    where
      go : (f : NodeFault) → Handled R (Err f) → FallsBy f handled → RestsAt tells history health s posted down (site_after k n x handled)
      go Down h_ falls_ = subst (λ (hd : Fate). RestsAt tells history health s posted down (site_after k n x hd)) (sym falls_) (fault_rests R (Err Down) s n k posted p h_ setup node at same on)
      go Full h_ falls_ = subst (λ (hd : Fate). RestsAt tells history health s posted down (site_after k n x hd)) (sym falls_) (full_rests R s n posted h_ setup node on)
      go Other h_ falls_ = absurd h_.causes
      go (Damaged at_) h_ falls_ = absurd h_.causes
      go NoMemory h_ falls_ = absurd falls_

  -- ---- all of it, at a refusal

  abbrev pub Fell_ : NodeFault → MemorySlot D G → Fate → Type 0
  Fell_ fault slot handled = FallsBy fault handled × (slot ≡ down)

  abbrev pub was : Bool → MemorySlot D G
  was is_down = record { node = before; is_down = is_down }

  pub refused_site : (R E : Type 0) (fault : NodeFault) (slot : MemorySlot D G) (is_down : Bool) (r : Result Fate E) → Handled R (Err fault) → IfOk r (Fell_ fault slot)
      → IfOk r (λ (handled : Fate). (s : Setup) (n : MemoryNode) (k : ℕ) → IsAt s (was is_down) (Up n) → IsAt s slot (site_after k n x handled))
  refused_site R E fault slot is_down r h fell =
      IfOk-weaker r (Fell_ fault slot) (λ (handled : Fate). (s : Setup) (n : MemoryNode) (k : ℕ) → IsAt s (was is_down) (Up n) → IsAt s slot (site_after k n x handled))
      (λ handled fact s n k at. fell_site R fault slot handled s n k h fact.0 fact.1 at.1) fell

  pub refused_answers : (R E : Type 0) (fault : NodeFault) (slot : MemorySlot D G) (is_down : Bool) (r : Result Fate E) → Handled R (Err fault) → IfOk r (Fell_ fault slot)
      → IfOk r (λ (handled : Fate). (s : Setup) (n : MemoryNode) → IsAt s (was is_down) (Up n) → Answers n x handled)
  refused_answers R E fault slot is_down r h fell =
      IfOk-weaker r (Fell_ fault slot) (λ (handled : Fate). (s : Setup) (n : MemoryNode) → IsAt s (was is_down) (Up n) → Answers n x handled)
      (λ handled fact s n at. fell_answers fault handled n fact.0) fell

  pub refused_rests : (R E : Type 0) (fault : NodeFault) (slot : MemorySlot D G) (is_down : Bool) (r : Result Fate E) → Handled R (Err fault) → IfOk r (Fell_ fault slot)
      → IfOk r (λ (handled : Fate). (s : Setup) (n : MemoryNode) (k : ℕ) (posted : List Posted) (p : Posted) → IsAt s (was is_down) (Up n) → numbered posted k ≡ Some p → p.message ≡ x
      → RestsAt tells history health s posted (was is_down) (Up n) → RestsAt tells history health s posted slot (site_after k n x handled))
  refused_rests R E fault slot is_down r h fell =
      IfOk-weaker r (Fell_ fault slot)
      (λ (handled : Fate). (s : Setup) (n : MemoryNode) (k : ℕ) (posted : List Posted) (p : Posted) → IsAt s (was is_down) (Up n) → numbered posted k ≡ Some p → p.message ≡ x
      → RestsAt tells history health s posted (was is_down) (Up n) → RestsAt tells history health s posted slot (site_after k n x handled))
      (λ handled fact s n k posted p at there same on. fell_rests R fault slot handled s n k posted p h fact.0 fact.1 at.1 at.2 there same on) fell
