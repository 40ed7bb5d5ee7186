-- What a rule does is what the machine does by it.
use Rattle.std.proofs.Common.{◌≡◌, ℕ, Bool, true, false, cond, List, [], ◌∷◌, map, length, Option, Some, None, refl, sym, ap, subst, ◌∙◌, arith}
use Rattle.std.proofs.lemmas.Bool.{le-leb, lt-leb}
use Rattle.mini_tx.specs.declared.cut_id.CutId.{CutId}
use Rattle.mini_tx.specs.declared.entry.Entry.{Entry}
use Rattle.mini_tx.specs.declared.entry.Entry.TheVariants as entry
use Rattle.mini_tx.specs.declared.message.Message.TheVariants.{Voted}
use Rattle.mini_tx.specs.declared.placed_item.PlacedItem.{PlacedItem}
use Rattle.mini_tx.specs.declared.tx_id.TxId.{TxId}
use Rattle.mini_tx.specs.declared.vote.Vote.{Vote}
use Rattle.mini_tx.specs.declared.vote.Vote.TheVariants as vote
use Rattle.mini_tx.specs.EntryGrammar.{is_granted}
use Rattle.mem_rules.specs.declared.difference.Difference.{Difference}
use Rattle.mem_rules.specs.declared.floor.Floor.{Floor}
use Rattle.mem_rules.specs.declared.kept.Kept.{Kept}
use Rattle.mem_rules.specs.declared.rule.Rule.{Rule}
use Rattle.mem_rules.specs.declared.rule.Rule.TheVariants.{RecordAgain, FloorAgain, ForcedBy, HeldBy, LockedBy, MismatchAt, Passes}
use Rattle.mem_rules.specs.declared.standing.Standing.TheVariants.{Above, At, Below}
use Rattle.mem_rules.specs.Identifiers.{precedes, is_same}
use Rattle.mem_rules.specs.Items.{first_difference, range_of}
use Rattle.mem_rules.specs.Items as node_items
use Rattle.mem_rules.specs.Rules as node
use Rattle.mem_rules.specs.State.{floor_at, kept_of}
use Rattle.tx_rules.specs.Mini.{Setting, IsFresh, is_logged, has_several, nodes_of, reads_of}
use Rattle.tx_rules.specs.Decision.{Reason, Held, Locked, Mismatch, Grant, Refuse, Commit}
use Rattle.tx_rules.specs.World.{Message, Granted, Looked, Refused}
use Rattle.tx_actors.specs.Node as machine
use Rattle.mem_laws.specs.Cells.{number, cut_number}
use Rattle.mem_laws.specs.Shown.{reason_of, bytes_of, IsShownVote, cut_held, shown_rule, posted, records_of, IsShownReaction}
use Rattle.mem_laws.specs.Laws.{IsAsked}
use Rattle.mem_laws.proofs.CellLemmas.{number_same}
use Rattle.mem_laws.proofs.RuleLemmas.{find-In, within, rule_is}
use Rattle.mem_laws.proofs.WantLemmas.{reads_are}

-- whether there are several participants
pub several_is : (nodes : List ℕ) → has_several nodes ≡ node.has_several nodes
several_is [] = sym (lt-leb 2 0 (omega arith))
several_is (m ∷ []) = sym (lt-leb 2 1 (omega arith))
several_is (m ∷ n ∷ nodes) = sym (le-leb 2 (length (m ∷ n ∷ nodes)) (omega arith))

module _ (s : Setting) (m : ℕ) (n : node.Node) (v : machine.View) (id : TxId) (participants : List ℕ) (items : List PlacedItem) (asked : IsAsked s m n v id participants items) where
  abbrev t : ℕ
  t = number id

  -- ---- votes that are sent again

  -- a Granted vote is posted with the bytes that were seen
  granted_again : (x : Vote) → is_granted x ≡ true → IsShownVote s m v id x → posted m t (is_logged (s.mini t)) x ≡ Granted m t (reads_of s t m (v.seen t))
  granted_again (vote.Granted reads) is shown =
      let both = shown refl asked.fresh in
      ap (λ b. cond b (Granted m t reads) (Looked m t reads)) both.0 ∙ ap (Granted m t) both.1
  granted_again (vote.Mismatch place kept) is shown = absurd cc
  granted_again (vote.Locked holder) is shown = absurd cc
  granted_again (vote.Forced floor) is shown = absurd cc
  granted_again (vote.Held cut) is shown = absurd cc

  -- what is known of a rule that sends a vote again
  abbrev IsKnown : Rule → Type 0
  IsKnown (RecordAgain x) = (is_granted x ≡ true) × IsShownVote s m v id x
  IsKnown (FloorAgain x) = IsShownVote s m v id x
  IsKnown (ForcedBy floor) = Unit {0}
  IsKnown (HeldBy cut) = Unit {0}
  IsKnown (LockedBy holder) = Unit {0}
  IsKnown (MismatchAt difference) = Unit {0}
  IsKnown Passes = Unit {0}

  -- one identifier has one number
  moved : (a : TxId) (x : Vote) → number a ≡ t → IsShownVote s m v a x → IsShownVote s m v id x
  moved a x e shown = subst (λ u. is_granted x ≡ true → IsFresh s u → (is_logged (s.mini u) ≡ true) × (bytes_of x ≡ reads_of s u m (v.seen u))) e shown

  known_above : IsKnown (node.rule_above n items)
  known_above = by_cut (node.held_cut n.copy) (node.least_holder n.state (map range_of items)) (first_difference n.state.image items)
    where
      by_items : (d : Option Difference) → IsKnown (node.rule_by_items d)
      by_items None = tt
      by_items (Some d) = tt

      by_locks : (a : Option TxId) (d : Option Difference) → IsKnown (node.rule_by_locks a d)
      by_locks None d = by_items d
      by_locks (Some holder) d = tt

      by_cut : (c : Option CutId) (a : Option TxId) (d : Option Difference) → IsKnown (node.rule_by_cut c a d)
      by_cut None a d = by_locks a d
      by_cut (Some cut) a d = tt

  known_by_floor : (floor : Option Floor) → floor_at n.state.floors id.coord ≡ floor → IsKnown (node.rule_by_floor (node.to_floor floor id) (node.rule_above n items))
  known_by_floor None is = known_above
  known_by_floor (Some floor) is = go (precedes floor.id id) (is_same floor.id id) refl
    where
      go : (a b : Bool) → is_same floor.id id ≡ b → IsKnown (node.rule_by_floor (cond a Above (cond b (At floor.vote) (Below floor.id))) (node.rule_above n items))
      go true b e = known_above
      go false true e = moved floor.id floor.vote (number_same floor.id id e) (asked.shows.votes id.coord floor is).1
      go false false e = tt

  known : IsKnown (node.rule_for n id items)
  known = by_record (kept_of n.state.kept id) refl (known_by_floor (floor_at n.state.floors id.coord) refl)
    where
      by_record : (kept : Option Kept) → kept_of n.state.kept id ≡ kept → IsKnown (node.rule_by_floor (node.standing n.state id) (node.rule_above n items))
          → IsKnown (node.rule_by_record kept (node.rule_by_floor (node.standing n.state id) (node.rule_above n items)))
      by_record None is rest = rest
      by_record (Some k) is rest =
          let found = find-In (λ (x : Kept). is_same x.id id) k n.state.kept is in
          let shown = asked.shows.records k found.0 in
          (shown.granted, moved k.id k.vote (number_same k.id id found.1) shown.vote)

  -- ---- new votes

  -- any other vote than Granted
  pub record IsRefusal (x : Vote) (why : Reason) : Type 0 where
    pub posted_as : posted m t (is_logged (s.mini t)) x ≡ Refused m t why
    pub entry_is : node.entry_of_vote id participants items x ≡ entry.Refused id x
    pub reason : reason_of x ≡ Some why

  refuses_is : (x : Vote) (why : Reason) → IsRefusal x why → IsShownReaction s m id (node.casts n id participants items x) (machine.refuses s m t why)
  refuses_is x why is =
      subst (λ b. IsShownReaction s m id (node.casts n id participants items x) (cond b with_entry without)) (sym asked.told.logged) (go (node.is_logged participants items))
    where
      with_entry : machine.Reaction
      with_entry = record { appends = Refuse t why ∷ []; posts = Refused m t why ∷ [] }

      without : machine.Reaction
      without = machine.answers (Refused m t why)

      go : (b : Bool) → IsShownReaction s m id (cond b (node.appends n (node.entry_of_vote id participants items x) (Voted id x)) (node.answers n (Voted id x))) (cond b with_entry without)
      go true = record {
        vote = x;
        voted = refl;
        appends = ap (λ (o : Option Reason). machine.cast_as o t ∷ []) (sym is.reason) ∙ ap (λ (e : Entry). records_of (Some e)) (sym is.entry_is);
        posts = ap (λ (p : Message). p ∷ []) (sym is.posted_as);
      }
      go false = record { vote = x; voted = refl; appends = refl; posts = ap (λ (p : Message). p ∷ []) (sym is.posted_as) }

  -- Granted, with the bytes as they are before the writes
  grants_is : IsShownReaction s m id (node.casts n id participants items (vote.Granted (node_items.reads_of n.state.image items))) (machine.grants s m v t)
  grants_is =
      subst (λ bytes. IsShownReaction s m id (node.casts n id participants items x) (G (is_logged (s.mini t)) (has_several (nodes_of s t)) bytes)) (sym read)
      (subst (λ b. IsShownReaction s m id (node.casts n id participants items x) (G (is_logged (s.mini t)) b found)) (sym several)
      (go (node.is_logged participants items) (node.has_several participants) asked.told.logged))
    where
      found : List (List ℕ)
      found = node_items.reads_of n.state.image items

      x : Vote
      x = vote.Granted (node_items.reads_of n.state.image items)

      read : reads_of s t m v.image ≡ node_items.reads_of n.state.image items
      read = ap (map (map v.image)) asked.told.read ∙ sym (reads_are n.state.image v.image asked.shows.image items (within s m n v id participants items asked))

      several : has_several (nodes_of s t) ≡ node.has_several participants
      several = ap has_several asked.told.nodes ∙ several_is participants

      G : Bool → Bool → List (List ℕ) → machine.Reaction
      G logged b bytes =
          cond logged (record { appends = Grant t ∷ cond b [] (Commit t ∷ []); posts = Granted m t bytes ∷ [] }) (machine.answers (Looked m t bytes))

      go : (a b : Bool) → is_logged (s.mini t) ≡ a
          → IsShownReaction s m id (cond a (node.appends n (cond b (entry.Prepared id participants x (map range_of items) (node_items.writes_of items)) (entry.Single id x (node_items.writes_of items))) (Voted id x)) (node.answers n (Voted id x)))
          (G (is_logged (s.mini t)) b found)
      go true true is = subst (λ c. IsShownReaction s m id (node.appends n (entry.Prepared id participants x (map range_of items) (node_items.writes_of items)) (Voted id x)) (G c true found)) (sym is)
          record { vote = x; voted = refl; appends = refl; posts = ap (λ c. cond c (Granted m t found) (Looked m t found) ∷ []) (sym is) }
      go true false is = subst (λ c. IsShownReaction s m id (node.appends n (entry.Single id x (node_items.writes_of items)) (Voted id x)) (G c false found)) (sym is)
          record { vote = x; voted = refl; appends = refl; posts = ap (λ c. cond c (Granted m t found) (Looked m t found) ∷ []) (sym is) }
      go false b is = subst (λ c. IsShownReaction s m id (node.answers n (Voted id x)) (G c b found)) (sym is)
          record { vote = x; voted = refl; appends = refl; posts = ap (λ c. cond c (Granted m t found) (Looked m t found) ∷ []) (sym is) }

  -- ---- each rule

  by_rule_is : (r : Rule) → IsKnown r → IsShownReaction s m id (node.by_rule n id participants items r) (machine.by_rule s m v t (shown_rule r))
  by_rule_is (RecordAgain y) told = record { vote = y; voted = refl; appends = refl; posts = ap (λ (p : Message). p ∷ []) (sym (granted_again y told.0 told.1)) }
  by_rule_is (FloorAgain (vote.Granted reads)) told =
      record { vote = vote.Granted reads; voted = refl; appends = refl; posts = ap (λ (p : Message). p ∷ []) (sym (granted_again (vote.Granted reads) refl told)) }
  by_rule_is (FloorAgain (vote.Mismatch place kept)) told = record { vote = vote.Mismatch place kept; voted = refl; appends = refl; posts = refl }
  by_rule_is (FloorAgain (vote.Locked holder)) told = record { vote = vote.Locked holder; voted = refl; appends = refl; posts = refl }
  by_rule_is (FloorAgain (vote.Forced floor)) told = record { vote = vote.Forced floor; voted = refl; appends = refl; posts = refl }
  by_rule_is (FloorAgain (vote.Held cut)) told = record { vote = vote.Held cut; voted = refl; appends = refl; posts = refl }
  by_rule_is (ForcedBy floor) told = record { vote = vote.Forced floor; voted = refl; appends = refl; posts = refl }
  by_rule_is (HeldBy cut) told = refuses_is (vote.Held cut) (Held (cut_number cut)) record { posted_as = refl; entry_is = refl; reason = refl }
  by_rule_is (LockedBy holder) told = refuses_is (vote.Locked holder) (Locked (number holder)) record { posted_as = refl; entry_is = refl; reason = refl }
  by_rule_is (MismatchAt d) told = refuses_is (vote.Mismatch d.place d.kept) (Mismatch d.place) record { posted_as = refl; entry_is = refl; reason = refl }
  by_rule_is Passes told = grants_is

  pub vote_is : IsShownReaction s m id (node.on_prepare n id participants items) (machine.on_prepare s m (cut_held n.copy) v t)
  vote_is =
      subst (λ (r : machine.Rule). IsShownReaction s m id (node.on_prepare n id participants items) (machine.by_rule s m v t r)) (sym (rule_is s m n v id participants items asked))
      (by_rule_is (node.rule_for n id items) known)
