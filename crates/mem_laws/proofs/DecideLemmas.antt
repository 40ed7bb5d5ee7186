-- What a memory node does with decisions, and where it is asked, is what the machine does.
use Rattle.std.proofs.Common.{◌≡◌, ℕ, ◌==◌, Bool, true, false, not, cond, ◌&&◌, [], ◌∷◌, Option, Some, None, is_some, refl, sym, ap, subst, ◌∙◌, arith}
use Rattle.std.proofs.lemmas.Bool.{and_parts, false_from_ne_true}
use Rattle.mini_tx.specs.declared.entry.Entry.TheVariants as entry
use Rattle.mini_tx.specs.declared.message.Message.TheVariants as sent
use Rattle.mini_tx.specs.declared.tx_id.TxId.{TxId}
use Rattle.mini_tx.specs.declared.vote.Vote.{Vote}
use Rattle.mini_tx.specs.declared.vote.Vote.TheVariants as vote
use Rattle.mini_tx.specs.EntryGrammar.{is_granted}
use Rattle.mem_rules.specs.declared.floor.Floor.{Floor}
use Rattle.mem_rules.specs.declared.kept.Kept.{Kept}
use Rattle.mem_rules.specs.declared.standing.Standing.{Standing}
use Rattle.mem_rules.specs.declared.standing.Standing.TheVariants.{Above, At, Below}
use Rattle.mem_rules.specs.Identifiers.{precedes, is_same}
use Rattle.mem_rules.specs.Rules as node
use Rattle.mem_rules.specs.State.{floor_at, kept_of}
use Rattle.tx_rules.specs.Mini.{Setting}
use Rattle.tx_rules.specs.Decision.{Commit, Abort, Forget}
use Rattle.tx_rules.specs.World.{Done, AnswerOk, AnswerAbort}
use Rattle.tx_actors.specs.Node as machine
use Rattle.tx_actors.proofs.RecordLemmas.{has_grant-In, standing_is, StandsSo}
use Rattle.tx_actors.proofs.TestLemmas.{not_two}
use Rattle.mem_laws.specs.Cells.{number}
use Rattle.mem_laws.specs.Shown.{reason_of, shown_floor, IsSameReaction}
use Rattle.mem_laws.specs.Laws.{IsNamed, DecisionsAreTheMachines, ForgettingIsTheMachines, AnswersAreTheMachines}
use Rattle.mem_laws.proofs.CellLemmas.{order_is, sameness_is, number_same}
use Rattle.mem_laws.proofs.RuleLemmas.{find-In}
use Rattle.mem_laws.proofs.FloorLemmas.{found_in}

-- an identifier stands to its floor as its number does
abbrev pub IsShownStanding : Standing → machine.Standing → Type 0
IsShownStanding Above x = x ≡ machine.Above
IsShownStanding (At vote) x = x ≡ machine.Same (reason_of vote)
IsShownStanding (Below floor) x = x ≡ machine.Below (number floor)

module _ (s : Setting) (m : ℕ) (n : node.Node) (v : machine.View) (id : TxId) (named : IsNamed s m n.state v id) where
  abbrev t : ℕ
  t = number id

  -- ---- the floor

  to_floor_is : (floor : Option Floor) → floor_at n.state.floors id.coord ≡ floor → IsShownStanding (node.to_floor floor id) (machine.to_floor t (shown_floor floor))
  to_floor_is None is = refl
  to_floor_is (Some f) is =
      let typed = (named.shows.votes id.coord f is).0 in
      subst (λ x. G (precedes f.id id) (is_same f.id id) x (number f.id == t)) (sym (order_is f.id id typed named.typed))
      (subst (λ x. G (precedes f.id id) (is_same f.id id) (precedes f.id id) x) (sym (sameness_is f.id id typed named.typed)) (go (precedes f.id id) (is_same f.id id)))
    where
      G : Bool → Bool → Bool → Bool → Type 0
      G a b c d = IsShownStanding (cond a Above (cond b (At f.vote) (Below f.id))) (cond c machine.Above (cond d (machine.Same (reason_of f.vote)) (machine.Below (number f.id))))

      go : (a b : Bool) → G a b a b
      go true b = refl
      go false true = refl
      go false false = refl

  pub stands : IsShownStanding (node.standing n.state id) (machine.standing s v.records t)
  stands =
      subst (λ o. IsShownStanding (node.standing n.state id) (machine.to_floor t o)) (sym (ap (machine.floor_of s v.records) named.coordinator ∙ named.shows.floors id.coord))
      (to_floor_is (floor_at n.state.floors id.coord) refl)

  -- what was granted is not above its floor
  pub not_above : machine.has_grant v.records t ≡ true → machine.standing s v.records t ≡ machine.Above → ⊥
  not_above granted is =
      let below = subst (StandsSo s v.records t) is (standing_is s v.records t) in
      let less = below t (None, has_grant-In v.records t granted) refl in
      omega (arith, less)

  no_force : (x : machine.Standing) → (x ≡ machine.Above → ⊥) → machine.forced t x ≡ []
  no_force machine.Above never = absurd (never refl)
  no_force (machine.Same vote) never = refl
  no_force (machine.Below floor) never = refl

  -- ---- the record

  -- what is known of the kept record
  pub record IsFound (k : Kept) : Type 0 where
    pub kept : machine.is_kept s m v.records t ≡ true
    pub granted : machine.has_grant v.records t ≡ true
    pub undecided : machine.is_undecided v.records t ≡ node.is_undecided k

  pub found : (k : Kept) → kept_of n.state.kept id ≡ Some k → IsFound k
  found k is =
      let there = find-In (λ (x : Kept). is_same x.id id) k n.state.kept is in
      let kept : machine.is_kept s m v.records t ≡ true = named.shows.kept id named.typed ∙ ap (λ (o : Option Kept). is_some o) is in
      record {
        kept = kept;
        granted = (and_parts (machine.has_grant v.records t) _ kept).0;
        undecided = ap (machine.is_undecided v.records) (sym (number_same k.id id there.1)) ∙ (named.shows.records k there.0).undecided;
      }

  unkept : kept_of n.state.kept id ≡ None → machine.is_kept s m v.records t ≡ false
  unkept is = named.shows.kept id named.typed ∙ ap (λ (o : Option Kept). is_some o) is

  none_undecided : kept_of n.state.kept id ≡ None → machine.is_undecided v.records t ≡ false
  none_undecided is = false_from_ne_true (machine.is_undecided v.records t) (λ undecided.
      let there = named.shows.undecided t undecided in
      let k = there.0 in
      let kept = named.shows.kept k.id (named.shows.records k there.1).typed ∙ found_in k n.state.kept there.1 in
      not_two (machine.is_kept s m v.records t) (ap (machine.is_kept s m v.records) (sym there.2) ∙ kept) (unkept is))

  -- ---- decide

  abbrev Decides : Bool → node.Reaction → machine.Reaction → Type 0
  Decides commit r x = IsSameReaction r x (Some (sent.Done id)) (Done m t ∷ [])

  decided : (commit : Bool) (kept : Option Kept) → kept_of n.state.kept id ≡ kept
      → Decides commit (node.on_decide n id commit kept) (cond commit (machine.on_commit m v t) (machine.on_abort s m v t))
  decided true (Some k) is = go (node.is_undecided k) (found k is).undecided
    where
      go : (b : Bool) → machine.is_undecided v.records t ≡ b → Decides true (cond b (node.appends n (entry.Decided id true) (sent.Done id)) (node.answers n (sent.Done id))) (machine.on_commit m v t)
      go true e = record { answered = refl; appended = ap (λ b. cond b (Commit t ∷ []) []) e; posted = refl }
      go false e = record { answered = refl; appended = ap (λ b. cond b (Commit t ∷ []) []) e; posted = refl }
  decided false (Some k) is = go (node.is_undecided k) (found k is).undecided
    where
      go : (b : Bool) → machine.is_undecided v.records t ≡ b → Decides false (cond b (node.appends n (entry.Decided id false) (sent.Done id)) (node.answers n (sent.Done id))) (machine.on_abort s m v t)
      go true e = record { answered = refl; appended = ap (λ b. cond b (Abort t ∷ []) (machine.forced t (machine.standing s v.records t))) e; posted = refl }
      go false e = record {
        answered = refl;
        appended =
            ap (λ b. cond b (Abort t ∷ []) (machine.forced t (machine.standing s v.records t))) e
            ∙ no_force (machine.standing s v.records t) (not_above (found k is).granted);
        posted = refl;
      }
  decided true None is = record { answered = refl; appended = ap (λ b. cond b (Commit t ∷ []) []) (none_undecided is); posted = refl }
  decided false None is = go (node.standing n.state id) (machine.standing s v.records t) stands
    where
      none : machine.is_undecided v.records t ≡ false
      none = none_undecided is

      go : (x : Standing) (y : machine.Standing) → IsShownStanding x y
          → Decides false (node.forces n id x (sent.Done id)) (record { appends = cond (machine.is_undecided v.records t) (Abort t ∷ []) (machine.forced t y); posts = Done m t ∷ [] })
      go Above y e = record { answered = refl; appended = ap (λ b. cond b (Abort t ∷ []) (machine.forced t y)) none ∙ ap (machine.forced t) e; posted = refl }
      go (At vote) y e = record { answered = refl; appended = ap (λ b. cond b (Abort t ∷ []) (machine.forced t y)) none ∙ ap (machine.forced t) e; posted = refl }
      go (Below floor) y e = record { answered = refl; appended = ap (λ b. cond b (Abort t ∷ []) (machine.forced t y)) none ∙ ap (machine.forced t) e; posted = refl }

  -- ---- forget

  forgets : (kept : Option Kept) → kept_of n.state.kept id ≡ kept → IsSameReaction (node.on_forget n id kept) (machine.on_forget s m v t) None []
  forgets (Some k) is = go (node.is_undecided k) (machine.has_decision v.records t) undecided
    where
      undecided : not (machine.has_decision v.records t) ≡ node.is_undecided k
      undecided = ap (λ b. b && not (machine.has_decision v.records t)) (sym (found k is).granted) ∙ (found k is).undecided

      go : (b d : Bool) → not d ≡ b
          → IsSameReaction (cond b (node.silent n) (record { entry = Some (entry.Forgotten id); answer = None; copy = n.copy }))
          (record { appends = cond (machine.is_kept s m v.records t && d) (Forget t ∷ []) []; posts = [] }) None []
      go true false e = record { answered = refl; appended = ap (λ b. cond (b && false) (Forget t ∷ []) []) (found k is).kept; posted = refl }
      go false true e = record { answered = refl; appended = ap (λ b. cond (b && true) (Forget t ∷ []) []) (found k is).kept; posted = refl }
      go true true e = absurd cc
      go false false e = absurd cc
  forgets None is = record { answered = refl; appended = ap (λ b. cond (b && machine.has_decision v.records t) (Forget t ∷ []) []) (unkept is); posted = refl }

  -- ---- ask

  abbrev Answers : node.Reaction → machine.Reaction → Type 0
  Answers r x = (ok : Bool) × IsSameReaction r x (Some (sent.Answer id ok)) (cond ok (AnswerOk m t) (AnswerAbort m t) ∷ [])

  asked : (kept : Option Kept) → kept_of n.state.kept id ≡ kept → Answers (node.on_ask n id kept) (machine.on_ask s m v t)
  asked (Some k) is =
      subst (λ b. Answers (node.answers n (sent.Answer id true)) (cond b (machine.answers (AnswerOk m t)) (machine.answers_by_floor m t (machine.standing s v.records t)))) (sym (found k is).kept)
      (true, record { answered = refl; appended = refl; posted = refl })
  asked None is =
      subst (λ b. Answers (node.by_floor_asked n id (node.standing n.state id)) (cond b (machine.answers (AnswerOk m t)) (machine.answers_by_floor m t (machine.standing s v.records t)))) (sym (unkept is))
      (go (node.standing n.state id) (machine.standing s v.records t) stands)
    where
      by_vote : (x : Vote) → Answers (node.answers n (sent.Answer id (is_granted x))) (machine.answers_by_floor m t (machine.Same (reason_of x)))
      by_vote (vote.Granted reads) = (true, record { answered = refl; appended = refl; posted = refl })
      by_vote (vote.Mismatch place kept) = (false, record { answered = refl; appended = refl; posted = refl })
      by_vote (vote.Locked holder) = (false, record { answered = refl; appended = refl; posted = refl })
      by_vote (vote.Forced floor) = (false, record { answered = refl; appended = refl; posted = refl })
      by_vote (vote.Held cut) = (false, record { answered = refl; appended = refl; posted = refl })

      go : (x : Standing) (y : machine.Standing) → IsShownStanding x y → Answers (node.by_floor_asked n id x) (machine.answers_by_floor m t y)
      go Above y e = subst (λ z. Answers (node.by_floor_asked n id Above) (machine.answers_by_floor m t z)) (sym e) (false, record { answered = refl; appended = refl; posted = refl })
      go (At x) y e = subst (λ z. Answers (node.by_floor_asked n id (At x)) (machine.answers_by_floor m t z)) (sym e) (by_vote x)
      go (Below floor) y e = subst (λ z. Answers (node.by_floor_asked n id (Below floor)) (machine.answers_by_floor m t z)) (sym e) (false, record { answered = refl; appended = refl; posted = refl })

pub decisions : DecisionsAreTheMachines
decisions s m n v id commit named = decided s m n v id named commit (kept_of n.state.kept id) refl

pub forgetting : ForgettingIsTheMachines
forgetting s m n v id named = forgets s m n v id named (kept_of n.state.kept id) refl

pub answers : AnswersAreTheMachines
answers s m n v id named = asked s m n v id named (kept_of n.state.kept id) refl
