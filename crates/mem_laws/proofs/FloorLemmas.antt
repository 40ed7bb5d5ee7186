-- What a vote leaves of the floors, and any other vote than Granted of all.
use Rattle.std.proofs.Common.{◌≡◌, ℕ, nat_lt, ◌==◌, Bool, true, false, cond, List, [], ◌∷◌, Option, Some, None, is_some, inl, inr, refl, sym, ap, subst, ◌∙◌}
use Rattle.std.proofs.lemmas.Bool.{cases_eq, eq-eqb, ne_eqb, and_from}
use Rattle.std.proofs.lemmas.List.{get_or-set_same, get_or-set_other}
use Rattle.mini_tx.specs.declared.entry.Entry.TheVariants as entry
use Rattle.mini_tx.specs.declared.tx_id.TxId.{TxId}
use Rattle.mini_tx.specs.declared.vote.Vote.{Vote}
use Rattle.mini_tx.specs.declared.vote.Vote.TheVariants as vote
use Rattle.mini_tx.specs.EntryGrammar.{is_granted}
use Rattle.mini_tx.specs.Laws.{IsTypedId}
use Rattle.mem_rules.specs.declared.floor.Floor.{Floor}
use Rattle.mem_rules.specs.declared.kept.Kept.{Kept}
use Rattle.mem_rules.specs.declared.standing.Standing.TheVariants.{Above, At, Below}
use Rattle.mem_rules.specs.Identifiers.{precedes, is_same}
use Rattle.mem_rules.specs.Rules as node
use Rattle.mem_rules.specs.State.{floor_at, raised, raise, kept_of, after_one}
use Rattle.tx_rules.specs.Mini.{In, Setting}
use Rattle.tx_rules.specs.Decision.{Reason, Forced, Held, Locked, Mismatch, Record, Refuse}
use Rattle.tx_actors.specs.Node as machine
use Rattle.tx_actors.specs.Node.{after_record}
use Rattle.tx_actors.proofs.LawLemmas.{floors_are_greatest}
use Rattle.tx_actors.proofs.TestLemmas.{not_two}
use Rattle.mem_laws.specs.Cells.{number, cut_number}
use Rattle.mem_laws.specs.Shown.{reason_of, shown_floor, IsShownVote, Shows}
use Rattle.mem_laws.specs.Laws.{IsNamed}
use Rattle.mem_laws.proofs.CellLemmas.{order_is}

pub same_self : (a : TxId) → is_same a a ≡ true
same_self a =
    and_from (a.coord == a.coord) _ (eq-eqb a.coord a.coord refl) (and_from (a.boot == a.boot) _ (eq-eqb a.boot a.boot refl) (eq-eqb a.seq a.seq refl))

pub found_in : (k : Kept) (kept : List Kept) → In k kept → is_some (kept_of kept k.id) ≡ true
found_in k [] h = absurd h
found_in k (y ∷ kept) h = elim h [
  | inl e ↦ ap (λ b. is_some (cond b (Some y) (kept_of kept k.id))) (ap (λ (z : Kept). is_same z.id k.id) (sym e) ∙ same_self k.id)
  | inr rest ↦ go (is_same y.id k.id) (found_in k kept rest)
]
  where
    go : (b : Bool) → is_some (kept_of kept k.id) ≡ true → is_some (cond b (Some y) (kept_of kept k.id)) ≡ true
    go true later = refl
    go false later = later

abbrev choose : Bool → ℕ × Option Reason → ℕ × Option Reason → Option (ℕ × Option Reason)
choose b x y = cond b (Some x) (Some y)

some_same : (a b : Floor) → Some a ≡ Some b → a ≡ b
some_same a b e = cc

module _ (s : Setting) (m : ℕ) (n : node.Node) (v : machine.View) (id : TxId) (named : IsNamed s m n.state v id) where
  abbrev t : ℕ
  t = number id

  -- ---- floors

  raised_is : (floor : Option Floor) → ((f : Floor) → floor ≡ Some f → IsTypedId f.id) → (x : Vote)
      → machine.raised t (reason_of x) (shown_floor floor) ≡ shown_floor (raised floor id x)
  raised_is None typed x = refl
  raised_is (Some f) typed x = go (nat_lt (number f.id) t) (precedes f.id id) (order_is f.id id (typed f refl) named.typed)
    where
      go : (a b : Bool) → a ≡ b → choose a (t, reason_of x) (number f.id, reason_of f.vote) ≡ shown_floor (cond b (Some (record { id = id; vote = x })) (Some f))
      go true true e = refl
      go false false e = refl
      go true false e = absurd cc
      go false true e = absurd cc

  pub floor_moves : (x : Vote) (c : ℕ) → cond (s.coord t == c) (machine.raised t (reason_of x) (machine.floor_of s v.records c)) (machine.floor_of s v.records c)
      ≡ shown_floor (floor_at (raise n.state.floors id x) c)
  floor_moves x c = elim (cases_eq c id.coord) [
    | inl e ↦
        ap (λ b. cond b (machine.raised t (reason_of x) (machine.floor_of s v.records c)) (machine.floor_of s v.records c)) (eq-eqb (s.coord t) c (named.coordinator ∙ sym e))
        ∙ ap (machine.raised t (reason_of x)) (named.shows.floors c)
        ∙ ap (λ k. machine.raised t (reason_of x) (shown_floor (floor_at n.state.floors k))) e
        ∙ raised_is (floor_at n.state.floors id.coord) (λ f is. (named.shows.votes id.coord f is).0) x
        ∙ ap shown_floor (sym (get_or-set_same n.state.floors id.coord (raised (floor_at n.state.floors id.coord) id x) None named.known))
        ∙ ap (λ k. shown_floor (floor_at (raise n.state.floors id x) k)) (sym e)
    | inr other ↦
        ap (λ b. cond b (machine.raised t (reason_of x) (machine.floor_of s v.records c)) (machine.floor_of s v.records c))
        (ne_eqb (s.coord t) c (λ is. other (sym is ∙ named.coordinator)))
        ∙ named.shows.floors c ∙ ap shown_floor (sym (get_or-set_other n.state.floors id.coord c (raised (floor_at n.state.floors id.coord) id x) None other))
  ]

  above_raised : (floor : Option Floor) → node.to_floor floor id ≡ Above → (x : Vote) → raised floor id x ≡ Some (record { id = id; vote = x })
  above_raised None above x = refl
  above_raised (Some f) above x = go (precedes f.id id) (is_same f.id id) above
    where
      go : (a b : Bool) → cond a Above (cond b (At f.vote) (Below f.id)) ≡ Above → cond a (Some (record { id = id; vote = x })) (Some f) ≡ Some (record { id = id; vote = x })
      go true b is = refl
      go false true is = absurd cc
      go false false is = absurd cc

  -- each floor's vote shows where the new one does, and those of the other coordinators do
  pub votes_after : (u : machine.View) (x : Vote) → node.standing n.state id ≡ Above → IsShownVote s m u id x
      → ((c : ℕ) (f : Floor) → floor_at n.state.floors c ≡ Some f → (c ≡ id.coord → ⊥) → IsShownVote s m u f.id f.vote)
      → (c : ℕ) (f : Floor) → floor_at (raise n.state.floors id x) c ≡ Some f → IsTypedId f.id × IsShownVote s m u f.id f.vote
  votes_after u x above new old c f is = elim (cases_eq c id.coord) [
    | inl e ↦
        let now : Some (record { id = id; vote = x }) ≡ Some f =
        sym (above_raised (floor_at n.state.floors id.coord) above x)
        ∙ sym (get_or-set_same n.state.floors id.coord (raised (floor_at n.state.floors id.coord) id x) None named.known)
        ∙ ap (floor_at (raise n.state.floors id x)) (sym e) ∙ is in
        subst (λ (g : Floor). IsTypedId g.id × IsShownVote s m u g.id g.vote) (some_same (record { id = id; vote = x }) f now) (named.typed, new)
    | inr other ↦
        let was : floor_at n.state.floors c ≡ Some f =
        sym (get_or-set_other n.state.floors id.coord c (raised (floor_at n.state.floors id.coord) id x) None other) ∙ is in
        ((named.shows.votes c f was).0, old c f was other)
  ]

  -- a floor of another coordinator is another identifier
  pub other_number : (c : ℕ) (f : Floor) → floor_at n.state.floors c ≡ Some f → (c ≡ id.coord → ⊥) → number f.id ≡ t → ⊥
  other_number c f is other e =
      let top = (floors_are_greatest s v.records c).1 (number f.id) (reason_of f.vote) (named.shows.floors c ∙ ap shown_floor is) in
      other (sym top.1 ∙ ap s.coord e ∙ named.coordinator)

  -- ---- any other vote than Granted

  -- the machine's record of it
  abbrev refusal : Vote → Record
  refusal x = machine.cast_as (reason_of x) t

  pub refused_state : (x : Vote) → is_granted x ≡ false → node.standing n.state id ≡ Above
      → Shows s m (after_one n.state (Some (entry.Refused id x))) (after_record s m v (refusal x))
  refused_state x is above = go x is (floor_moves x)
      (λ u. votes_after u x above (λ granted. absurd (not_two (is_granted x) granted is)))
    where
      shows : (x : Vote) (why : Reason) → ((c : ℕ) → cond (s.coord t == c) (machine.raised t (Some why) (machine.floor_of s v.records c)) (machine.floor_of s v.records c)
          ≡ shown_floor (floor_at (raise n.state.floors id x) c))
          → ((u : machine.View) → ((c : ℕ) (f : Floor) → floor_at n.state.floors c ≡ Some f → (c ≡ id.coord → ⊥) → IsShownVote s m u f.id f.vote)
          → (c : ℕ) (f : Floor) → floor_at (raise n.state.floors id x) c ≡ Some f → IsTypedId f.id × IsShownVote s m u f.id f.vote)
          → Shows s m (after_one n.state (Some (entry.Refused id x))) (after_record s m v (Refuse t why))
      shows x why moves votes =
          record {
            floors = moves;
            votes = votes (after_record s m v (Refuse t why)) (λ c f was other. (named.shows.votes c f was).1);
            kept = named.shows.kept;
            ascending = named.shows.ascending;
            records = λ k h.
                let shown = named.shows.records k h in
                record {
                  typed = shown.typed;
                  granted = shown.granted;
                  vote = shown.vote;
                  participants = shown.participants;
                  undecided = shown.undecided;
                  decision = λ commit is. inr (shown.decision commit is);
                  locked = shown.locked;
                  written = shown.written;
                };
            within = named.shows.within;
            undecided = named.shows.undecided;
            granted = named.shows.granted;
            typed = named.shows.typed;
            image = named.shows.image;
          }

      go : (x : Vote) → is_granted x ≡ false
          → ((c : ℕ) → cond (s.coord t == c) (machine.raised t (reason_of x) (machine.floor_of s v.records c)) (machine.floor_of s v.records c)
          ≡ shown_floor (floor_at (raise n.state.floors id x) c))
          → ((u : machine.View) → ((c : ℕ) (f : Floor) → floor_at n.state.floors c ≡ Some f → (c ≡ id.coord → ⊥) → IsShownVote s m u f.id f.vote)
          → (c : ℕ) (f : Floor) → floor_at (raise n.state.floors id x) c ≡ Some f → IsTypedId f.id × IsShownVote s m u f.id f.vote)
          → Shows s m (after_one n.state (Some (entry.Refused id x))) (after_record s m v (machine.cast_as (reason_of x) t))
      go (vote.Granted reads) is moves votes = absurd cc
      go (vote.Mismatch place kept) is moves votes = shows (vote.Mismatch place kept) (Mismatch place) moves votes
      go (vote.Locked holder) is moves votes = shows (vote.Locked holder) (Locked (number holder)) moves votes
      go (vote.Forced floor) is moves votes = shows (vote.Forced floor) (Forced (number floor)) moves votes
      go (vote.Held cut) is moves votes = shows (vote.Held cut) (Held (cut_number cut)) moves votes
