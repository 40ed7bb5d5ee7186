-- What the manager does is allowed by the rules.
use Rattle.std.proofs.Common.{◌≡◌, ℕ, nat_lt, ◌==◌, Bool, true, false, not, cond, ◌&&◌, List, [], ◌∷◌, ◌++◌, map, filter, Option, Some, None, is_none, is_some, ◌⊎◌, inl, inr, refl, sym, subst}
use Rattle.std.proofs.lemmas.Bool.{and_parts, eqb-true}
use Rattle.tx_rules.specs.Mini.{In, Setting, nodes_of, IsLive, HasSeveral}
use Rattle.tx_rules.specs.World.{Message, Prepare, Granted, Looked, Refused, DecideCommit, DecideAbort, Done, Forgotten, ListKept, Kept, Ask, AnswerOk, AnswerAbort, World, Promises}
use Rattle.tx_rules.proofs.FaithfulLemmas.{in_either}
use Rattle.tx_rules.specs.Lists.{is_in, all_in}
use Rattle.tx_actors.specs.Coordinator.{decide}
use Rattle.tx_actors.specs.Manager.{Work, takes_up, begun_work, learn_kept, ok_noted, is_agreed, decided_as, learn_ok, is_denied, learn_abort, done_noted, is_through, learn_done, learn, again, placed_in, ascending, resend_manager}
use Rattle.tx_actors.proofs.TestLemmas.{some_is, is_in-In, all_in-In, In-filter, In-map}
use Rattle.tx_actors.proofs.FitLemmas.{MayPost, decide_plain, FitsWork, IsFineDeed}

module _ (s : Setting) (w : World) where
  -- all that it is at work on fits
  abbrev pub FitsAll : List Work → Type 0
  FitsAll work = (x : Work) → In x work → FitsWork s w x

  -- what `kept` promises of an identifier
  abbrev IsNamed : ℕ × List ℕ → Type 0
  IsNamed x = In x.0 w.begun × (IsLive s x.0 → HasSeveral s x.0 × (x.1 ≡ nodes_of s x.0))

  asks : (x : ℕ × List ℕ) → IsNamed x → Promises s w (Ask x.0)
  asks x named = (named.0, λ live. (named.1 live).0)

  begun_fits : (x : ℕ × List ℕ) → IsNamed x → FitsWork s w (begun_work x)
  begun_fits x named = record { named = λ live. (named.1 live).1; known = asks x named; oks = λ m h. absurd h; decided = λ b e. absurd cc; done = λ m h. absurd h }

  kept_fine : (work : List Work) (xs : List (ℕ × List ℕ)) → FitsAll work → ((x : ℕ × List ℕ) → In x xs → IsNamed x) → IsFineDeed s w (learn_kept work xs)
  kept_fine work [] fits known = record { now = fits; posts = λ p h. absurd h }
  kept_fine work (x ∷ xs) fits known =
      go (takes_up work x.0)
      (kept_fine (work ++ begun_work x ∷ []) xs (λ y h. elim (in_either y work (begun_work x ∷ []) h) [
        | inl before ↦ fits y before
        | inr (inl e) ↦ subst (FitsWork s w) (sym e) (begun_fits x (known x (inl refl)))
        | inr (inr none) ↦ absurd none
      ]) (λ u h. known u (inr h)))
      (kept_fine work xs fits (λ u h. known u (inr h)))
    where
      go : (b : Bool) → IsFineDeed s w (learn_kept (work ++ begun_work x ∷ []) xs) → IsFineDeed s w (learn_kept work xs)
          → IsFineDeed s w (cond b
          (record { now = (learn_kept (work ++ begun_work x ∷ []) xs).now; posts = Ask x.0 ∷ (learn_kept (work ++ begun_work x ∷ []) xs).posts })
          (learn_kept work xs))
      go true more rest = record {
        now = more.now;
        posts = λ p h. elim h [ inl e ↦ subst (MayPost s w) (sym e) (asks x (known x (inl refl)), (tt, λ v. tt)) | inr after ↦ more.posts p after ];
      }
      go false more rest = rest

  -- `answer ok`
  ok_fits : (m t : ℕ) (x : Work) → Promises s w (AnswerOk m t) → FitsWork s w x → FitsWork s w (ok_noted m t x)
  ok_fits m t x promise fit = go ((x.id == t) && is_none x.decision) refl
    where
      go : (b : Bool) → ((x.id == t) && is_none x.decision) ≡ b → FitsWork s w (cond b (record x { oks = m ∷ x.oks }) x)
      go true is =
          let same = eqb-true x.id t (and_parts (x.id == t) (is_none x.decision) is).0 in
          record {
            named = fit.named;
            known = fit.known;
            oks = λ n h. elim h [
              | inl e ↦ subst (λ k. Promises s w (AnswerOk k x.id)) (sym e) (subst (λ k. Promises s w (AnswerOk m k)) (sym same) promise)
              | inr before ↦ fit.oks n before
            ];
            decided = fit.decided;
            done = fit.done;
          }
      go false is = fit

  -- a decision that is made
  decided_fits : (commits : Bool) (test : Work → Bool) (x : Work) → (test x ≡ true → Promises s w (decide commits x.id)) → FitsWork s w x → FitsWork s w (decided_as commits test x)
  decided_fits commits test x promise fit = go (test x) refl
    where
      go : (b : Bool) → test x ≡ b → FitsWork s w (cond b (record x { decision = Some commits }) x)
      go true is = record {
        named = fit.named;
        known = fit.known;
        oks = fit.oks;
        decided = λ b e. subst (λ k. Promises s w (decide k x.id)) (some_is commits b e) (promise is);
        done = fit.done;
      }
      go false is = fit

  agreed : (x : Work) → FitsWork s w x → is_agreed x ≡ true → Promises s w (DecideCommit x.id)
  agreed x fit h =
      let all = all_in-In x.nodes x.oks (and_parts (is_none x.decision) (all_in x.nodes x.oks) h).1 in
      (fit.known.0, λ live. (fit.known.1 live, λ n is. (fit.oks n (all n (subst (In n) (sym (fit.named live)) is))).1 live))

  ok_fine : (work : List Work) (m t : ℕ) → FitsAll work → Promises s w (AnswerOk m t) → IsFineDeed s w (learn_ok work m t)
  ok_fine work m t fits promise = record {
    now = λ x h.
        let it = In-map (decided_as true is_agreed) x (map (ok_noted m t) work) h in
        subst (FitsWork s w) (sym it.2) (decided_fits true is_agreed it.0 (agreed it.0 (noted it.0 it.1)) (noted it.0 it.1));
    posts = λ p h.
        let it = In-map (λ y. DecideCommit y.id) p (filter is_agreed (map (ok_noted m t) work)) h in
        let k = In-filter is_agreed it.0 (map (ok_noted m t) work) it.1 in
        subst (MayPost s w) (sym it.2) (agreed it.0 (noted it.0 k.0) k.1, (tt, λ v. tt));
  }
    where
      noted : (x : Work) → In x (map (ok_noted m t) work) → FitsWork s w x
      noted x h = let it = In-map (ok_noted m t) x work h in subst (FitsWork s w) (sym it.2) (ok_fits m t it.0 promise (fits it.0 it.1))

  -- `answer abort`
  denied : (m t : ℕ) (x : Work) → Promises s w (AnswerAbort m t) → FitsWork s w x → is_denied m t x ≡ true → Promises s w (DecideAbort x.id)
  denied m t x promise fit h =
      let both = and_parts (x.id == t) (is_none x.decision && is_in m x.nodes) h in
      let same = eqb-true x.id t both.0 in
      let is = is_in-In m x.nodes (and_parts (is_none x.decision) (is_in m x.nodes) both.1).1 in (
        fit.known.0,
        λ live. (
          fit.known.1 live,
          elim ((subst (λ k. Promises s w (AnswerAbort m k)) (sym same) promise).1 live) [
            | inl refused ↦ inl (record { node = m; participant = subst (In m) (fit.named live) is; refused = refused })
            | inr over ↦ inr over
          ],
        ),
      )

  abort_fine : (work : List Work) (m t : ℕ) → FitsAll work → Promises s w (AnswerAbort m t) → IsFineDeed s w (learn_abort work m t)
  abort_fine work m t fits promise = record {
    now = λ x h.
        let it = In-map (decided_as false (is_denied m t)) x work h in
        subst (FitsWork s w) (sym it.2) (decided_fits false (is_denied m t) it.0 (denied m t it.0 promise (fits it.0 it.1)) (fits it.0 it.1));
    posts = λ p h.
        let it = In-map (λ y. DecideAbort y.id) p (filter (is_denied m t) work) h in
        let k = In-filter (is_denied m t) it.0 work it.1 in
        subst (MayPost s w) (sym it.2) (denied m t it.0 promise (fits it.0 k.0) k.1, (tt, λ v. tt));
  }

  -- `done`
  done_fits : (m t : ℕ) (x : Work) → Promises s w (Done m t) → FitsWork s w x → FitsWork s w (done_noted m t x)
  done_fits m t x promise fit = go ((x.id == t) && is_some x.decision) refl
    where
      go : (b : Bool) → ((x.id == t) && is_some x.decision) ≡ b → FitsWork s w (cond b (record x { done = m ∷ x.done }) x)
      go true is =
          let same = eqb-true x.id t (and_parts (x.id == t) (is_some x.decision) is).0 in
          record {
            named = fit.named;
            known = fit.known;
            oks = fit.oks;
            decided = fit.decided;
            done = λ n h. elim h [
              | inl e ↦ subst (λ k. Promises s w (Done k x.id)) (sym e) (subst (λ k. Promises s w (Done m k)) (sym same) promise)
              | inr before ↦ fit.done n before
            ];
          }
      go false is = fit

  done_fine : (work : List Work) (m t : ℕ) → FitsAll work → Promises s w (Done m t) → IsFineDeed s w (learn_done work m t)
  done_fine work m t fits promise = record {
    now = λ x h. noted x (In-filter (λ y. not (is_through y)) x (map (done_noted m t) work) h).0;
    posts = λ p h.
        let it = In-map (λ y. Forgotten y.id) p (filter is_through (map (done_noted m t) work)) h in
        let k = In-filter is_through it.0 (map (done_noted m t) work) it.1 in
        let fit = noted it.0 k.0 in
        let all = all_in-In it.0.nodes it.0.done (and_parts (is_some it.0.decision) (all_in it.0.nodes it.0.done) k.1).1 in
        subst (MayPost s w) (sym it.2) ((fit.known.0, λ live n is. (fit.done n (all n (subst (In n) (sym (fit.named live)) is))).1 live), (tt, λ v. tt));
  }
    where
      noted : (x : Work) → In x (map (done_noted m t) work) → FitsWork s w x
      noted x h = let it = In-map (done_noted m t) x work h in subst (FitsWork s w) (sym it.2) (done_fits m t it.0 promise (fits it.0 it.1))

  still_fine : (work : List Work) → FitsAll work → IsFineDeed s w (record { now = work; posts = [] })
  still_fine work fits = record { now = fits; posts = λ p h. absurd h }

  pub learn_fine : (work : List Work) (p : Message) → FitsAll work → Promises s w p → IsFineDeed s w (learn work p)
  learn_fine work (Kept m ts) fits promise = kept_fine work ts fits promise
  learn_fine work (AnswerOk m t) fits promise = ok_fine work m t fits promise
  learn_fine work (AnswerAbort m t) fits promise = abort_fine work m t fits promise
  learn_fine work (Done m t) fits promise = done_fine work m t fits promise
  learn_fine work (Prepare t) fits promise = still_fine work fits
  learn_fine work (Granted m t bytes) fits promise = still_fine work fits
  learn_fine work (Looked m t bytes) fits promise = still_fine work fits
  learn_fine work (Refused m t why) fits promise = still_fine work fits
  learn_fine work (DecideCommit t) fits promise = still_fine work fits
  learn_fine work (DecideAbort t) fits promise = still_fine work fits
  learn_fine work (Forgotten t) fits promise = still_fine work fits
  learn_fine work ListKept fits promise = still_fine work fits
  learn_fine work (Ask t) fits promise = still_fine work fits

  again_may : (x : Work) → FitsWork s w x → (o : Option Bool) → x.decision ≡ o → MayPost s w (again x o)
  again_may x fit None is = (fit.known, (tt, λ v. tt))
  again_may x fit (Some commits) is = (fit.decided commits is, decide_plain s commits x.id)

  In-placed_in : (x y : Work) (work : List Work) → In x (placed_in y work) → (x ≡ y) ⊎ In x work
  In-placed_in x y [] h = h
  In-placed_in x y (z ∷ work) h = go (nat_lt z.id y.id) (In-placed_in x y work) h
    where
      go : (b : Bool) → (In x (placed_in y work) → (x ≡ y) ⊎ In x work) → In x (cond b (z ∷ placed_in y work) (y ∷ z ∷ work)) → (x ≡ y) ⊎ ((x ≡ z) ⊎ In x work)
      go true rest k = elim k [
        | inl e ↦ inr (inl e)
        | inr later ↦ elim (rest later) [ inl e ↦ inl e | inr i ↦ inr (inr i) ]
      ]
      go false rest k = k

  In-ascending : (x : Work) (work : List Work) → In x (ascending work) → In x work
  In-ascending x [] h = h
  In-ascending x (y ∷ work) h = elim (In-placed_in x y (ascending work) h) [ inl e ↦ inl e | inr rest ↦ inr (In-ascending x work rest) ]

  pub resend_manager_fine : (work : List Work) → FitsAll work → IsFineDeed s w (record { now = work; posts = resend_manager work })
  resend_manager_fine work fits = record {
    now = fits;
    posts = λ p h.
        let it = In-map (λ y. again y y.decision) p (ascending work) h in
        subst (MayPost s w) (sym it.2) (again_may it.0 (fits it.0 (In-ascending it.0 work it.1)) it.0.decision refl);
  }
