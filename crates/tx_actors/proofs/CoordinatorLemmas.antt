-- What a coordinator does is allowed by the rules.
use Rattle.std.proofs.Common.{◌≡◌, ℕ, ◌==◌, Bool, true, false, not, cond, ◌&&◌, List, [], ◌∷◌, ◌++◌, map, filter, length, ◌-◌, Option, Some, None, ◌⊎◌, inl, inr, refl, sym, ◌∙◌, subst, arith}
use Rattle.std.proofs.lemmas.Bool.{and_parts, eqb-true, cases_Bool}
use Rattle.tx_rules.specs.Mini.{In, has_several, is_logged, Setting, nodes_of, IsReader}
use Rattle.tx_rules.specs.Decision.{Reason, IsGranted, IsCommitted, IsAborted}
use Rattle.tx_rules.specs.World.{Message, Granted, Looked, Refused, Done, Forgotten, World, Promises}
use Rattle.tx_rules.proofs.FaithfulLemmas.{IsFaithful, in_either, outdated}
use Rattle.tx_rules.specs.Lists.{is_in, all_in}
use Rattle.tx_actors.specs.Coordinator.{Running, Finishing, Coordinator, Outcome, Committed, Failed, stays, decide, newest, ended, counted, takes, hear_granted, hear_refused, noted, is_done, hear_done, give_up, prepares, resend, new_boot}
use Rattle.tx_actors.specs.Laws.{IsVote, OutcomeStands}
use Rattle.tx_actors.proofs.TestLemmas.{some_is, not_two, or_left, is_in-In, all_in-In, In-filter, In-drop, In-map}
use Rattle.tx_actors.proofs.FitLemmas.{MayPost, decide_plain, decide_begun, FitsRunning, FitsFinishing, FitsCoordinator, IsFine}

module _ (s : Setting) (w : World) (f : IsFaithful s w) (c : ℕ) (x : Coordinator) (fits : FitsCoordinator s w c x) where
  pub stays_fine : IsFine s w c (stays x)
  stays_fine = record { now = fits; posts = λ p h. absurd h; ends = λ o h. absurd h }

  -- without a running identifier
  rests : FitsCoordinator s w c (record x { running = None })
  rests = record { running = λ r is. absurd cc; finishing = fits.finishing; next = fits.next }

  pub give_up_fine : IsFine s w c (give_up x)
  give_up_fine = record { now = rests; posts = λ p h. absurd h; ends = λ o h. absurd h }

  pub new_boot_fine : IsFine s w c (new_boot x)
  new_boot_fine = record {
    now = record { running = λ r is. absurd cc; finishing = λ g h. absurd h; next = fits.next };
    posts = λ p h. absurd h;
    ends = λ o h. absurd h;
  }

  pub resend_fine : IsFine s w c (resend x)
  resend_fine = record {
    now = fits;
    posts = λ p h. elim (in_either p (prepares x.running) (map (λ g. decide g.commits g.id) x.finishing) h) [
      | inl a ↦ prepared p x.running refl a
      | inr b ↦ let it = In-map (λ g. decide g.commits g.id) p x.finishing b in
          subst (MayPost s w) (sym it.2) ((fits.finishing it.0 it.1).decided, decide_plain s it.0.commits it.0.id)
    ];
    ends = λ o h. absurd h;
  }
    where
      prepared : (p : Message) (o : Option Running) → x.running ≡ o → In p (prepares o) → MayPost s w p
      prepared p None is h = absurd h
      prepared p (Some r) is h = elim h [
        | inl e ↦ subst (MayPost s w) (sym e) (((fits.running r is).begun, (fits.running r is).fresh), (tt, λ v. tt))
        | inr none ↦ absurd none
      ]

  -- the running identifier ends
  ended_fine : (t : ℕ) (commits : Bool) (o : Outcome) → (has_several (nodes_of s t) ≡ true → Promises s w (decide commits t)) → OutcomeStands s w o
      → IsFine s w c (ended s x t commits o)
  ended_fine t commits o promise stands = go (has_several (nodes_of s t)) refl
    where
      new : Finishing
      new = record { id = t; commits = commits; done = [] }

      go : (b : Bool) → has_several (nodes_of s t) ≡ b
          → IsFine s w c (cond b
          (record {
            now = record x { running = None; finishing = newest 32 (x.finishing ++ record { id = t; commits = commits; done = [] } ∷ []) };
            posts = decide commits t ∷ [];
            ends = o ∷ [];
          })
          (record { now = record x { running = None }; posts = []; ends = o ∷ [] }))
      go true is = record {
        now = record {
          running = λ r e. absurd cc;
          finishing = λ g h. elim (in_either g x.finishing (record { id = t; commits = commits; done = [] } ∷ [])
              (In-drop (length (x.finishing ++ record { id = t; commits = commits; done = [] } ∷ []) - 32) g (x.finishing ++ record { id = t; commits = commits; done = [] } ∷ []) h)) [
                | inl before ↦ fits.finishing g before
                | inr (inl e) ↦ subst (FitsFinishing s w) (sym e) (record { decided = promise is; done = λ m k. absurd k })
                | inr (inr none) ↦ absurd none
              ];
          next = fits.next;
        };
        posts = λ p h. elim h [ inl e ↦ subst (MayPost s w) (sym e) (promise is, decide_plain s commits t) | inr none ↦ absurd none ];
        ends = λ q h. elim h [ inl e ↦ subst (OutcomeStands s w) (sym e) stands | inr none ↦ absurd none ];
      }
      go false is = record {
        now = rests;
        posts = λ p h. absurd h;
        ends = λ q h. elim h [ inl e ↦ subst (OutcomeStands s w) (sym e) stands | inr none ↦ absurd none ];
      }

  -- several participants have entries
  several_logged : (t : ℕ) → has_several (nodes_of s t) ≡ true → is_logged (s.mini t) ≡ true
  several_logged t h = or_left (has_several (nodes_of s t)) (s.mini t).has_write h

  module _ (r : Running) (fit : FitsRunning s w c r) where
    -- with the votes of all participants
    all_voted : (votes : List (ℕ × List (List ℕ))) → ((v : ℕ × List (List ℕ)) → In v votes → IsVote s w r.id v) → ((m : ℕ) → In m (nodes_of s r.id) → In m (map (λ v. v.0) votes))
        → is_logged (s.mini r.id) ≡ true → IsCommitted s w.log r.id
    all_voted votes are all logged m is =
        let it = In-map (λ v. v.0) m votes (all m is) in
        elim (are it.0 it.1).1 [
          | inl h ↦ subst (λ k. IsGranted w.log k r.id) (sym it.2) (f.promises (Granted it.0.0 r.id it.0.1) h).2
          | inr h ↦ absurd (not_two (is_logged (s.mini r.id)) logged (f.promises (Looked it.0.0 r.id it.0.1) h).3)
        ]

    counted_fine : (v : ℕ × List (List ℕ)) → IsVote s w r.id v → IsFine s w c (counted s x r v)
    counted_fine v vote = go (all_in (nodes_of s r.id) (map (λ y. y.0) (v ∷ r.votes))) refl
      where
        are : (y : ℕ × List (List ℕ)) → In y (v ∷ r.votes) → IsVote s w r.id y
        are y h = elim h [ inl e ↦ subst (IsVote s w r.id) (sym e) vote | inr before ↦ fit.votes y before ]

        go : (b : Bool) → all_in (nodes_of s r.id) (map (λ y. y.0) (v ∷ r.votes)) ≡ b
            → IsFine s w c (cond b
            (ended s x r.id true (Committed r.id (v ∷ r.votes)))
            (record { now = record x { running = Some (record r { votes = v ∷ r.votes }) }; posts = []; ends = [] }))
        go true is =
            let all = all_in-In (nodes_of s r.id) (map (λ y. y.0) (v ∷ r.votes)) is in
            let committed = all_voted (v ∷ r.votes) are all in
            ended_fine r.id true (Committed r.id (v ∷ r.votes))
            (λ several. (fit.begun, λ live. (several, committed (several_logged r.id several))))
            (fit.begun, fit.fresh.0, elim (cases_Bool (is_logged (s.mini r.id))) [ inl logged ↦ inl (committed logged) | inr reader ↦ inr reader ], are, all)
        go false is = record {
          now = record {
            running = λ q e. subst (FitsRunning s w c) (some_is (record r { votes = v ∷ r.votes }) q e)
                (record { begun = fit.begun; fresh = fit.fresh; here = fit.here; newest = fit.newest; votes = are });
            finishing = fits.finishing;
            next = fits.next;
          };
          posts = λ p h. absurd h;
          ends = λ o h. absurd h;
        }

    -- another vote
    refused_ends : (m : ℕ) (why : Reason) → In m (nodes_of s r.id) → In (Refused m r.id why) w.posted → IsFine s w c (ended s x r.id false (Failed r.id m why))
    refused_ends m why is posted =
        let promise = f.promises (Refused m r.id why) posted in
        let how : IsAborted s w.log r.id ⊎ IsReader s r.id = elim promise.2 [
          | inl refused ↦ inl (record { node = m; participant = is; refused = refused.1 })
          | inr (inl forced) ↦ absurd (let old = outdated s w f m r.id why forced in let low = fit.newest old.newer old.begun (old.same ∙ fit.here) in let high = old.above in omega (arith, low, high))
          | inr (inr reader) ↦ inr reader
        ] in
        ended_fine r.id false (Failed r.id m why)
        (λ several. (
          fit.begun,
          λ live. (
            several,
            elim how [
              | inl aborted ↦ inl aborted
              | inr reader ↦ absurd (not_two (is_logged (s.mini r.id)) (several_logged r.id several) reader)
            ],
          ),
        ))
        (fit.begun, fit.fresh.0, how, is, posted)

  -- a vote that is taken names the running identifier and is a participant's
  taken : (r : Running) (m t : ℕ) → takes s r m t ≡ true → (r.id ≡ t) × In m (nodes_of s r.id)
  taken r m t h =
      let both = and_parts (r.id == t) (is_in m (nodes_of s r.id) && not (is_in m (map (λ v. v.0) r.votes))) h in
      (eqb-true r.id t both.0, is_in-In m (nodes_of s r.id) (and_parts (is_in m (nodes_of s r.id)) (not (is_in m (map (λ v. v.0) r.votes))) both.1).0)

  pub hear_granted_fine : (m t : ℕ) (bytes : List (List ℕ)) (o : Option Running) → x.running ≡ o
      → In (Granted m t bytes) w.posted ⊎ In (Looked m t bytes) w.posted → IsFine s w c (hear_granted s x m t bytes o)
  hear_granted_fine m t bytes None is posted = stays_fine
  hear_granted_fine m t bytes (Some r) is posted = go (takes s r m t) refl
    where
      go : (b : Bool) → takes s r m t ≡ b → IsFine s w c (cond b (counted s x r (m, bytes)) (stays x))
      go true h =
          let it = taken r m t h in
          counted_fine r (fits.running r is) (m, bytes) (it.1, subst (λ k. In (Granted m k bytes) w.posted ⊎ In (Looked m k bytes) w.posted) (sym it.0) posted)
      go false h = stays_fine

  pub hear_refused_fine : (m t : ℕ) (why : Reason) (o : Option Running) → x.running ≡ o → In (Refused m t why) w.posted → IsFine s w c (hear_refused s x m t why o)
  hear_refused_fine m t why None is posted = stays_fine
  hear_refused_fine m t why (Some r) is posted = go (takes s r m t) refl
    where
      go : (b : Bool) → takes s r m t ≡ b → IsFine s w c (cond b (ended s x r.id false (Failed r.id m why)) (stays x))
      go true h =
          let it = taken r m t h in
          refused_ends r (fits.running r is) m why it.1 (subst (λ k. In (Refused m k why) w.posted) (sym it.0) posted)
      go false h = stays_fine

  -- `done`
  noted_fits : (m t : ℕ) (g : Finishing) → Promises s w (Done m t) → FitsFinishing s w g → FitsFinishing s w (noted m t g)
  noted_fits m t g promise fit = go (g.id == t) refl
    where
      go : (b : Bool) → (g.id == t) ≡ b → FitsFinishing s w (cond b (record g { done = m ∷ g.done }) g)
      go true is = record {
        decided = fit.decided;
        done = λ n h. elim h [
          | inl e ↦ subst (λ k. Promises s w (Done k g.id)) (sym e) (subst (λ k. Promises s w (Done m k)) (sym (eqb-true g.id t is)) promise)
          | inr before ↦ fit.done n before
        ];
      }
      go false is = fit

  pub hear_done_fine : (m t : ℕ) → Promises s w (Done m t) → IsFine s w c (hear_done s x m t)
  hear_done_fine m t promise = record {
    now = record {
      running = fits.running;
      finishing = λ g h. all g (In-filter (λ y. not (is_done s y)) g (map (noted m t) x.finishing) h).0;
      next = fits.next;
    };
    posts = λ p h.
        let it = In-map (λ y. Forgotten y.id) p (filter (is_done s) (map (noted m t) x.finishing)) h in
        let done = In-filter (is_done s) it.0 (map (noted m t) x.finishing) it.1 in
        let fit = all it.0 done.0 in
        subst (MayPost s w) (sym it.2) (
          (
            decide_begun s w it.0.commits it.0.id fit.decided,
            λ live n is. (fit.done n (all_in-In (nodes_of s it.0.id) it.0.done done.1 n is)).1 live,
          ),
          (tt, λ v. tt),
        );
    ends = λ o h. absurd h;
  }
    where
      all : (g : Finishing) → In g (map (noted m t) x.finishing) → FitsFinishing s w g
      all g h =
          let it = In-map (noted m t) g x.finishing h in
          subst (FitsFinishing s w) (sym it.2) (noted_fits m t it.0 promise (fits.finishing it.0 it.1))
