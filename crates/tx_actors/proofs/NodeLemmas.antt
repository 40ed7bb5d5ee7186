-- What a memory node does is allowed by the rules.
use Rattle.std.proofs.Common.{◌≡◌, ℕ, Bool, true, false, cond, ◌&&◌, ◌||◌, List, [], ◌∷◌, ◌++◌, map, Option, Some, None, ◌⊎◌, inl, inr, refl, sym, ap, ◌∙◌, subst, arith}
use Rattle.std.proofs.lemmas.Bool.{and_parts, or_cases, cases_Bool}
use Rattle.tx_rules.specs.Mini.{In, has_several, is_logged, Setting, nodes_of, IsLive, IsFresh, reads_of, Matches, AreApart}
use Rattle.tx_rules.specs.Decision.{Reason, Forced, Held, Locked, Mismatch, Grant, Refuse, Commit, Abort, Forget, Entry, At, IsGranted, IsPassed, IsRefused, IsOpen, IsCommitted, IsAborted, IsThrough, IsOver}
use Rattle.tx_rules.specs.World.{Message, Prepare, Granted, Looked, Refused, DecideCommit, DecideAbort, Done, Forgotten, ListKept, Kept, Ask, AnswerOk, AnswerAbort, World, HasReason, IsUnlocked, Promises, AtPosting, MayGrant, Event, Completes, Grants, Commits, Posts, after, IsRun, after_all}
use Rattle.tx_rules.proofs.GrowthLemmas.{one_record, granted_passed, own_sight}
use Rattle.tx_rules.proofs.StoredLemmas.{complete_open}
use Rattle.tx_rules.proofs.SoundLemmas.{IsSound}
use Rattle.tx_rules.specs.Lists.{is_in}
use Rattle.tx_actors.specs.Node.{own, has_grant, has_decision, cast_as, Standing, Above, Same, Below, standing, is_kept, is_undecided, kept_in, view, Reaction, silent, answers, RecordAgain, least_holder, first_mismatch, rule_by_items, rule_by_locks, rule_by_cut, rule_by_floor, grants_again, refuses, grants, by_rule, on_prepare, on_commit, forced, on_abort, on_forget, answers_by_floor, on_ask, to_participant, handle}
use Rattle.tx_actors.specs.Machine.{all_granted, appending, reacts}
use Rattle.tx_actors.proofs.TestLemmas.{not_two, is_in-In}
use Rattle.tx_actors.proofs.RecordLemmas.{own-log, log-own, has_grant-In, In-has_grant, StandsSo, standing_is, cast_log, above_not_passed, open_is, decided_is, not_open, kept_is, not_kept, kept_in-is, live_named, below_log}
use Rattle.tx_actors.proofs.PrepareLemmas.{holder_is, no_holder, no_mismatch, mismatch_is}

-- ---- runs

pub run_append : (s : Setting) (w : World) (xs ys : List Event) → IsRun s w xs → IsRun s (after_all s w xs) ys → IsRun s w (xs ++ ys)
run_append s w [] ys first second = second
run_append s w (x ∷ xs) ys first second = (first.0, run_append s (after s w x) xs ys first.1 second)

pub after_append : (s : Setting) (w : World) (xs ys : List Event) → after_all s w (xs ++ ys) ≡ after_all s (after_all s w xs) ys
after_append s w [] ys = refl
after_append s w (x ∷ xs) ys = after_append s (after s w x) xs ys

-- ---- grants of all participants

pub all_granted-is : (log : List Entry) (t : ℕ) (ms : List ℕ) → all_granted log t ms ≡ true → (m : ℕ) → In m ms → IsGranted log m t
all_granted-is log t [] h m is = absurd is
all_granted-is log t (n ∷ ms) h m is =
    let both = and_parts (has_grant (own n log) t) (all_granted log t ms) h in
    elim is [
      | inl e ↦ subst (λ k. IsGranted log k t) (sym e) (own-log n (Grant t) log (has_grant-In (own n log) t both.0))
      | inr rest ↦ all_granted-is log t ms both.1 m rest
    ]

pub is-all_granted : (log : List Entry) (t : ℕ) (ms : List ℕ) → ((m : ℕ) → In m ms → IsGranted log m t) → all_granted log t ms ≡ true
is-all_granted log t [] all = refl
is-all_granted log t (n ∷ ms) all =
    ap (λ b. b && all_granted log t ms) (In-has_grant (own n log) t (log-own n (Grant t) log (all n (inl refl))))
    ∙ is-all_granted log t ms (λ m h. all m (inr h))

-- a list without several elements has one
only_one : (ms : List ℕ) (a b : ℕ) → has_several ms ≡ false → In a ms → In b ms → a ≡ b
only_one [] a b h x y = absurd x
only_one (m ∷ []) a b h x y = elim x [
  | inl e ↦ elim y [ inl d ↦ e ∙ sym d | inr none ↦ absurd none ]
  | inr none ↦ absurd none
]
only_one (m ∷ n ∷ ms) a b h x y = absurd cc

-- what was not passed is refused by a refusal
refused_now : (s : Setting) (log : List Entry) (m t : ℕ) (why : Reason) → ¬ IsPassed s log m t → IsRefused s (At m (Refuse t why) ∷ log) m t
refused_now s log m t why above = record {
  passed = record { by = t; cast = inr (why, inl refl); same = refl; above = omega arith };
  never = λ h. elim h [
    | inl e ↦ let x = one_record m m (Grant t) (Refuse t why) e in cc
    | inr before ↦ above (granted_passed s log m t before)
  ];
}

module _ (s : Setting) (w : World) (sound : IsSound s w) (m : ℕ) where
  -- a reaction that the rules allow
  abbrev pub IsGood : Reaction → Type 0
  IsGood a = IsRun s w (appending s w m a.appends) × IsRun s (after_all s w (appending s w m a.appends)) (map Posts a.posts)

  pub reacts_run : (a : Reaction) (stops : Bool) → IsGood a → IsRun s w (reacts s w m stops a)
  reacts_run a true good = run_append s w (appending s w m a.appends) [] good.0 tt
  reacts_run a false good = run_append s w (appending s w m a.appends) (map Posts a.posts) good.0 good.1

  -- a message alone
  says : (p : Message) → Promises s w p → AtPosting s w p → IsGood (answers p)
  says p promise now = (tt, ((promise, now), tt))

  -- ---- prepare
  module _ (t : ℕ) (begun : In t w.begun) (fresh : IsFresh s t) (participant : In m (nodes_of s t)) where
    again_good : IsGranted w.log m t → IsGood (grants_again s m (view w m) t)
    again_good granted = says (Granted m t (reads_of s t m (w.seen t m))) (begun, fresh, granted, refl) tt

    refuses_good : (why : Reason) → ¬ IsPassed s w.log m t → HasReason s w m t why → IsGood (refuses s m t why)
    refuses_good why above reason = go (is_logged (s.mini t)) refl
      where
        go : (b : Bool) → is_logged (s.mini t) ≡ b
            → IsGood (cond b (record { appends = Refuse t why ∷ []; posts = Refused m t why ∷ [] }) (answers (Refused m t why)))
        go true is = (((begun, above, reason), tt), (((begun, fresh, inl (inl refl, refused_now s w.log m t why above)), inl (inl refl)), tt))
        go false is = says (Refused m t why) (begun, fresh, inr (inr is)) (inr reason)

    -- the grant of one participant, and its commit
    single_good : (may : MayGrant s w m t) → has_several (nodes_of s t) ≡ false
        → (b : Bool) → all_granted (At m (Grant t) ∷ w.log) t (nodes_of s t) ≡ b
        → IsRun s w (cond b (Completes m t) (Grants m t) ∷ Commits m t ∷ [])
        × IsRun s (after s (after s w (cond b (Completes m t) (Grants m t))) (Commits m t)) (Posts (Granted m t (reads_of s t m (w.image m))) ∷ [])
    single_good may one b = elim b as (λ b. all_granted (At m (Grant t) ∷ w.log) t (nodes_of s t) ≡ b
        → IsRun s w (cond b (Completes m t) (Grants m t) ∷ Commits m t ∷ [])
        × IsRun s (after s (after s w (cond b (Completes m t) (Grants m t))) (Commits m t)) (Posts (Granted m t (reads_of s t m (w.image m))) ∷ [])) [
          | true ↦ λ is. (
            ((may, all), ((fresh.0, complete_open s w sound.faithful sound.stored m t may all m participant, all), tt)),
            (((begun, fresh, inr (inl refl), ap (reads_of s t m) (sym (own_sight w m t))), tt), tt),
          )
          | false ↦ λ is. absurd (not_two (all_granted (At m (Grant t) ∷ w.log) t (nodes_of s t)) (is-all_granted (At m (Grant t) ∷ w.log) t (nodes_of s t) all) is)
        ]
      where
        all : IsCommitted s (At m (Grant t) ∷ w.log) t
        all n h = subst (λ k. IsGranted (At m (Grant t) ∷ w.log) k t) (only_one (nodes_of s t) m n one participant h) (inl refl)

    -- the grant of one of several participants
    several_good : (may : MayGrant s w m t) → (b : Bool) → all_granted (At m (Grant t) ∷ w.log) t (nodes_of s t) ≡ b
        → IsRun s w (cond b (Completes m t) (Grants m t) ∷ [])
        × IsRun s (after s w (cond b (Completes m t) (Grants m t))) (Posts (Granted m t (reads_of s t m (w.image m))) ∷ [])
    several_good may true is =
        (((may, all_granted-is (At m (Grant t) ∷ w.log) t (nodes_of s t) is), tt), (((begun, fresh, inl refl, ap (reads_of s t m) (sym (own_sight w m t))), tt), tt))
    several_good may false is = (
      ((may, λ c. not_two (all_granted (At m (Grant t) ∷ w.log) t (nodes_of s t)) (is-all_granted (At m (Grant t) ∷ w.log) t (nodes_of s t) c) is), tt),
      (((begun, fresh, inl refl, ap (reads_of s t m) (sym (own_sight w m t))), tt), tt),
    )

    grants_good : ¬ IsPassed s w.log m t → ((u : ℕ) → IsOpen w.log m u → AreApart s m t u) → Matches s t m (w.image m) → IsGood (grants s m (view w m) t)
    grants_good above unlocked matching = go (is_logged (s.mini t)) refl
      where
        split : (logged : is_logged (s.mini t) ≡ true) (b : Bool) → has_several (nodes_of s t) ≡ b
            → IsGood (record { appends = Grant t ∷ cond b [] (Commit t ∷ []); posts = Granted m t (reads_of s t m (w.image m)) ∷ [] })
        split logged true is = several_good (record { begun = begun; fresh = fresh; participant = participant; logged = logged; above = above; unlocked = unlocked; matching = matching }) _ refl
        split logged false is = single_good (record { begun = begun; fresh = fresh; participant = participant; logged = logged; above = above; unlocked = unlocked; matching = matching }) is _ refl

        go : (b : Bool) → is_logged (s.mini t) ≡ b
            → IsGood (cond b
            (record { appends = Grant t ∷ cond (has_several (nodes_of s t)) [] (Commit t ∷ []); posts = Granted m t (reads_of s t m (w.image m)) ∷ [] })
            (answers (Looked m t (reads_of s t m (w.image m)))))
        go true is = split is (has_several (nodes_of s t)) refl
        go false is = says (Looked m t (reads_of s t m (w.image m))) (begun, fresh, participant, is) (record { unlocked = unlocked; matching = matching; now = refl })

    by_items_good : ¬ IsPassed s w.log m t → IsUnlocked s w m t → (o : Option ℕ) → first_mismatch ((s.mini t).wants m) (w.image m) ≡ o
        → IsGood (by_rule s m (view w m) t (rule_by_items o))
    by_items_good above unlocked (Some item) is = refuses_good (Mismatch item) above (unlocked, mismatch_is ((s.mini t).wants m) (w.image m) item is)
    by_items_good above unlocked None is = grants_good above unlocked (no_mismatch ((s.mini t).wants m) (w.image m) is)

    by_locks_good : ¬ IsPassed s w.log m t → (o : Option ℕ) → least_holder s m (own m w.log) t ≡ o
        → IsGood (by_rule s m (view w m) t (rule_by_locks o (first_mismatch ((s.mini t).wants m) (w.image m))))
    by_locks_good above (Some holder) is = refuses_good (Locked holder) above (holder_is s w m t holder is)
    by_locks_good above None is = by_items_good above (no_holder s w m t is) (first_mismatch ((s.mini t).wants m) (w.image m)) refl

    by_cut_good : ¬ IsPassed s w.log m t → (held : Option ℕ)
        → IsGood (by_rule s m (view w m) t (rule_by_cut held (least_holder s m (own m w.log) t) (first_mismatch ((s.mini t).wants m) (w.image m))))
    by_cut_good above (Some cut) = refuses_good (Held cut) above tt
    by_cut_good above None = by_locks_good above (least_holder s m (own m w.log) t) refl

    by_floor_good : (held : Option ℕ) (at_floor : Standing) → StandsSo s (own m w.log) t at_floor
        → IsGood (by_rule s m (view w m) t (rule_by_floor s m held (view w m) t at_floor))
    by_floor_good held Above is = by_cut_good (above_not_passed s w.log m t is) held
    by_floor_good held (Same None) is = again_good (own-log m (Grant t) w.log is)
    by_floor_good held (Same (Some why)) is =
        let entry = own-log m (Refuse t why) w.log is in
        says (Refused m t why) (begun, fresh, inl (entry, sound.faithful.refused m t why entry fresh)) (inl entry)
    by_floor_good held (Below floor) is =
        let below = below_log s w.log m t floor is in
        says (Refused m t (Forced floor)) (begun, fresh, inr (inl below)) (inr (inl below))

    prepare_good : (held : Option ℕ) → IsGood (on_prepare s m held (view w m) t)
    prepare_good held = go (is_kept s m (own m w.log) t) refl
      where
        go : (b : Bool) → is_kept s m (own m w.log) t ≡ b
            → IsGood (by_rule s m (view w m) t (cond b RecordAgain (rule_by_floor s m held (view w m) t (standing s (own m w.log) t))))
        go true is = again_good (kept_is s w.log m t is).0
        go false is = by_floor_good held (standing s (own m w.log) t) (standing_is s (own m w.log) t)

  -- ---- decisions
  -- a message about an identifier is for its participants; about an old one it may be for any memory node
  abbrev IsFor : ℕ → Type 0
  IsFor t = In m (nodes_of s t) ⊎ In t s.old

  live_for : (t : ℕ) → IsFor t → IsLive s t → In m (nodes_of s t)
  live_for t mine live = elim mine [ inl is ↦ is | inr old ↦ absurd (live old) ]

  -- an undecided record is of a live identifier
  open_live : (t : ℕ) → IsOpen w.log m t → IsLive s t
  open_live t o h = sound.faithful.closed m t h o

  -- passed and not undecided is through
  passed_through : (t : ℕ) → is_undecided (own m w.log) t ≡ false → IsPassed s w.log m t → IsThrough s w.log m t
  passed_through t closed passed = elim (cases_Bool (has_grant (own m w.log) t)) [
    | inl is ↦ inl (not_open w.log m t closed (own-log m (Grant t) w.log (has_grant-In (own m w.log) t is)))
    | inr none ↦ inr (record { passed = passed; never = λ h. not_two (has_grant (own m w.log) t) (In-has_grant (own m w.log) t (log-own m (Grant t) w.log h)) none })
  ]

  same_passed : (t : ℕ) (vote : Option Reason) → In (cast_as vote t) (own m w.log) → IsPassed s w.log m t
  same_passed t vote is = record { by = t; cast = cast_log m vote t w.log is; same = refl; above = omega arith }

  below_passed : (t floor : ℕ) → StandsSo s (own m w.log) t (Below floor) → IsPassed s w.log m t
  below_passed t floor is = let below = below_log s w.log m t floor is in let less = below.above in record { by = floor; cast = below.cast; same = below.same; above = omega (arith, less) }

  commit_good : (t : ℕ) → Promises s w (DecideCommit t) → IsFor t → IsGood (on_commit m (view w m) t)
  commit_good t promise mine = go (is_undecided (own m w.log) t) refl
    where
      go : (b : Bool) → is_undecided (own m w.log) t ≡ b → IsGood (record { appends = cond b (Commit t ∷ []) []; posts = Done m t ∷ [] })
      go true is =
          let o = open_is w.log m t is in
          (((open_live t o, o, (promise.1 (open_live t o)).1), tt), (((promise.0, λ live. inl (inl (inl refl))), tt), tt))
      go false is = (tt, (((promise.0, λ live. inl (not_open w.log m t is ((promise.1 live).1 m (live_for t mine live)))), tt), tt))

  abort_good : (t : ℕ) → Promises s w (DecideAbort t) → In (DecideAbort t) w.posted → IsFor t → IsGood (on_abort s m (view w m) t)
  abort_good t promise posted mine = go (is_undecided (own m w.log) t) refl
    where
      aborted : (o : IsOpen w.log m t) → IsAborted s w.log t ⊎ IsOver s w.log t → IsAborted s w.log t
      aborted o h = elim h [
        | inl a ↦ a
        | inr over ↦ elim (over m (live_for t mine (open_live t o))) [ inl d ↦ absurd (o.undecided d) | inr r ↦ absurd (r.never o.granted) ]
      ]

      closed : is_undecided (own m w.log) t ≡ false → (at_floor : Standing) → StandsSo s (own m w.log) t at_floor
          → IsGood (record { appends = forced t at_floor; posts = Done m t ∷ [] })
      closed is Above at =
          let above = above_not_passed s w.log m t at in
          (((promise.0, above, inr (refl, inr posted)), tt), (((promise.0, λ live. inr (refused_now s w.log m t (Forced t) above)), tt), tt))
      closed is (Same vote) at = (tt, (((promise.0, λ live. passed_through t is (same_passed t vote at)), tt), tt))
      closed is (Below floor) at = (tt, (((promise.0, λ live. passed_through t is (below_passed t floor at)), tt), tt))

      go : (b : Bool) → is_undecided (own m w.log) t ≡ b → IsGood (record { appends = cond b (Abort t ∷ []) (forced t (standing s (own m w.log) t)); posts = Done m t ∷ [] })
      go true is =
          let o = open_is w.log m t is in
          (((open_live t o, o, aborted o (promise.1 (open_live t o)).1), tt), (((promise.0, λ live. inl (inr (inl refl))), tt), tt))
      go false is = closed is (standing s (own m w.log) t) (standing_is s (own m w.log) t)

  forget_good : (t : ℕ) → Promises s w (Forgotten t) → IsGood (on_forget s m (view w m) t)
  forget_good t promise = go (is_kept s m (own m w.log) t && has_decision (own m w.log) t) refl
    where
      go : (b : Bool) → (is_kept s m (own m w.log) t && has_decision (own m w.log) t) ≡ b → IsGood (record { appends = cond b (Forget t ∷ []) []; posts = [] })
      go true is = (((promise.0, λ live. (decided_is w.log m t (and_parts (is_kept s m (own m w.log) t) (has_decision (own m w.log) t) is).1, promise.1 live)), tt), tt)
      go false is = (tt, tt)

  -- ---- recovery
  -- passed and not kept: never granted, or every participant is through
  passed_over : (t : ℕ) → is_kept s m (own m w.log) t ≡ false → IsPassed s w.log m t → IsLive s t → has_several (nodes_of s t) ≡ true
      → IsRefused s w.log m t ⊎ IsOver s w.log t
  passed_over t gone passed live several = elim (cases_Bool (has_grant (own m w.log) t)) [
    | inl is ↦ inr (sound.faithful.stands m (Forget t) (not_kept s w.log m t gone (own-log m (Grant t) w.log (has_grant-In (own m w.log) t is)) (ap has_several (live_named s m t live) ∙ several)) live).1
    | inr none ↦ inl (record { passed = passed; never = λ h. not_two (has_grant (own m w.log) t) (In-has_grant (own m w.log) t (log-own m (Grant t) w.log h)) none })
  ]

  ask_good : (t : ℕ) → Promises s w (Ask t) → In (Ask t) w.posted → IsGood (on_ask s m (view w m) t)
  ask_good t promise posted = go (is_kept s m (own m w.log) t) refl
    where
      gone : is_kept s m (own m w.log) t ≡ false → (at_floor : Standing) → StandsSo s (own m w.log) t at_floor → IsGood (answers_by_floor m t at_floor)
      gone is Above at =
          let above = above_not_passed s w.log m t at in
          (((promise.0, above, inr (refl, inl posted)), tt), (((promise.0, λ live. inl (refused_now s w.log m t (Forced t) above)), tt), tt))
      gone is (Same None) at = says (AnswerOk m t) (promise.0, λ live. own-log m (Grant t) w.log at) tt
      gone is (Same (Some why)) at = says (AnswerAbort m t) (promise.0, λ live. passed_over t is (same_passed t (Some why) at) live (promise.1 live)) tt
      gone is (Below floor) at = says (AnswerAbort m t) (promise.0, λ live. passed_over t is (below_passed t floor at) live (promise.1 live)) tt

      go : (b : Bool) → is_kept s m (own m w.log) t ≡ b → IsGood (cond b (answers (AnswerOk m t)) (answers_by_floor m t (standing s (own m w.log) t)))
      go true is = says (AnswerOk m t) (promise.0, λ live. (kept_is s w.log m t is).0) tt
      go false is = gone is (standing s (own m w.log) t) (standing_is s (own m w.log) t)

  list_good : IsGood (answers (Kept m (kept_in s m (own m w.log))))
  list_good = says (Kept m (kept_in s m (own m w.log)))
      (λ x h.
      let k = kept_in-is s w.log m x h in
      (sound.faithful.known m (Grant x.0) k.0, λ live. let named = live_named s m x.0 live in (sym (ap has_several named) ∙ k.1, k.2 ∙ named))) tt

  -- ---- all messages
  for_participant : (t : ℕ) (a : Reaction) → (IsFor t → IsGood a) → IsGood (to_participant s m t a)
  for_participant t a good = go (is_in m (nodes_of s t) || is_in t s.old) refl
    where
      go : (b : Bool) → (is_in m (nodes_of s t) || is_in t s.old) ≡ b → IsGood (cond b a silent)
      go true is = good (elim (or_cases (is_in m (nodes_of s t)) (is_in t s.old) is) [ inl h ↦ inl (is_in-In m (nodes_of s t) h) | inr h ↦ inr (is_in-In t s.old h) ])
      go false is = (tt, tt)

  pub handle_good : (held : Option ℕ) (p : Message) → In p w.posted → Promises s w p → IsGood (handle s m held (view w m) p)
  handle_good held (Prepare t) posted promise = for_participant t (on_prepare s m held (view w m) t) (λ mine. prepare_good t promise.0 promise.1 (live_for t mine promise.1.0) held)
  handle_good held (DecideCommit t) posted promise = for_participant t (on_commit m (view w m) t) (commit_good t promise)
  handle_good held (DecideAbort t) posted promise = for_participant t (on_abort s m (view w m) t) (abort_good t promise posted)
  handle_good held (Forgotten t) posted promise = for_participant t (on_forget s m (view w m) t) (λ mine. forget_good t promise)
  handle_good held (Ask t) posted promise = for_participant t (on_ask s m (view w m) t) (λ mine. ask_good t promise posted)
  handle_good held ListKept posted promise = list_good
  handle_good held (Granted n t bytes) posted promise = (tt, tt)
  handle_good held (Looked n t bytes) posted promise = (tt, tt)
  handle_good held (Refused n t why) posted promise = (tt, tt)
  handle_good held (Done n t) posted promise = (tt, tt)
  handle_good held (Kept n ts) posted promise = (tt, tt)
  handle_good held (AnswerOk n t) posted promise = (tt, tt)
  handle_good held (AnswerAbort n t) posted promise = (tt, tt)
