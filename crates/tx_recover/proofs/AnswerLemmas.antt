-- What the answers of the participants decide.
use Rattle.std.proofs.Common.{◌≡◌, ℕ, ◌==◌, ◌&&◌, ◌||◌, Bool, true, false, not, cond, List, [], ◌∷◌, length, Option, Some, None, refl, sym, ap, subst, ◌∙◌, arith}
use Rattle.std.specs.List.{list_any}
use Rattle.std.proofs.lemmas.Bool.{eq-eqb, eqb-true, and_from}
use Rattle.mini_tx.specs.declared.tx_id.TxId.{TxId}
use Rattle.mini_tx.specs.Order.{is_same}
use Rattle.tx_recover.specs.declared.work.Work.{Work}
use Rattle.tx_recover.specs.Laws.{Answer, after_answers, agrees, denies, lacks, AnswersDecide}
use Rattle.tx_recover.specs.Rules.{Turn, answered, agreed, denied, decided, stays, is_among, without, taken_up}

same_self : (a : TxId) → is_same a a ≡ true
same_self a = and_from (a.coord == a.coord) _ (eq-eqb a.coord a.coord refl) (and_from (a.boot == a.boot) _ (eq-eqb a.boot a.boot refl) (eq-eqb a.seq a.seq refl))

-- an identifier that is at work with these that are waited for, and this decision
abbrev with : Work → List ℕ → Option Bool → Work
with w waits decision = record w { waits = waits; decision = decision }

-- a decision stays
answered_decided : (w : Work) (m : ℕ) (ok c : Bool) (waits : List ℕ) → answered m w.id ok (with w waits (Some c)) ≡ stays (with w waits (Some c))
answered_decided w m ok c waits = go (is_same w.id w.id)
  where
    go : (b : Bool) → cond (b && false) (cond ok (agreed m (with w waits (Some c))) (denied m (with w waits (Some c)))) (stays (with w waits (Some c))) ≡ stays (with w waits (Some c))
    go true = refl
    go false = refl

stays_decided : (w : Work) (c : Bool) (waits : List ℕ) (answers : List Answer) → (after_answers (with w waits (Some c)) answers).decision ≡ Some c
stays_decided w c waits [] = refl
stays_decided w c waits (a ∷ answers) =
    ap (λ (t : Turn). (after_answers t.now answers).decision) (answered_decided w a.from a.ok c waits) ∙ stays_decided w c waits answers

-- what an undecided one makes of an answer
taken : (w : Work) (m : ℕ) (ok : Bool) (waits : List ℕ)
    → answered m w.id ok (with w waits None) ≡ cond ok (agreed m (with w waits None)) (denied m (with w waits None))
taken w m ok waits =
    ap (λ b. cond (b && true) (cond ok (agreed m (with w waits None)) (denied m (with w waits None))) (stays (with w waits None))) (same_self w.id)

-- ---- lists

left_or_it : (m n : ℕ) (ms : List ℕ) → is_among m ms ≡ true → ((m == n) ≡ false) → is_among m (without n ms) ≡ true
left_or_it m n [] h other = h
left_or_it m n (x ∷ ms) h other = go (λ k. left_or_it m n ms k other) (x == n) refl (x == m) refl h
  where
    go : (is_among m ms ≡ true → is_among m (without n ms) ≡ true) → (a : Bool) → (x == n) ≡ a → (b : Bool) → (x == m) ≡ b → (b || is_among m ms) ≡ true
        → is_among m (cond (not a) (x ∷ without n ms) (without n ms)) ≡ true
    go rest true is true also h =
        let e : m ≡ x = sym (eqb-true x m also) in
        let f : x ≡ n = eqb-true x n is in
        absurd (differ (eq-eqb m n (e ∙ f)) other)
      where
        differ : {c : Bool} → c ≡ true → c ≡ false → ⊥
        differ p q = let e : true ≡ false = sym p ∙ q in absurd cc
    go rest true is false also h = rest h
    go rest false is true also h = ap (λ b. b || is_among m (without n ms)) also
    go rest false is false also h = ap (λ b. b || is_among m (without n ms)) also ∙ rest h

none_left : (m : ℕ) (ms : List ℕ) → (length ms == 0) ≡ true → is_among m ms ≡ false
none_left m [] h = refl
none_left m (x ∷ ms) h = let e = eqb-true (length (x ∷ ms)) 0 h in absurd (omega (arith, e))

or_true : (a b : Bool) → b ≡ true → (a || b) ≡ true
or_true true b h = refl
or_true false b h = h

lacks_still : (a : Answer) (answers : List Answer) (n : ℕ) (ms : List ℕ) → ((m : ℕ) → (m == n) ≡ false → agrees m a ≡ false)
    → list_any (lacks answers) (without n ms) ≡ true → list_any (lacks (a ∷ answers)) ms ≡ true
lacks_still a answers n [] others h = h
lacks_still a answers n (x ∷ ms) others h = go (λ k. lacks_still a answers n ms others k) (x == n) refl h
  where
    go : (list_any (lacks answers) (without n ms) ≡ true → list_any (lacks (a ∷ answers)) ms ≡ true) → (b : Bool) → (x == n) ≡ b
        → list_any (lacks answers) (cond (not b) (x ∷ without n ms) (without n ms)) ≡ true → list_any (lacks (a ∷ answers)) (x ∷ ms) ≡ true
    go rest true is h = or_true (lacks (a ∷ answers) x) (list_any (lacks (a ∷ answers)) ms) (rest h)
    go rest false is h = by (lacks answers x) refl h
      where
        by : (c : Bool) → lacks answers x ≡ c → (c || list_any (lacks answers) (without n ms)) ≡ true → list_any (lacks (a ∷ answers)) (x ∷ ms) ≡ true
        by true lack h =
            ap (λ d. not (d || list_any (agrees x) answers) || list_any (lacks (a ∷ answers)) ms) (others x is)
            ∙ ap (λ d. d || list_any (lacks (a ∷ answers)) ms) lack
        by false lack h = or_true (lacks (a ∷ answers) x) (list_any (lacks (a ∷ answers)) ms) (rest h)

lacks_as : (a : Answer) (answers : List Answer) (ms : List ℕ) → ((m : ℕ) → agrees m a ≡ false)
    → list_any (lacks answers) ms ≡ true → list_any (lacks (a ∷ answers)) ms ≡ true
lacks_as a answers [] none h = h
lacks_as a answers (x ∷ ms) none h = go (λ k. lacks_as a answers ms none k) (lacks answers x) refl h
  where
    go : (list_any (lacks answers) ms ≡ true → list_any (lacks (a ∷ answers)) ms ≡ true) → (c : Bool) → lacks answers x ≡ c → (c || list_any (lacks answers) ms) ≡ true → list_any (lacks (a ∷ answers)) (x ∷ ms) ≡ true
    go rest true lack h =
        ap (λ d. not (d || list_any (agrees x) answers) || list_any (lacks (a ∷ answers)) ms) (none x) ∙ ap (λ d. d || list_any (lacks (a ∷ answers)) ms) lack
    go rest false lack h = or_true (lacks (a ∷ answers) x) (list_any (lacks (a ∷ answers)) ms) (rest h)

-- ---- the answers

-- as in IsDecidedBy, for those that are waited for
record Decides (ps waits : List ℕ) (answers : List Answer) (decision : Option Bool) : Type 0 where
  committed : decision ≡ Some true → (m : ℕ) → is_among m waits ≡ true → list_any (agrees m) answers ≡ true
  aborted : decision ≡ Some false → list_any (denies ps) answers ≡ true
  none_denied : decision ≡ None → list_any (denies ps) answers ≡ false
  one_is_missing : decision ≡ None → (waits ≡ [] → ⊥) → list_any (lacks answers) waits ≡ true

not_some : {c : Bool} {o : Option Bool} → o ≡ None → o ≡ Some c → ⊥
not_some {c} none some = let e : ◌≡◌ {A = Option Bool} None (Some c) = sym none ∙ some in absurd cc

not_other : {o : Option Bool} → o ≡ Some true → o ≡ Some false → ⊥
not_other is other = let e : ◌≡◌ {A = Option Bool} (Some true) (Some false) = sym is ∙ other in absurd cc

agrees_by : (m : ℕ) (a : Answer) → a.ok ≡ true → m ≡ a.from → agrees m a ≡ true
agrees_by m a ok same = ap (λ b. (a.from == m) && b) ok ∙ by (a.from == m) (eq-eqb a.from m (sym same))
  where
    by : (b : Bool) → b ≡ true → (b && true) ≡ true
    by true h = refl
    by false h = h

not_agrees : (m : ℕ) (a : Answer) → a.ok ≡ false → agrees m a ≡ false
not_agrees m a ok = ap (λ b. (a.from == m) && b) ok ∙ by (a.from == m)
  where
    by : (b : Bool) → (b && false) ≡ false
    by true = refl
    by false = refl

others_agree_not : (a : Answer) (m : ℕ) → (m == a.from) ≡ false → agrees m a ≡ false
others_agree_not a m other = by (a.from == m) refl
  where
    by : (b : Bool) → (a.from == m) ≡ b → (b && a.ok) ≡ false
    by true is = absurd (differ (eq-eqb m a.from (sym (eqb-true a.from m is))) other)
      where
        differ : {c : Bool} → c ≡ true → c ≡ false → ⊥
        differ p q = let e : true ≡ false = sym p ∙ q in absurd cc
    by false is = refl

not_denies : (ps : List ℕ) (a : Answer) → a.ok ≡ true → denies ps a ≡ false
not_denies ps a ok = ap (λ b. is_among a.from ps && not b) ok ∙ by (is_among a.from ps)
  where
    by : (b : Bool) → (b && false) ≡ false
    by true = refl
    by false = refl

decide : (w : Work) (waits : List ℕ) (answers : List Answer) → Decides w.participants waits answers (after_answers (with w waits None) answers).decision
decide w waits [] = record {
  committed = λ some. absurd (not_some {c = true} refl some);
  aborted = λ some. absurd (not_some {c = false} refl some);
  none_denied = λ none. refl;
  one_is_missing = λ none some. first waits some;
}
  where
    first : (ms : List ℕ) → (ms ≡ [] → ⊥) → list_any (lacks []) ms ≡ true
    first [] some = absurd (some refl)
    first (m ∷ ms) some = refl
decide w waits (a ∷ answers) =
    subst (λ (t : Turn). Decides w.participants waits (a ∷ answers) (after_answers t.now answers).decision) (sym (taken w a.from a.ok waits)) (go (λ ws. decide w ws answers) a.ok refl)
  where
    Rest : Type 0
    Rest = (ws : List ℕ) → Decides w.participants ws answers (after_answers (with w ws None) answers).decision

    go : Rest → (ok : Bool) → a.ok ≡ ok
        → Decides w.participants waits (a ∷ answers) (after_answers (cond ok (agreed a.from (with w waits None)) (denied a.from (with w waits None))).now answers).decision
    go tail true ok = last (length (without a.from waits) == 0) refl
      where
        left : List ℕ
        left = without a.from waits

        turn : Bool → Turn
        turn b = cond b (decided true (with w left None)) (stays (with w left None))

        last : (b : Bool) → (length left == 0) ≡ b → Decides w.participants waits (a ∷ answers) (after_answers (turn b).now answers).decision
        last true none =
            let now = stays_decided w true w.participants answers in
            record {
              committed = λ some m among. own m among (m == a.from) refl;
              aborted = λ some. absurd (not_other now some);
              none_denied = λ is. absurd (not_some {c = true} is now);
              one_is_missing = λ is. absurd (not_some {c = true} is now);
            }
          where
            own : (m : ℕ) → is_among m waits ≡ true → (b : Bool) → (m == a.from) ≡ b → list_any (agrees m) (a ∷ answers) ≡ true
            own m among true same = ap (λ b. b || list_any (agrees m) answers) (agrees_by m a ok (eqb-true m a.from same))
            own m among false other =
                let e : true ≡ false = sym (left_or_it m a.from waits among other) ∙ none_left m left none in
                absurd cc
        last false some = let rest = tail left in record {
          committed = λ is m among. own rest is m among (m == a.from) refl;
          aborted = λ is. or_true (denies w.participants a) _ (rest.aborted is);
          none_denied = λ is. ap (λ b. b || list_any (denies w.participants) answers) (not_denies w.participants a ok) ∙ rest.none_denied is;
          one_is_missing = λ is one. lacks_still a answers a.from waits (others_agree_not a) (rest.one_is_missing is (is_some left some));
        }
          where
            own : Decides w.participants left answers (after_answers (with w left None) answers).decision → (after_answers (with w left None) answers).decision ≡ Some true
                → (m : ℕ) → is_among m waits ≡ true → (b : Bool) → (m == a.from) ≡ b → list_any (agrees m) (a ∷ answers) ≡ true
            own rest is m among true same = ap (λ b. b || list_any (agrees m) answers) (agrees_by m a ok (eqb-true m a.from same))
            own rest is m among false other = or_true (agrees m a) _ (rest.committed is m (left_or_it m a.from waits among other))

            is_some : (ms : List ℕ) → (length ms == 0) ≡ false → ms ≡ [] → ⊥
            is_some [] not_ e = absurd cc
            is_some (m ∷ ms) not_ e = absurd cc
    go tail false ok = by (is_among a.from w.participants) refl
      where
        turn : Bool → Turn
        turn b = cond b (decided false (with w waits None)) (stays (with w waits None))

        denial : (b : Bool) → is_among a.from w.participants ≡ b → denies w.participants a ≡ b
        denial b is = ap (λ c. c && not a.ok) is ∙ ap (λ c. b && not c) ok ∙ one b
          where
            one : (b : Bool) → (b && true) ≡ b
            one true = refl
            one false = refl

        by : (b : Bool) → is_among a.from w.participants ≡ b → Decides w.participants waits (a ∷ answers) (after_answers (turn b).now answers).decision
        by true is =
            let now = stays_decided w false w.participants answers in
            record {
              committed = λ some. absurd (not_other some now);
              aborted = λ some. ap (λ b. b || list_any (denies w.participants) answers) (denial true is);
              none_denied = λ none. absurd (not_some {c = false} none now);
              one_is_missing = λ none. absurd (not_some {c = false} none now);
            }
        by false is = let rest = tail waits in record {
          committed = λ some m among. or_true (agrees m a) _ (rest.committed some m among);
          aborted = λ some. or_true (denies w.participants a) _ (rest.aborted some);
          none_denied = λ none. ap (λ b. b || list_any (denies w.participants) answers) (denial false is) ∙ rest.none_denied none;
          one_is_missing = λ none one. lacks_as a answers waits (λ m. not_agrees m a ok) (rest.one_is_missing none one);
        }

pub answers_decide : AnswersDecide
answers_decide k answers = let all = decide (taken_up k) k.participants answers in record {
  committed = all.committed;
  aborted = all.aborted;
  none_denied = all.none_denied;
  one_is_missing = all.one_is_missing;
}
