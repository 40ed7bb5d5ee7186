-- The examples, by computing.
use Rattle.std.proofs.Common.{◌≡◌, ℕ, ◌==◌, Bool, true, false, cond, [], ◌∷◌, Option, Some, None, unwrap_or, inl, inr, refl, sym, ap, subst}
use Rattle.std.proofs.lemmas.Bool.{eqb-true}
use Rattle.tx_rules.specs.Mini.{In, IsMini}
use Rattle.tx_rules.specs.Decision.{Record, Grant, Commit, Abort, Forget, named_in, At, IsGranted, IsDecided, IsOpen}
use Rattle.tx_rules.proofs.GrowthLemmas.{one_node, one_record}
use Rattle.tx_actors.specs.Sample.{sample_mini}
use Rattle.tx_cuts.specs.Cut.{part}
use Rattle.tx_cuts.specs.Sound.{IsUndecided, IsKeptByAll, IsToCome, IsTold, IsSoundFor}
use Rattle.tx_cuts.specs.Sample.{BackupEndsWell, found_log, zeros, found_setting, OpeningEndsWell}

pub backup_ends_well : BackupEndsWell
unfolding part
backup_ends_well = record { made = refl; endings = refl; outcomes = refl }

-- ---- the opening

-- the minitransaction is well formed
sample_is_mini : IsMini sample_mini
sample_is_mini = record {
  participant = (0, inl refl);
  compared = λ m want h. absurd h;
  read = λ m a item h. absurd h;
  written = λ m a v is. first m a v (m == 0) refl is;
  quiet = λ e. absurd (let x : true ≡ false = e in cc);
}
  where
    one : (c : Bool) (a n x v : ℕ) → (a == n) ≡ c → cond c (Some x) None ≡ Some v → In a (n ∷ [])
    one true a n x v is e = inl (eqb-true a n is)
    one false a n x v is e = absurd cc

    second : (m a v : ℕ) (b : Bool) → (m == 1) ≡ b → cond b (cond (a == 7) (Some 43) None) None ≡ Some v → In m (0 ∷ 1 ∷ []) × In a (7 ∷ [])
    second m a v true is e = (inr (inl (eqb-true m 1 is)), one (a == 7) a 7 43 v refl e)
    second m a v false is e = absurd cc

    first : (m a v : ℕ) (b : Bool) → (m == 0) ≡ b
        → cond b (cond (a == 5) (Some 42) None) (cond (m == 1) (cond (a == 7) (Some 43) None) None) ≡ Some v
        → In m (0 ∷ 1 ∷ []) × In a (cond b (5 ∷ []) (7 ∷ []))
    first m a v true is e = (inl (eqb-true m 0 is), one (a == 5) a 5 42 v refl e)
    first m a v false is e = second m a v (m == 1) refl e

-- both participants have granted it, and there is nothing else
found_granted : (m : ℕ) → In m (0 ∷ 1 ∷ []) → IsGranted found_log m 1
found_granted m h = elim h [
  | inl e ↦ subst (λ x. IsGranted found_log x 1) (sym e) (inr (inl refl))
  | inr (inl e) ↦ subst (λ x. IsGranted found_log x 1) (sym e) (inl refl)
  | inr (inr none) ↦ absurd none
]

found_record : (m : ℕ) (r : Record) → In (At m r) found_log → (r ≡ Grant 1) × In m (0 ∷ 1 ∷ [])
found_record m r h = elim h [
  | inl e ↦ (one_record m 1 r (Grant 1) e, inr (inl (one_node m 1 r (Grant 1) e)))
  | inr (inl e) ↦ (one_record m 0 r (Grant 1) e, inl (one_node m 0 r (Grant 1) e))
  | inr (inr none) ↦ absurd none
]

found_undecided : (m t : ℕ) → ¬ IsDecided found_log m t
found_undecided m t d = elim d [
  | inl h ↦ let e = (found_record m (Commit t) h).0 in cc
  | inr h ↦ let e = (found_record m (Abort t) h).0 in cc
]

found_remembered : (m t : ℕ) → ¬ In (At m (Forget t)) found_log
found_remembered m t h = let e = (found_record m (Forget t) h).0 in cc

found_open : (m : ℕ) → In m (0 ∷ 1 ∷ []) → IsOpen found_log m 1
found_open m h = record { granted = found_granted m h; undecided = found_undecided m 1 }

found_kept : IsKeptByAll found_setting found_log 1
found_kept m h = record { granted = found_granted m h; remembered = found_remembered m 1 }

only_one : (t : ℕ) → In t (1 ∷ []) → t ≡ 1
only_one t h = elim h [ inl e ↦ e | inr none ↦ absurd none ]

found_told : IsTold found_setting found_log
found_told = record {
  known = λ m r h. inl (inl (ap named_in (found_record m r h).0));
  found = λ t h. subst (IsUndecided found_log) (sym (only_one t h)) (record { node = 0; undecided = found_open 0 (inl refl) });
  old = λ t h. absurd h;
  early = λ t. (λ h. (h, subst (IsKeptByAll found_setting found_log) (sym (only_one t h)) found_kept), λ h. h.0);
  minis = λ t h. sample_is_mini;
}

found_sound : IsSoundFor found_setting found_log zeros found_setting.start
found_sound = record {
  identifiers = λ t u. record {
    whole = λ m h. elim h [ inl d ↦ absurd (found_undecided m t d) | inr x ↦ absurd (found_remembered m t x) ];
    participants = λ m k. ((found_record m (Grant t) k.granted).1, refl);
    kept = λ m g. record { granted = g; remembered = found_remembered m t };
    commit = λ m h. absurd (found_undecided m t (inl h));
    abort = λ m h. absurd (found_undecided m t (inr h));
  };
  written = λ m a t v c. ap (λ (o : Option ℕ). unwrap_or o 0) c.writes;
  settled = λ m a none. rest m a none (sample_mini.writes m a) refl;
}
  where
    rest : (m a : ℕ) → ((t v : ℕ) → ¬ IsToCome found_setting found_log m a t v) → (o : Option ℕ) → sample_mini.writes m a ≡ o → unwrap_or (sample_mini.writes m a) 0 ≡ 0
    rest m a none None is = ap (λ (o : Option ℕ). unwrap_or o 0) is
    rest m a none (Some v) is =
        absurd (none 1 v (record { undecided = found_open m (sample_is_mini.written m a v is).0; all = found_kept; writes = is }))

pub opening_ends_well : OpeningEndsWell
opening_ends_well = record { told = found_told; sound = found_sound; points = refl; first = refl; second = refl }
