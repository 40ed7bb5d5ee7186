-- What a memory node does about cuts is what the machine's does.
use Rattle.std.proofs.Common.{◌≡◌, ℕ, zero, suc, ◌+◌, ◌-◌, ◌≤◌, ◌<◌, nat_lt, nat_le, ◌==◌, Bool, true, false, not, cond, ◌&&◌, ◌||◌, List, [], ◌∷◌, map, filter, take, drop, length, Option, Some, None, is_some, inl, inr, refl, sym, ap, subst, ◌∙◌, arith}
use Rattle.std.specs.Prelude.{option_map}
use Rattle.std.proofs.lemmas.Bool.{ltb-true, ltb-false, lt-ltb, leb-true, le-leb, eqb-true, eq-eqb, or_cases, or_left, or_right, and_parts, and_from, cases_lt, cases_Bool, not-true, not_from_false, false_from_ne_true}
use Rattle.std.proofs.lemmas.List.{length-drop, take_all}
use Rattle.std.proofs.Math.ListN.{drop_of_length-le}
use Rattle.mini_tx.specs.declared.cut_id.CutId.{CutId}
use Rattle.mini_tx.specs.declared.held_answer.HeldAnswer.TheVariants as hold
use Rattle.mini_tx.specs.declared.message.Message.TheVariants as sent
use Rattle.mini_tx.specs.declared.tx_id.TxId.{TxId}
use Rattle.mini_tx.specs.Laws.{IsTypedCut}
use Rattle.mem_rules.specs.declared.kept.Kept.{Kept}
use Rattle.mem_rules.specs.Identifiers.{cut_precedes, is_same_cut}
use Rattle.mem_rules.specs.Rules as node
use Rattle.mem_rules.specs.State.{raised_cut}
use Rattle.tx_rules.specs.Mini.{In, Setting}
use Rattle.tx_rules.specs.Decision.{Record}
use Rattle.tx_actors.specs.Node as machine
use Rattle.tx_actors.proofs.TestLemmas.{In-filter, In-map, filter-In, map-In, not_two}
use Rattle.tx_actors.proofs.RecordLemmas.{has_grant-In, In-granted_in}
use Rattle.tx_cuts.specs.Cut.{Copy, Cuts, CutEvent, HeldOk, HeldLocked, HeldPast, Piece, PieceNone, StillHeld, Holds, Raises, Releases, Loses, Sends, with_copy, part, after_cuts}
use Rattle.tx_cuts.specs.Holds.{cut_passed, any_undecided, is_of, held_cut, piece_bytes, on_hold, on_release, on_drop, on_read, on_list}
use Rattle.mem_laws.specs.Cells.{number, cut_number, cells_from}
use Rattle.mem_laws.specs.Cuts.{IsShownCopy, ShowsCopy, IsTypedFloor, ShowsWithCuts, HeldCutsAreTheMachines, IsShownCut, HoldsAreTheMachines, ReleasesAreTheMachines, DropsAreTheMachines, ReadsAreTheMachines, still_held, ListedCutsAreTheMachines}
use Rattle.mem_laws.specs.Shown.{Shows}
use Rattle.mem_laws.proofs.CellLemmas.{same_tests}
use Rattle.mem_laws.proofs.LeastLemmas.{IsLeastIn, numbers_with, least_is}

-- ---- cuts as numbers

same_cut_is : (a b : CutId) → IsTypedCut a → IsTypedCut b → (cut_number a == cut_number b) ≡ is_same_cut a b
same_cut_is a b ta tb = same_tests (cut_number a == cut_number b) (is_same_cut a b) forth back
  where
    forth : (cut_number a == cut_number b) ≡ true → is_same_cut a b ≡ true
    forth h =
        let e : cut_number a ≡ cut_number b = eqb-true (cut_number a) (cut_number b) h in
        let p = ta.1 in
        let q = tb.1 in
        let boot : a.boot ≡ b.boot = omega (arith, e, p, q) in
        let seq : a.seq ≡ b.seq = omega (arith, e, boot) in
        and_from (a.boot == b.boot) (a.seq == b.seq) (eq-eqb a.boot b.boot boot) (eq-eqb a.seq b.seq seq)

    back : is_same_cut a b ≡ true → (cut_number a == cut_number b) ≡ true
    back h =
        let both = and_parts (a.boot == b.boot) (a.seq == b.seq) h in
        let boot = eqb-true a.boot b.boot both.0 in
        let seq = eqb-true a.seq b.seq both.1 in
        eq-eqb (cut_number a) (cut_number b) (omega (arith, boot, seq))

before_is : (a b : CutId) → IsTypedCut a → IsTypedCut b → nat_lt (cut_number a) (cut_number b) ≡ cut_precedes a b
before_is a b ta tb = same_tests (nat_lt (cut_number a) (cut_number b)) (cut_precedes a b) forth back
  where
    forth : nat_lt (cut_number a) (cut_number b) ≡ true → cut_precedes a b ≡ true
    forth h =
        let less : cut_number a < cut_number b = ltb-true (cut_number a) (cut_number b) h in
        let p = ta.1 in
        let q = tb.1 in
        elim (cases_Bool (nat_lt a.boot b.boot)) [
          | inl yet ↦ or_left (nat_lt a.boot b.boot) _ yet
          | inr no_less ↦
              let low : b.boot ≤ a.boot = ltb-false a.boot b.boot no_less in
              let boot : a.boot ≡ b.boot = omega (arith, less, p, q, low) in
              let seq : a.seq < b.seq = omega (arith, less, boot) in
              or_right (nat_lt a.boot b.boot) _ (and_from (a.boot == b.boot) _ (eq-eqb a.boot b.boot boot) (lt-ltb a.seq b.seq seq))
        ]

    back : cut_precedes a b ≡ true → nat_lt (cut_number a) (cut_number b) ≡ true
    back h =
        let p = ta.1 in
        let q = tb.1 in
        lt-ltb (cut_number a) (cut_number b) (elim (or_cases (nat_lt a.boot b.boot) ((a.boot == b.boot) && nat_lt a.seq b.seq) h) [
          | inl less ↦ let boot = ltb-true a.boot b.boot less in omega (arith, boot, p, q)
          | inr later ↦
              let both = and_parts (a.boot == b.boot) (nat_lt a.seq b.seq) later in
              let boot = eqb-true a.boot b.boot both.0 in
              let seq = ltb-true a.seq b.seq both.1 in
              omega (arith, boot, seq)
        ])

-- at a cut or below it
past_is : (x c : CutId) → IsTypedCut x → IsTypedCut c → nat_le (cut_number x) (cut_number c) ≡ not (cut_precedes c x)
past_is x c tx tc = same_tests (nat_le (cut_number x) (cut_number c)) (not (cut_precedes c x))
    (λ h. not_from_false (cut_precedes c x) (false_from_ne_true (cut_precedes c x) (λ before.
    let low = leb-true (cut_number x) (cut_number c) h in
    let less = ltb-true (cut_number c) (cut_number x) (before_is c x tc tx ∙ before) in omega (arith, low, less))))
    (λ h. le-leb (cut_number x) (cut_number c) (ltb-false (cut_number c) (cut_number x) (before_is c x tc tx ∙ not-true (cut_precedes c x) h)))

-- ---- copies

pub held_cuts_are_the_machines : HeldCutsAreTheMachines
held_cuts_are_the_machines size None None shown = refl
held_cuts_are_the_machines size None (Some x) shown = absurd shown
held_cuts_are_the_machines size (Some copy) None shown = absurd shown
held_cuts_are_the_machines size (Some copy) (Some x) shown =
    ap (λ b. cond b (Some x.cut) None) shown.held ∙ ap (λ c. cond copy.is_held (Some c) None) shown.cut ∙ go copy.is_held
  where
    go : (b : Bool) → cond b (Some (cut_number copy.cut)) None ≡ option_map cut_number (cond b (Some copy.cut) None)
    go true = refl
    go false = refl

pub listed_cuts_are_the_machines : ListedCutsAreTheMachines
listed_cuts_are_the_machines size m copy x shown = go x ∙ ap (still_held m) (held_cuts_are_the_machines size copy x shown)
  where
    go : (o : Option Copy) → on_list m o ≡ still_held m (held_cut o)
    go None = refl
    go (Some y) = by y.held
      where
        by : (b : Bool) → cond b (Sends (StillHeld m y.cut) ∷ []) [] ≡ still_held m (cond b (Some y.cut) None)
        by true = refl
        by false = refl

of_is : (size : ℕ) (copy : Option node.Copy) (x : Option Copy) (cut : CutId) → IsTypedCut cut → ShowsCopy size copy x → is_of (cut_number cut) x ≡ node.is_copied copy cut
of_is size None None cut typed shown = refl
of_is size None (Some x) cut typed shown = absurd shown
of_is size (Some copy) None cut typed shown = absurd shown
of_is size (Some copy) (Some x) cut typed shown = ap (λ c. c == cut_number cut) shown.cut ∙ same_cut_is copy.cut cut shown.typed typed

part_is : (f : ℕ → ℕ) (place n : ℕ) → part f place n ≡ map f (cells_from place n)
unfolding part
part_is f place zero = refl
part_is f place (suc n) = ap (λ (xs : List ℕ). f place ∷ xs) (part_is f (place + 1) n)

-- the bytes of a piece
piece_is : (size : ℕ) (copy : node.Copy) (x : Copy) → IsShownCopy size copy x → (place : ℕ)
    → part x.image place (piece_bytes size place) ≡ take 65536 (drop place copy.bytes)
piece_is size copy x shows place =
    part_is x.image place (piece_bytes size place) ∙ elim (cases_lt place size) [
      | inl inside ↦
          sym (shows.image place (piece_bytes size place) (omega (arith, inside, shows.sized)))
          ∙ elim (cases_lt 65536 (size - place)) [
            | inl long ↦ ap (λ (n : ℕ). take n (drop place copy.bytes)) (let e : piece_bytes size place ≡ 65536 = omega (arith, long) in e)
            | inr short ↦
                let whole : length (drop place copy.bytes) ≡ size - place = length-drop place copy.bytes ∙ ap (λ (n : ℕ). n - place) shows.sized in
                take_all (piece_bytes size place) (drop place copy.bytes) (omega (arith, whole, short))
                ∙ sym (take_all 65536 (drop place copy.bytes) (omega (arith, whole, short)))
          ]
      | inr past ↦
          ap (λ (n : ℕ). map x.image (cells_from place n)) (let e : piece_bytes size place ≡ 0 = omega (arith, past) in e)
          ∙ sym (ap (take 65536) (drop_of_length-le copy.bytes (let same = shows.sized in omega (arith, same, past))))
    ]

-- ---- undecided records

any_In : (rs : List Record) (ts : List ℕ) → any_undecided rs ts ≡ true → (t : ℕ) × In t ts × (machine.is_undecided rs t ≡ true)
any_In rs [] h = absurd cc
any_In rs (t ∷ ts) h = elim (or_cases (machine.is_undecided rs t) (any_undecided rs ts) h) [
  | inl here ↦ (t, inl refl, here)
  | inr rest ↦ let it = any_In rs ts rest in (it.0, inr it.1, it.2)
]

In_any : (rs : List Record) (ts : List ℕ) (t : ℕ) → In t ts → machine.is_undecided rs t ≡ true → any_undecided rs ts ≡ true
In_any rs [] t h is = absurd h
In_any rs (u ∷ ts) t h is = elim h [
  | inl e ↦ or_left (machine.is_undecided rs u) (any_undecided rs ts) (ap (machine.is_undecided rs) (sym e) ∙ is)
  | inr rest ↦ or_right (machine.is_undecided rs u) (any_undecided rs ts) (In_any rs ts t rest is)
]

module _ (s : Setting) (m size : ℕ) (n : node.Node) (k : Cuts) (shown : ShowsWithCuts s m size n k) where
  view_now : machine.View
  view_now = machine.view k.world m

  -- there is a lock exactly where there is a least holder
  locked_is : any_undecided (machine.own m k.world.log) (machine.granted_in (machine.own m k.world.log)) ≡ is_some (node.least_with node.is_undecided None n.state.kept)
  locked_is = same_tests _ _ forth back
    where
      rs : List Record
      rs = machine.own m k.world.log

      numbers : List ℕ
      numbers = numbers_with node.is_undecided n.state.kept

      least : IsLeastIn (numbers_with node.is_undecided n.state.kept) (option_map number (node.least_with node.is_undecided None n.state.kept))
      least = least_is node.is_undecided n.state.kept (λ x h. (shown.state.records x h).typed)

      there : (o : Option TxId) → IsLeastIn (numbers_with node.is_undecided n.state.kept) (option_map number o) → (x : ℕ) → In x (numbers_with node.is_undecided n.state.kept) → is_some o ≡ true
      there None none x h = absurd (none x h)
      there (Some id) some x h = refl

      found : (o : Option TxId) → IsLeastIn (numbers_with node.is_undecided n.state.kept) (option_map number o) → is_some o ≡ true
          → (x : ℕ) × In x (numbers_with node.is_undecided n.state.kept)
      found None none is = absurd cc
      found (Some id) some is = (number id, some.0)

      forth : any_undecided (machine.own m k.world.log) (machine.granted_in (machine.own m k.world.log)) ≡ true → is_some (node.least_with node.is_undecided None n.state.kept) ≡ true
      forth h =
          let it = any_In (machine.own m k.world.log) (machine.granted_in (machine.own m k.world.log)) h in
          let x = shown.state.undecided it.0 it.2 in
          let undecided : node.is_undecided x.0 ≡ true = sym (shown.state.records x.0 x.1).undecided ∙ ap (machine.is_undecided (machine.own m k.world.log)) x.2 ∙ it.2 in
          there (node.least_with node.is_undecided None n.state.kept) least (number x.0.id)
          (map-In (λ (y : Kept). number y.id) x.0 (filter node.is_undecided n.state.kept) (filter-In node.is_undecided x.0 n.state.kept x.1 undecided))

      back : is_some (node.least_with node.is_undecided None n.state.kept) ≡ true → any_undecided (machine.own m k.world.log) (machine.granted_in (machine.own m k.world.log)) ≡ true
      back h =
          let it = found (node.least_with node.is_undecided None n.state.kept) least h in
          let from = In-map (λ (y : Kept). number y.id) it.0 (filter node.is_undecided n.state.kept) it.1 in
          let passed = In-filter node.is_undecided from.0 n.state.kept from.1 in
          let undecided : machine.is_undecided (machine.own m k.world.log) (number from.0.id) ≡ true = (shown.state.records from.0 passed.0).undecided ∙ passed.1 in
          let granted = has_grant-In (machine.own m k.world.log) (number from.0.id) (and_parts (machine.has_grant (machine.own m k.world.log) (number from.0.id)) _ undecided).0 in
          In_any (machine.own m k.world.log) (machine.granted_in (machine.own m k.world.log)) (number from.0.id) (In-granted_in (machine.own m k.world.log) (number from.0.id) granted) undecided

  -- the copy where it is set
  own_copy : (o : Option Copy) → with_copy m o k.copies m ≡ o
  own_copy o = ap (λ b. cond b o (k.copies m)) (eq-eqb m m refl)

  -- a state in which the cut floor alone is another
  with_cut : (cut : Option CutId) → Shows s m (record n.state { cut = cut }) (machine.view k.world m)
  with_cut cut = record {
    floors = shown.state.floors;
    votes = shown.state.votes;
    kept = shown.state.kept;
    ascending = shown.state.ascending;
    records = shown.state.records;
    within = shown.state.within;
    undecided = shown.state.undecided;
    granted = shown.state.granted;
    typed = shown.state.typed;
    image = shown.state.image;
  }

  -- nothing changes but what is sent
  same_shows : (sends : List CutEvent) → (after_cuts s k sends).world ≡ k.world → (after_cuts s k sends).copies ≡ k.copies → (after_cuts s k sends).floors ≡ k.floors
      → ShowsWithCuts s m size n (after_cuts s k sends)
  same_shows sends world copies floors = record {
    state = subst (λ w. Shows s m n.state (machine.view w m)) (sym world) shown.state;
    sized = shown.sized;
    copy = subst (λ (f : ℕ → Option Copy). ShowsCopy size n.copy (f m)) (sym copies) shown.copy;
    typed = shown.typed;
    floor = λ cut typed. ap (λ fs. cut_passed fs m (cut_number cut)) floors ∙ shown.floor cut typed;
  }

  -- the cut floor is raised
  module _ (cut : CutId) (typed : IsTypedCut cut) (new : node.is_past n.state.cut cut ≡ false) where
    raised_floor : (o : Option CutId) → node.is_past o cut ≡ false → raised_cut o cut ≡ Some cut
    raised_floor None new = refl
    raised_floor (Some floor) new = ap (λ b. cond b (Some cut) (Some floor)) (go (cut_precedes floor cut) new)
      where
        go : (b : Bool) → not b ≡ false → b ≡ true
        go true e = refl
        go false e = absurd cc

    -- what was at the old floor or below is at the new one or below
    above_old : (o : Option CutId) → IsTypedFloor o → node.is_past o cut ≡ false → (x : CutId) → IsTypedCut x → (nat_le (cut_number x) (cut_number cut) || node.is_past o x) ≡ not (cut_precedes cut x)
    above_old None t fresh x tx = ap (λ b. b || false) (past_is x cut tx typed) ∙ go (not (cut_precedes cut x))
      where
        go : (b : Bool) → (b || false) ≡ b
        go true = refl
        go false = refl
    above_old (Some floor) t fresh x tx = ap (λ b. b || not (cut_precedes floor x)) (past_is x cut tx typed) ∙ go (not (cut_precedes cut x)) (not (cut_precedes floor x)) old
      where
        old : not (cut_precedes floor x) ≡ true → not (cut_precedes cut x) ≡ true
        old h =
            let low = leb-true (cut_number x) (cut_number floor) (past_is x floor tx t ∙ h) in
            let high : cut_number floor < cut_number cut = elim (cases_lt (cut_number floor) (cut_number cut)) [
              | inl less ↦ less
              | inr past ↦ absurd (not_two (not (cut_precedes floor cut)) (sym (past_is cut floor typed t) ∙ le-leb (cut_number cut) (cut_number floor) past) fresh)
            ] in
            sym (past_is x cut tx typed) ∙ le-leb (cut_number x) (cut_number cut) (omega (arith, low, high))

        go : (b d : Bool) → (d ≡ true → b ≡ true) → (b || d) ≡ b
        go true d h = refl
        go false true h = sym (h refl)
        go false false h = refl

    floor_then : (x : CutId) → IsTypedCut x → cut_passed ((m, cut_number cut) ∷ k.floors) m (cut_number x) ≡ node.is_past (raised_cut n.state.cut cut) x
    floor_then x tx =
        ap (λ b. (b && nat_le (cut_number x) (cut_number cut)) || cut_passed k.floors m (cut_number x)) (eq-eqb m m refl)
        ∙ ap (λ b. nat_le (cut_number x) (cut_number cut) || b) (shown.floor x tx)
        ∙ above_old n.state.cut shown.typed new x tx ∙ ap (λ o. node.is_past o x) (sym (raised_floor n.state.cut new))

    typed_then : IsTypedFloor (raised_cut n.state.cut cut)
    typed_then = subst IsTypedFloor (sym (raised_floor n.state.cut new)) typed

  -- ---- hold

  abbrev Answers : CutId → node.Reaction → List CutEvent → Type 0
  Answers cut r events = IsShownCut s m size n k r events

  hold_new : (cut : CutId) → IsTypedCut cut → node.is_past n.state.cut cut ≡ false → (o : Option TxId) (b : Bool) → b ≡ is_some o
      → IsShownCut s m size n k (node.holds n cut o) (cond b
      (Raises m (cut_number cut) ∷ Sends (HeldLocked m (cut_number cut)) ∷ []) (Holds m (cut_number cut) ∷ Sends (HeldOk m (cut_number cut)) ∷ []))
  hold_new cut typed new (Some holder) true is = record {
    shows = record {
      state = with_cut (raised_cut n.state.cut cut);
      sized = shown.sized;
      copy = subst (ShowsCopy size None) (sym (own_copy None)) tt;
      typed = typed_then cut typed new;
      floor = floor_then cut typed new;
    };
    sent = refl;
  }
  hold_new cut typed new None false is =
      let x : Copy = record { cut = cut_number cut; held = true; image = k.world.image m } in
      let copied : IsShownCopy size (record { cut = cut; bytes = n.state.image; is_held = true }) x =
      record { typed = typed; cut = refl; held = refl; sized = shown.sized; image = shown.state.image } in
      record {
        shows = record {
          state = with_cut (raised_cut n.state.cut cut);
          sized = shown.sized;
          copy = subst (ShowsCopy size (Some (record { cut = cut; bytes = n.state.image; is_held = true }))) (sym (own_copy (Some x))) copied;
          typed = typed_then cut typed new;
          floor = floor_then cut typed new;
        };
        sent = refl;
      }
  hold_new cut typed new (Some holder) false is = absurd cc
  hold_new cut typed new None true is = absurd cc

  hold_by_floor : (cut : CutId) → IsTypedCut cut → (o : Option CutId) → n.state.cut ≡ o → (b : Bool) → b ≡ node.is_past o cut
      → IsShownCut s m size n k (node.by_cut_floor n cut o) (cond b (Sends (HeldPast m (cut_number cut)) ∷ [])
      (cond (any_undecided (machine.own m k.world.log) (machine.granted_in (machine.own m k.world.log)))
      (Raises m (cut_number cut) ∷ Sends (HeldLocked m (cut_number cut)) ∷ []) (Holds m (cut_number cut) ∷ Sends (HeldOk m (cut_number cut)) ∷ [])))
  hold_by_floor cut typed None is false e = hold_new cut typed (ap (λ o. node.is_past o cut) is) (node.least_with node.is_undecided None n.state.kept) _ locked_is
  hold_by_floor cut typed None is true e = absurd cc
  hold_by_floor cut typed (Some floor) is b e = go (cut_precedes floor cut) refl b e
    where
      go : (c : Bool) → cut_precedes floor cut ≡ c → (b : Bool) → b ≡ not c
          → IsShownCut s m size n k (cond c (node.holds n cut (node.least_with node.is_undecided None n.state.kept)) (node.answers n (sent.Held cut (hold.Past floor))))
          (cond b (Sends (HeldPast m (cut_number cut)) ∷ [])
          (cond (any_undecided (machine.own m k.world.log) (machine.granted_in (machine.own m k.world.log)))
          (Raises m (cut_number cut) ∷ Sends (HeldLocked m (cut_number cut)) ∷ []) (Holds m (cut_number cut) ∷ Sends (HeldOk m (cut_number cut)) ∷ [])))
      go true before false same =
          hold_new cut typed (ap (λ o. node.is_past o cut) is ∙ ap not before) (node.least_with node.is_undecided None n.state.kept) _ locked_is
      go false after true same = record { shows = same_shows (Sends (HeldPast m (cut_number cut)) ∷ []) refl refl refl; sent = refl }
      go true before true same = absurd cc
      go false after false same = absurd cc

  pub hold_is : (cut : CutId) → IsTypedCut cut → IsShownCut s m size n k (node.on_hold n cut) (on_hold k m (cut_number cut))
  hold_is cut typed = go (is_of (cut_number cut) (k.copies m)) (node.is_copied n.copy cut) (of_is size n.copy (k.copies m) cut typed shown.copy)
    where
      go : (b c : Bool) → b ≡ c
          → IsShownCut s m size n k (cond c (node.answers n (sent.Held cut hold.Copied)) (node.by_cut_floor n cut n.state.cut))
          (cond b (Sends (HeldOk m (cut_number cut)) ∷ []) (cond (cut_passed k.floors m (cut_number cut)) (Sends (HeldPast m (cut_number cut)) ∷ [])
          (cond (any_undecided (machine.own m k.world.log) (machine.granted_in (machine.own m k.world.log)))
          (Raises m (cut_number cut) ∷ Sends (HeldLocked m (cut_number cut)) ∷ []) (Holds m (cut_number cut) ∷ Sends (HeldOk m (cut_number cut)) ∷ []))))
      go true true e = record { shows = same_shows (Sends (HeldOk m (cut_number cut)) ∷ []) refl refl refl; sent = refl }
      go false false e = hold_by_floor cut typed n.state.cut refl (cut_passed k.floors m (cut_number cut)) (shown.floor cut typed)
      go true false e = absurd cc
      go false true e = absurd cc

  -- ---- release and drop

  -- nothing changes
  unchanged : (copy : Option node.Copy) → n.copy ≡ copy → IsShownCut s m size n k (record { entry = None; answer = None; copy = copy }) []
  unchanged copy is = record {
    shows = record {
      state = shown.state;
      sized = shown.sized;
      copy = subst (λ o. ShowsCopy size o (k.copies m)) is shown.copy;
      typed = shown.typed;
      floor = shown.floor;
    };
    sent = refl;
  }

  let_go_is : (cut : CutId) → IsTypedCut cut → (o : Option node.Copy) (x : Option Copy) → n.copy ≡ o → ShowsCopy size o x
      → IsShownCut s m size n k (record { entry = None; answer = None; copy = node.let_go o cut }) (on_release m (cut_number cut) x)
  let_go_is cut typed None None is shows = unchanged None is
  let_go_is cut typed None (Some x) is shows = absurd shows
  let_go_is cut typed (Some copy) None is shows = absurd shows
  let_go_is cut typed (Some copy) (Some x) is shows =
      go (x.cut == cut_number cut) (is_same_cut copy.cut cut) (ap (λ c. c == cut_number cut) shows.cut ∙ same_cut_is copy.cut cut shows.typed typed)
    where
      ended : node.Copy
      ended = record copy { is_held = false }

      now : Copy
      now = record x { held = false }

      shows_now : IsShownCopy size (record copy { is_held = false }) (record x { held = false })
      shows_now = record { typed = shows.typed; cut = shows.cut; held = refl; sized = shows.sized; image = shows.image }

      go : (b c : Bool) → b ≡ c
          → IsShownCut s m size n k (record { entry = None; answer = None; copy = cond c (Some (record copy { is_held = false })) (Some copy) }) (cond b (Releases m x ∷ []) [])
      go true true e = record {
        shows = record {
          state = shown.state;
          sized = shown.sized;
          copy = subst (ShowsCopy size (Some (record copy { is_held = false }))) (sym (own_copy (Some (record x { held = false })))) shows_now;
          typed = shown.typed;
          floor = shown.floor;
        };
        sent = refl;
      }
      go false false e = unchanged (Some copy) is
      go true false e = absurd cc
      go false true e = absurd cc

  dropped_is : (cut : CutId) → IsTypedCut cut → (o : Option node.Copy) (x : Option Copy) → n.copy ≡ o → ShowsCopy size o x
      → IsShownCut s m size n k (record { entry = None; answer = None; copy = node.dropped o cut }) (on_drop m (cut_number cut) x)
  dropped_is cut typed None None is shows = unchanged None is
  dropped_is cut typed None (Some x) is shows = absurd shows
  dropped_is cut typed (Some copy) None is shows = absurd shows
  dropped_is cut typed (Some copy) (Some x) is shows =
      go (x.cut == cut_number cut) (is_same_cut copy.cut cut) (ap (λ c. c == cut_number cut) shows.cut ∙ same_cut_is copy.cut cut shows.typed typed)
    where
      go : (b c : Bool) → b ≡ c → IsShownCut s m size n k (record { entry = None; answer = None; copy = cond c None (Some copy) }) (cond b (Loses m ∷ []) [])
      go true true e = record {
        shows = record {
          state = shown.state;
          sized = shown.sized;
          copy = subst (ShowsCopy size None) (sym (own_copy None)) tt;
          typed = shown.typed;
          floor = shown.floor;
        };
        sent = refl;
      }
      go false false e = unchanged (Some copy) is
      go true false e = absurd cc
      go false true e = absurd cc

  -- ---- read

  read_is : (cut : CutId) (place : ℕ) → IsTypedCut cut → (o : Option node.Copy) (x : Option Copy) → ShowsCopy size o x
      → IsShownCut s m size n k (node.answers n (sent.Piece cut place (node.piece_of o cut place))) (on_read size m (cut_number cut) place x)
  read_is cut place typed None None shows = record { shows = same_shows (Sends (PieceNone m (cut_number cut) place) ∷ []) refl refl refl; sent = refl }
  read_is cut place typed None (Some x) shows = absurd shows
  read_is cut place typed (Some copy) None shows = absurd shows
  read_is cut place typed (Some copy) (Some x) shows =
      go (x.cut == cut_number cut) (is_same_cut copy.cut cut) (ap (λ c. c == cut_number cut) shows.cut ∙ same_cut_is copy.cut cut shows.typed typed)
    where
      go : (b c : Bool) → b ≡ c
          → IsShownCut s m size n k (node.answers n (sent.Piece cut place (cond c (Some (take 65536 (drop place copy.bytes))) None)))
          (cond b (Sends (Piece m (cut_number cut) place (part x.image place (piece_bytes size place))) ∷ []) (Sends (PieceNone m (cut_number cut) place) ∷ []))
      go true true e = record {
        shows = same_shows (Sends (Piece m (cut_number cut) place (part x.image place (piece_bytes size place))) ∷ []) refl refl refl;
        sent = ap (λ (bytes : List ℕ). Piece m (cut_number cut) place bytes ∷ k.sent) (piece_is size copy x shows place);
      }
      go false false e = record { shows = same_shows (Sends (PieceNone m (cut_number cut) place) ∷ []) refl refl refl; sent = refl }
      go true false e = absurd cc
      go false true e = absurd cc

pub holds_are_the_machines : HoldsAreTheMachines
holds_are_the_machines s m size n k cut typed shown = hold_is s m size n k shown cut typed

pub releases_are_the_machines : ReleasesAreTheMachines
releases_are_the_machines s m size n k cut typed shown = let_go_is s m size n k shown cut typed n.copy (k.copies m) refl shown.copy

pub drops_are_the_machines : DropsAreTheMachines
drops_are_the_machines s m size n k cut typed shown = dropped_is s m size n k shown cut typed n.copy (k.copies m) refl shown.copy

pub reads_are_the_machines : ReadsAreTheMachines
reads_are_the_machines s m size n k cut place typed shown = read_is s m size n k shown cut place typed n.copy (k.copies m) shown.copy
