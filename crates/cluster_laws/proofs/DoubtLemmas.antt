-- How each step changes what is in doubt.
use Rattle.std.proofs.Common.{◌≡◌, ◌⊎◌, ◌<◌, ◌≤◌, inl, inr, ℕ, zero, suc, ◌+◌, ◌==◌, Bool, true, false, not, ◌&&◌, ◌||◌, cond, List, [], ◌∷◌, ◌++◌, filter, length, Option, Some, None, refl, sym, ap, subst, ◌∙◌, arith, slice_get, slice_set, slice_index_or, if◌then◌else◌}
use Rattle.std.proofs.lemmas.Bool.{cases_eq, eqb-true, eq-eqb, false_from_ne_true}
use Rattle.mini_tx.specs.declared.actor.Actor.{Actor}
use Rattle.mini_tx.specs.declared.actor.Actor.TheVariants.{Memory}
use Rattle.mini_tx.specs.declared.entry.Entry.{Entry}
use Rattle.mini_tx.specs.declared.item.Item.{Item}
use Rattle.mini_tx.specs.declared.message.Message.{Message}
use Rattle.mini_tx.specs.declared.posted.Posted.{Posted}
use Rattle.mini_tx.specs.declared.tx_id.TxId.{TxId}
use Rattle.mini_tx.specs.Order.{is_same}
use Rattle.lock_table.proofs.OrderLemmas.{is_one, same_self}
use Rattle.tx_coord.specs.State as coord
use Rattle.tx_coord.specs.Rules as rules
use Rattle.tx_coord.specs.Rules.{participants_of, next_id}
use Rattle.tx_rules.specs.Mini.{In}
use Rattle.tx_rules.proofs.FaithfulLemmas.{in_front, in_back, in_either}
use Rattle.grant_ledger.specs.Doubts.{without, after_grant, is_last}
use Rattle.story_rules.specs.MemoryNodes.{MemoryNode, reaction}
use Rattle.story_rules.specs.Story.{Begun, Seat, Site, Story, Up}
use Rattle.story_rules.specs.Steps as steps
use Rattle.story_rules.specs.Steps.{Handled, is_of, has_granted, has_write, items_of, all_granted, grant_in, grant_of, message_at, with_entry, with_grant, counted, with_site, begun_by, delivered, stepped, given, to_receiver, to_memory, at_seat, at_actor}
use Rattle.story_laws.specs.Acts.{IsTold, Holds, Delivers}
use Rattle.story_laws.specs.Beginnings.{WasBegun, WasBegunIf, entry_of}
use Rattle.story_laws.specs.Identifiers.{IsCounted, IsPast, HasBegun, IsSeated, AreDistinct}
use Rattle.story_laws.proofs.ActLemmas.{stories_go_on, told_stories_hold}
use Rattle.story_laws.proofs.BeginningLemmas.{grant_was}
use Rattle.story_laws.proofs.CastLemmas.{set_here, set_there}
use Rattle.story_laws.proofs.OutcomeLemmas.{own_items, same_begun}
use Rattle.story_laws.proofs.SiteLemmas.{with_one}
use Rattle.story_shown.specs.History.{AreOnce, RefusedNeverCommit, IsCommitted, IsFlat}
use Rattle.story_shown.proofs.ImageLemmas.{told_stories_are_flat}
use Rattle.cluster_laws.specs.Doubts.{missing_in, Waits, IsInDoubt, AreInDoubt, waits_after, points_of, waits_begun, waits_without, CountsKeepDoubts, BeginningsAreInDoubt, LeavesDoubts, RefusedAreNotInDoubt, DoubtsAreAlike}

-- ---- one entry more

or_false : (b : Bool) → (b || false) ≡ b
or_false true = refl
or_false false = refl

and_false : (b : Bool) → (b && false) ≡ false
and_false true = refl
and_false false = refl

has_one : (id : TxId) (l : List Entry) (e : Entry) → has_granted id (l ++ e ∷ []) ≡ (has_granted id l || is_of id (grant_in e))
has_one id [] e = or_false (is_of id (grant_in e))
has_one id (x ∷ l) e = go (is_of id (grant_in x)) (has_one id l e)
  where
    go : (b : Bool) → has_granted id (l ++ e ∷ []) ≡ (has_granted id l || is_of id (grant_in e))
        → (b || has_granted id (l ++ e ∷ [])) ≡ ((b || has_granted id l) || is_of id (grant_in e))
    go true rest = refl
    go false rest = rest

grants_at : (logs : List (List Entry)) (m n : ℕ) (e : Entry) (id : TxId) → m < length logs
    → has_granted id (slice_index_or (with_one logs m (Some e)) n []) ≡ (has_granted id (slice_index_or logs n []) || ((n == m) && is_of id (grant_in e)))
grants_at logs m n e id within = elim (cases_eq n m) [
  | inl same ↦
      subst (λ (k : ℕ). has_granted id (slice_index_or (with_one logs m (Some e)) k []) ≡ (has_granted id (slice_index_or logs k []) || ((k == m) && is_of id (grant_in e)))) (sym same)
      (ap (has_granted id) (set_here logs m (slice_index_or logs m [] ++ e ∷ []) within)
      ∙ has_one id (slice_index_or logs m []) e
      ∙ ap (λ (b : Bool). has_granted id (slice_index_or logs m []) || (b && is_of id (grant_in e))) (sym (eq-eqb m m refl)))
  | inr other ↦
      ap (has_granted id) (set_there logs m n (slice_index_or logs m [] ++ e ∷ []) other)
      ∙ sym (or_false (has_granted id (slice_index_or logs n [])))
      ∙ ap (λ (b : Bool). has_granted id (slice_index_or logs n []) || (b && is_of id (grant_in e))) (sym (false_from_ne_true (n == m) (λ is. other (eqb-true n m is))))
]

-- ---- who is missing

missing_same : (h k : ℕ → Bool) → ((n : ℕ) → k n ≡ h n) → (ms : List ℕ) → filter (λ (n : ℕ). not (k n)) ms ≡ filter (λ (n : ℕ). not (h n)) ms
missing_same h k same [] = refl
missing_same h k same (n ∷ ms) =
    ap (λ (b : Bool). cond (not b) (n ∷ filter (λ (x : ℕ). not (k x)) ms) (filter (λ (x : ℕ). not (k x)) ms)) (same n)
    ∙ ap (λ (l : List ℕ). cond (not (h n)) (n ∷ l) l) (missing_same h k same ms)

missing_one : (h k : ℕ → Bool) (m : ℕ) → ((n : ℕ) → k n ≡ (h n || (n == m))) → (ms : List ℕ)
    → filter (λ (n : ℕ). not (k n)) ms ≡ without m (filter (λ (n : ℕ). not (h n)) ms)
missing_one h k m one [] = refl
missing_one h k m one (n ∷ ms) =
    ap (λ (b : Bool). cond (not b) (n ∷ filter (λ (x : ℕ). not (k x)) ms) (filter (λ (x : ℕ). not (k x)) ms)) (one n)
    ∙ ap (λ (l : List ℕ). cond (not (h n || (n == m))) (n ∷ l) l) (missing_one h k m one ms)
    ∙ go (h n) (n == m) refl
  where
    left : List ℕ
    left = filter (λ (x : ℕ). not (h x)) ms

    go : (b d : Bool) → (n == m) ≡ d
        → cond (not (b || d)) (n ∷ without m (filter (λ (x : ℕ). not (h x)) ms)) (without m (filter (λ (x : ℕ). not (h x)) ms))
        ≡ without m (cond (not b) (n ∷ filter (λ (x : ℕ). not (h x)) ms) (filter (λ (x : ℕ). not (h x)) ms))
    go true d is = refl
    go false d is =
        ap (λ (t : Bool). cond (not t) (n ∷ without m (filter (λ (x : ℕ). not (h x)) ms)) (without m (filter (λ (x : ℕ). not (h x)) ms))) (sym is)

none_missing : (h : ℕ → Bool) → ((n : ℕ) → h n ≡ false) → (ms : List ℕ) → ms ≡ filter (λ (n : ℕ). not (h n)) ms
none_missing h none [] = refl
none_missing h none (n ∷ ms) =
    ap (λ (l : List ℕ). n ∷ l) (none_missing h none ms)
    ∙ ap (λ (b : Bool). cond (not b) (n ∷ filter (λ (x : ℕ). not (h x)) ms) (filter (λ (x : ℕ). not (h x)) ms)) (sym (none n))

all_is : (story : Story) (id : TxId) (ms : List ℕ) → all_granted story id ms ≡ (length (missing_in story.logs id ms) == 0)
all_is story id [] = refl
all_is story id (m ∷ ms) = go (has_granted id (slice_index_or story.logs m [])) (all_is story id ms)
  where
    some : false ≡ (length (m ∷ missing_in story.logs id ms) == 0)
    some = sym (false_from_ne_true (length (m ∷ missing_in story.logs id ms) == 0)
        (λ is. let e : length (m ∷ missing_in story.logs id ms) ≡ 0 = eqb-true (length (m ∷ missing_in story.logs id ms)) 0 is in absurd (omega (arith, e))))

    go : (b : Bool) → all_granted story id ms ≡ (length (missing_in story.logs id ms) == 0)
        → (b && all_granted story id ms) ≡ (length (cond (not b) (m ∷ missing_in story.logs id ms) (missing_in story.logs id ms)) == 0)
    go true rest = rest
    go false rest = some

-- ---- lists

nothing_more : {A : Type 0} (xs : List A) → xs ≡ xs ++ []
nothing_more [] = refl
nothing_more (x ∷ xs) = ap (λ (l : List _). x ∷ l) (nothing_more xs)

not_twice : (ids : List TxId) (id : TxId) → In id ids → AreOnce (ids ++ id ∷ []) → ⊥
not_twice [] id there once = there
not_twice (x ∷ ids) id (inl same) once = once.0 (subst (λ (y : TxId). In y (ids ++ id ∷ [])) same (in_back id ids (id ∷ []) (inl refl)))
not_twice (x ∷ ids) id (inr there) once = not_twice ids id there once.1

not_both : (b : Bool) → b ≡ true → b ≡ false → ⊥
not_both true is other = absurd cc
not_both false is other = absurd cc

-- ---- what is in doubt depends on the logs, the history and what was refused

moved : (before now : Story) (b : Begun) → missing_in now.logs b.id (participants_of b.items) ≡ missing_in before.logs b.id (participants_of b.items)
    → ((id : TxId) → In id before.committed → In id now.committed) → ((id : TxId) → In id before.refused → In id now.refused)
    → (o : Option (List ℕ)) → IsInDoubt before b o → IsInDoubt now b o
moved before now b logs committed refused (Some ms) is = is ∙ sym logs
moved before now b logs committed refused None (inl done) = inl (committed b.id done)
moved before now b logs committed refused None (inr never) = inr (refused b.id never)

along : (story : Story) (b : Begun) (o p : Option (List ℕ)) → p ≡ o → IsInDoubt story b o → IsInDoubt story b p
along story b o p same is = subst (λ (x : Option (List ℕ)). IsInDoubt story b x) (sym same) is

pub doubts_are_alike : DoubtsAreAlike
doubts_are_alike story waits now doubts same = record {
  changes = λ b there writes. along story b (waits b.id) (now b.id) (same b.id) (doubts.changes b there writes);
  readers = λ b there reads. same b.id ∙ doubts.readers b there reads;
  known = λ id ms is. doubts.known id ms (sym (same id) ∙ is);
}

-- ---- what was refused

less : (waits : Waits) (ids : List TxId) (other : TxId) → (waits_without waits ids other ≡ waits other) ⊎ (In other ids × (waits_without waits ids other ≡ None))
less waits [] other = inl refl
less waits (id ∷ ids) other = go (is_same id other) refl (less waits ids other)
  where
    go : (b : Bool) → is_same id other ≡ b → (waits_without waits ids other ≡ waits other) ⊎ (In other ids × (waits_without waits ids other ≡ None))
        → (cond b None (waits_without waits ids other) ≡ waits other) ⊎ (In other (id ∷ ids) × (cond b None (waits_without waits ids other) ≡ None))
    go true is rest = inr (inl (sym (is_one id other is)), refl)
    go false is rest = elim rest [
      | inl same ↦ inl same
      | inr gone ↦ inr (inr gone.0, gone.1)
    ]

pub refused_are_not_in_doubt : RefusedAreNotInDoubt
refused_are_not_in_doubt before now ids waits leaves doubts = record {
  changes = λ b there writes.
      let old : In b before.begun = subst (λ (bs : List Begun). In b bs) leaves.begun there in
      elim (less waits ids b.id) [
        | inl same ↦ along now b (waits b.id) (waits_without waits ids b.id) same (stays b (waits b.id) (doubts.changes b old writes))
        | inr gone ↦ along now b None (waits_without waits ids b.id) gone.1
            (inr (subst (λ (xs : List TxId). In b.id xs) (sym leaves.refused) (in_back b.id before.refused ids gone.0)))
      ];
  readers = λ b there reads.
      elim (less waits ids b.id) [
        | inl same ↦ same ∙ doubts.readers b (subst (λ (bs : List Begun). In b bs) leaves.begun there) reads
        | inr gone ↦ gone.1
      ];
  known = λ id ms is.
      elim (less waits ids id) [
        | inl same ↦ subst (λ (bs : List Begun). WasBegun bs id) (sym leaves.begun) (doubts.known id ms (sym same ∙ is))
        | inr gone ↦ let e : None ≡ Some ms = sym gone.1 ∙ is in absurd cc
      ];
}
  where
    stays : (b : Begun) (o : Option (List ℕ)) → IsInDoubt before b o → IsInDoubt now b o
    stays b o is = moved before now b (ap (λ (ls : List (List Entry)). missing_in ls b.id (participants_of b.items)) leaves.logs)
        (λ id there. subst (λ (xs : List TxId). In id xs) (sym leaves.committed) there)
        (λ id there. subst (λ (xs : List TxId). In id xs) (sym leaves.refused) (in_front id before.refused ids there)) o is

-- ---- what a count leaves

-- a step that logs this entry, or none, and takes this place in the history
record CountsAs (story : Story) (m : ℕ) (e : Option Entry) (now : Story) : Type 0 where
  pub begun : now.begun ≡ story.begun
  pub refused : now.refused ≡ story.refused
  pub logs : now.logs ≡ with_one story.logs m e
  pub committed : now.committed ≡ (with_grant (with_entry story m e) m (grant_of e)).committed

counts_as : (story : Story) (m : ℕ) (sender : Actor) (e : Option Entry) (answer : Option Message) (site : Site) → CountsAs story m e (with_site (counted story m sender e answer) m site)
counts_as story m sender None None site = record { begun = refl; refused = refl; logs = refl; committed = refl }
counts_as story m sender None (Some x) site = record { begun = refl; refused = refl; logs = refl; committed = refl }
counts_as story m sender (Some e) None site = go (grant_in e) refl
  where
    go : (g : Option TxId) → grant_in e ≡ g → CountsAs story m (Some e) (with_site (steps.with_answer (with_grant (with_entry story m (Some e)) m (grant_in e)) m sender None) m site)
    go None is = subst (λ (g : Option TxId). CountsAs story m (Some e) (with_site (steps.with_answer (with_grant (with_entry story m (Some e)) m g) m sender None) m site)) (sym is)
        (record { begun = refl; refused = refl; logs = refl; committed = ap (λ (g : Option TxId). (with_grant (with_entry story m (Some e)) m g).committed) (sym is) })
    go (Some id) is = subst (λ (g : Option TxId). CountsAs story m (Some e) (with_site (steps.with_answer (with_grant (with_entry story m (Some e)) m g) m sender None) m site)) (sym is)
        (record { begun = refl; refused = refl; logs = refl; committed = ap (λ (g : Option TxId). (with_grant (with_entry story m (Some e)) m g).committed) (sym is) })
counts_as story m sender (Some e) (Some x) site = go (grant_in e) refl
  where
    go : (g : Option TxId) → grant_in e ≡ g → CountsAs story m (Some e) (with_site (steps.with_answer (with_grant (with_entry story m (Some e)) m (grant_in e)) m sender (Some x)) m site)
    go None is = subst (λ (g : Option TxId). CountsAs story m (Some e) (with_site (steps.with_answer (with_grant (with_entry story m (Some e)) m g) m sender (Some x)) m site)) (sym is)
        (record { begun = refl; refused = refl; logs = refl; committed = ap (λ (g : Option TxId). (with_grant (with_entry story m (Some e)) m g).committed) (sym is) })
    go (Some id) is = subst (λ (g : Option TxId). CountsAs story m (Some e) (with_site (steps.with_answer (with_grant (with_entry story m (Some e)) m g) m sender (Some x)) m site)) (sym is)
        (record { begun = refl; refused = refl; logs = refl; committed = ap (λ (g : Option TxId). (with_grant (with_entry story m (Some e)) m g).committed) (sym is) })

-- ---- nothing is granted

module _ (story now : Story) (m : ℕ) (e : Option Entry) (counts : CountsAs story m e now) (nothing : grant_of e ≡ None) (within : m < length story.logs) (waits : Waits)
    (doubts : AreInDoubt story waits) where
  same_logs : (id : TxId) (n : ℕ) → has_granted id (slice_index_or (with_one story.logs m e) n []) ≡ has_granted id (slice_index_or story.logs n [])
  same_logs id n = go e nothing
    where
      go : (o : Option Entry) → grant_of o ≡ None → has_granted id (slice_index_or (with_one story.logs m o) n []) ≡ has_granted id (slice_index_or story.logs n [])
      go None is = refl
      go (Some x) is =
          grants_at story.logs m n x id within
          ∙ ap (λ (g : Option TxId). has_granted id (slice_index_or story.logs n []) || ((n == m) && is_of id g)) is
          ∙ ap (λ (b : Bool). has_granted id (slice_index_or story.logs n []) || b) (and_false (n == m))
          ∙ or_false (has_granted id (slice_index_or story.logs n []))

  same_history : now.committed ≡ story.committed
  same_history = counts.committed ∙ ap (λ (g : Option TxId). (with_grant (with_entry story m e) m g).committed) nothing ∙ go e
    where
      go : (o : Option Entry) → (with_entry story m o).committed ≡ story.committed
      go None = refl
      go (Some x) = refl

  nothing_granted : AreInDoubt now waits × (now.committed ≡ story.committed ++ [])
  nothing_granted = (
    record {
      changes = λ b there writes.
          moved story now b
          (ap (λ (ls : List (List Entry)). missing_in ls b.id (participants_of b.items)) counts.logs
          ∙ missing_same (λ (n : ℕ). has_granted b.id (slice_index_or story.logs n [])) (λ (n : ℕ). has_granted b.id (slice_index_or (with_one story.logs m e) n [])) (same_logs b.id) (participants_of b.items))
          (λ id there_. subst (λ (xs : List TxId). In id xs) (sym same_history) there_)
          (λ id there_. subst (λ (xs : List TxId). In id xs) (sym counts.refused) there_)
          (waits b.id) (doubts.changes b (subst (λ (bs : List Begun). In b bs) counts.begun there) writes);
      readers = λ b there reads. doubts.readers b (subst (λ (bs : List Begun). In b bs) counts.begun there) reads;
      known = λ id ms is. subst (λ (bs : List Begun). WasBegun bs id) (sym counts.begun) (doubts.known id ms is);
    },
    same_history ∙ nothing_more story.committed,
  )

-- ---- an identifier is granted

module _ (story now : Story) (m : ℕ) (e : Entry) (id : TxId) (grants : grant_in e ≡ Some id) (counts : CountsAs story m (Some e) now) (within : m < length story.logs)
    (distinct : AreDistinct story.begun) (b : Begun) (there : In b story.begun) (own : b.id ≡ id) (once : AreOnce now.committed) (never : RefusedNeverCommit now) (waits : Waits)
    (doubts : AreInDoubt story waits) where
  parts : List ℕ
  parts = participants_of b.items

  -- with nothing missing
  abbrev last : Bool
  last = length (missing_in now.logs id (participants_of b.items)) == 0

  items : items_of story.begun id ≡ b.items
  items = ap (items_of story.begun) (sym own) ∙ own_items story.begun b distinct there

  logs_of : (other : TxId) (n : ℕ) → has_granted other (slice_index_or (with_one story.logs m (Some e)) n []) ≡ (has_granted other (slice_index_or story.logs n []) || ((n == m) && is_same id other))
  logs_of other n = grants_at story.logs m n e other within ∙ ap (λ (g : Option TxId). has_granted other (slice_index_or story.logs n []) || ((n == m) && is_of other g)) grants

  missing_now : (ms : List ℕ) → missing_in now.logs id ms ≡ without m (missing_in story.logs id ms)
  missing_now ms =
      ap (λ (ls : List (List Entry)). missing_in ls id ms) counts.logs
      ∙ missing_one (λ (n : ℕ). has_granted id (slice_index_or story.logs n [])) (λ (n : ℕ). has_granted id (slice_index_or (with_one story.logs m (Some e)) n [])) m
      (λ n. logs_of id n ∙ ap (λ (t : Bool). has_granted id (slice_index_or story.logs n []) || t) (and_true (n == m) ∙ refl)) ms
    where
      and_true : (t : Bool) → (t && is_same id id) ≡ t
      and_true true = same_self id
      and_true false = refl

  missing_others : (other : TxId) → is_same id other ≡ false → (ms : List ℕ) → missing_in now.logs other ms ≡ missing_in story.logs other ms
  missing_others other is ms =
      ap (λ (ls : List (List Entry)). missing_in ls other ms) counts.logs
      ∙ missing_same (λ (n : ℕ). has_granted other (slice_index_or story.logs n [])) (λ (n : ℕ). has_granted other (slice_index_or (with_one story.logs m (Some e)) n []))
      (λ n. logs_of other n ∙ ap (λ (t : Bool). has_granted other (slice_index_or story.logs n []) || ((n == m) && t)) is
      ∙ ap (λ (t : Bool). has_granted other (slice_index_or story.logs n []) || t) (and_false (n == m)) ∙ or_false (has_granted other (slice_index_or story.logs n []))) ms

  history : now.committed ≡ cond (has_write b.items && last) (story.committed ++ id ∷ []) story.committed
  history =
      counts.committed
      ∙ ap (λ (g : Option TxId). (with_grant (with_entry story m (Some e)) m g).committed) grants
      ∙ ap (λ (xs : List Item). cond (has_write xs && all_granted (with_entry story m (Some e)) id (participants_of xs)) (story.committed ++ id ∷ []) story.committed) items
      ∙ ap (λ (t : Bool). cond (has_write b.items && t) (story.committed ++ id ∷ []) story.committed)
      (all_is (with_entry story m (Some e)) id (participants_of b.items) ∙ ap (λ (ls : List (List Entry)). length (missing_in ls id (participants_of b.items)) == 0) (sym counts.logs))

  committed_now : last ≡ true → IsCommitted now id
  committed_now is =
      ap (λ (xs : List Item). all_granted now id (participants_of xs)) (ap (λ (bs : List Begun). items_of bs id) counts.begun ∙ items)
      ∙ all_is now id (participants_of b.items) ∙ is

  -- a change that was in the history or refused is not granted by all of its participants now
  over : has_write b.items ≡ true → (In id story.committed ⊎ In id story.refused) → last ≡ true → ⊥
  over writes (inl done) is =
      not_twice story.committed id done
      (subst AreOnce (history ∙ ap (λ (t : Bool). cond (t && last) (story.committed ++ id ∷ []) story.committed) writes
      ∙ ap (λ (t : Bool). cond t (story.committed ++ id ∷ []) story.committed) is) once)
  over writes (inr refused) is = never id (subst (λ (xs : List TxId). In id xs) (sym counts.refused) refused) (committed_now is)

  own_doubt : has_write b.items ≡ true → (o : Option (List ℕ)) → waits id ≡ o → IsInDoubt story b o
  own_doubt writes o is = subst (λ (x : Option (List ℕ)). IsInDoubt story b x) (ap waits own ∙ is) (doubts.changes b there writes)

  -- what was missing of it
  was_missing : (ms : List ℕ) → ms ≡ missing_in story.logs b.id (participants_of b.items) → without m ms ≡ missing_in now.logs id (participants_of b.items)
  was_missing ms is =
      ap (without m) (is ∙ ap (λ (x : TxId). missing_in story.logs x (participants_of b.items)) own) ∙ sym (missing_now (participants_of b.items))

  points : now.committed ≡ story.committed ++ points_of waits (Some id) m
  points = history ∙ go (has_write b.items) refl (waits id) refl
    where
      chosen : (t : Bool) → cond t (story.committed ++ id ∷ []) story.committed ≡ story.committed ++ cond t (id ∷ []) []
      chosen true = refl
      chosen false = nothing_more story.committed

      go : (w : Bool) → has_write b.items ≡ w → (o : Option (List ℕ)) → waits id ≡ o
          → cond (has_write b.items && last) (story.committed ++ id ∷ []) story.committed ≡ story.committed ++ cond (is_last (waits id) m) (id ∷ []) []
      go true writes (Some ms) is =
          ap (λ (t : Bool). cond (t && last) (story.committed ++ id ∷ []) story.committed) writes
          ∙ chosen last
          ∙ ap (λ (ns : List ℕ). story.committed ++ cond (length ns == 0) (id ∷ []) []) (sym (was_missing ms (own_doubt writes (Some ms) is)))
          ∙ ap (λ (x : Option (List ℕ)). story.committed ++ cond (is_last x m) (id ∷ []) []) (sym is)
      go true writes None is =
          let no : last ≡ false = false_from_ne_true last (over writes (mine (own_doubt writes None is))) in
          ap (λ (t : Bool). cond (t && last) (story.committed ++ id ∷ []) story.committed) writes
          ∙ ap (λ (t : Bool). cond t (story.committed ++ id ∷ []) story.committed) no
          ∙ nothing_more story.committed
          ∙ ap (λ (x : Option (List ℕ)). story.committed ++ cond (is_last x m) (id ∷ []) []) (sym is)
        where
          mine : (In b.id story.committed ⊎ In b.id story.refused) → (In id story.committed ⊎ In id story.refused)
          mine x = subst (λ (y : TxId). In y story.committed ⊎ In y story.refused) own x
      go false reads o is =
          ap (λ (t : Bool). cond (t && last) (story.committed ++ id ∷ []) story.committed) reads
          ∙ nothing_more story.committed
          ∙ ap (λ (x : Option (List ℕ)). story.committed ++ cond (is_last x m) (id ∷ []) []) (sym (ap waits (sym own) ∙ doubts.readers b there reads))

  kept_history : (other : TxId) → In other story.committed → In other now.committed
  kept_history other done = subst (λ (xs : List TxId). In other xs) (sym points) (in_front other story.committed (points_of waits (Some id) m) done)

  kept_refusals : (other : TxId) → In other story.refused → In other now.refused
  kept_refusals other done = subst (λ (xs : List TxId). In other xs) (sym counts.refused) done

  -- the identifier itself
  own_after : has_write b.items ≡ true → (o : Option (List ℕ)) → waits id ≡ o → IsInDoubt now b (after_grant o m)
  own_after writes None is = elim (own_doubt writes None is) [
    | inl done ↦ inl (kept_history b.id done)
    | inr refused ↦ inr (kept_refusals b.id refused)
  ]
  own_after writes (Some ms) is = go (length (without m ms) == 0) refl
    where
      are : without m ms ≡ missing_in now.logs id (participants_of b.items)
      are = was_missing ms (own_doubt writes (Some ms) is)

      go : (t : Bool) → (length (without m ms) == 0) ≡ t → IsInDoubt now b (cond t None (Some (without m ms)))
      go true none = inl (subst (λ (y : TxId). In y now.committed) (sym own)
          (subst (λ (xs : List TxId). In id xs) (sym (history ∙ ap (λ (t : Bool). cond (t && last) (story.committed ++ id ∷ []) story.committed) writes
          ∙ ap (λ (t : Bool). cond t (story.committed ++ id ∷ []) story.committed) (ap (λ (ns : List ℕ). length ns == 0) (sym are) ∙ none)))
          (in_back id story.committed (id ∷ []) (inl refl))))
      go false some = are ∙ ap (λ (x : TxId). missing_in now.logs x (participants_of b.items)) (sym own)

  -- all that was begun
  each_after : (d : Begun) → In d story.begun → has_write d.items ≡ true → IsInDoubt now d (waits_after waits (Some id) m d.id)
  each_after d in_ writes = go (is_same id d.id) refl
    where
      one : is_same id d.id ≡ true → b ≡ d
      one is = same_begun story.begun b d distinct there in_ (own ∙ is_one id d.id is)

      go : (t : Bool) → is_same id d.id ≡ t → IsInDoubt now d (cond t (after_grant (waits id) m) (waits d.id))
      go true is =
          subst (λ (x : Begun). IsInDoubt now x (after_grant (waits id) m)) (one is)
          (own_after (ap (λ (x : Begun). has_write x.items) (one is) ∙ writes) (waits id) refl)
      go false is = moved story now d (missing_others d.id is (participants_of d.items)) kept_history kept_refusals (waits d.id) (doubts.changes d in_ writes)

  granted_one : AreInDoubt now (waits_after waits (Some id) m) × (now.committed ≡ story.committed ++ points_of waits (Some id) m)
  granted_one = (
    record {
      changes = λ d in_ writes. each_after d (subst (λ (bs : List Begun). In d bs) counts.begun in_) writes;
      readers = λ d in_ reads. reader d (subst (λ (bs : List Begun). In d bs) counts.begun in_) reads (is_same id d.id) refl;
      known = λ other ms is. subst (λ (bs : List Begun). WasBegun bs other) (sym counts.begun) (begun_ other ms (is_same id other) refl is);
    },
    points,
  )
    where
      reader : (d : Begun) → In d story.begun → has_write d.items ≡ false → (t : Bool) → is_same id d.id ≡ t → cond t (after_grant (waits id) m) (waits d.id) ≡ None
      reader d in_ reads true is =
          ap (λ (x : Option (List ℕ)). after_grant x m) (ap waits (is_one id d.id is) ∙ doubts.readers d in_ reads)
      reader d in_ reads false is = doubts.readers d in_ reads

      begun_ : (other : TxId) (ms : List ℕ) (t : Bool) → is_same id other ≡ t → cond t (after_grant (waits id) m) (waits other) ≡ Some ms → WasBegun story.begun other
      begun_ other ms true is got = (b, there, own ∙ is_one id other is)
      begun_ other ms false is got = doubts.known other ms got

-- ---- each delivery to a memory node

was_of : (begun : List Begun) (g : Option TxId) (id : TxId) → WasBegunIf begun g → is_of id g ≡ true → WasBegun begun id
was_of begun None id was is = absurd cc
was_of begun (Some other) id was is = subst (WasBegun begun) (is_one other id is) was

module _ (size : ℕ) (story now : Story) (m : ℕ) (e : Option Entry) (told : IsTold size now) (before : Holds story) (counts : CountsAs story m e now) (within : m < length story.logs)
    (waits : Waits) (doubts : AreInDoubt story waits) where
  flat : IsFlat now
  flat = told_stories_are_flat size now told

  holds : Holds now
  holds = told_stories_hold size now told

  -- what is granted was begun
  granted_was : (x : Entry) (id : TxId) → e ≡ Some x → grant_in x ≡ Some id → WasBegun story.begun id
  granted_was x id is grants =
      let here : slice_index_or now.logs m [] ≡ slice_index_or story.logs m [] ++ x ∷ [] =
      ap (λ (ls : List (List Entry)). slice_index_or ls m []) (counts.logs ∙ ap (with_one story.logs m) is) ∙ set_here story.logs m (slice_index_or story.logs m [] ++ x ∷ []) within in
      let logged : WasBegunIf now.begun (entry_of x) =
      holds.voted.begun.logged m x (subst (λ (l : List Entry). In x l) (sym here) (in_back x (slice_index_or story.logs m []) (x ∷ []) (inl refl))) in
      subst (λ (bs : List Begun). WasBegun bs id) counts.begun
      (was_of now.begun (grant_in x) id (grant_was now.begun (Some x) logged) (ap (is_of id) grants ∙ same_self id))

  counted_doubts : AreInDoubt now (waits_after waits (grant_of e) m) × (now.committed ≡ story.committed ++ points_of waits (grant_of e) m)
  counted_doubts = go e refl (grant_of e) refl
    where
      go : (o : Option Entry) → e ≡ o → (g : Option TxId) → grant_of e ≡ g
          → AreInDoubt now (waits_after waits (grant_of e) m) × (now.committed ≡ story.committed ++ points_of waits (grant_of e) m)
      go o is None none =
          subst (λ (g : Option TxId). AreInDoubt now (waits_after waits g m) × (now.committed ≡ story.committed ++ points_of waits g m)) (sym none)
          (nothing_granted story now m e counts none within waits doubts)
      go None is (Some id) some = let x : None ≡ Some id = sym (ap grant_of is) ∙ some in absurd cc
      go (Some x) is (Some id) some =
          let grants : grant_in x ≡ Some id = sym (ap grant_of is) ∙ some in
          let was = granted_was x id is grants in
          subst (λ (g : Option TxId). AreInDoubt now (waits_after waits g m) × (now.committed ≡ story.committed ++ points_of waits g m)) (sym some)
          (granted_one story now m x id grants (subst (λ (y : Option Entry). CountsAs story m y now) is counts) within before.counted.distinct was.0 was.1 was.2
          flat.history.once flat.refused waits doubts)

length_of : {A : Type 0} (xs : List A) (n : ℕ) (x : A) → slice_get xs n ≡ Some x → n < length xs
length_of [] n x is = absurd cc
length_of (y ∷ xs) zero x is = omega arith
length_of (y ∷ xs) (suc n) x is = let e = length_of xs n x is in omega (arith, e)

pub counts_keep_doubts : CountsKeepDoubts
counts_keep_doubts size story k m p n waits told posted to site doubts =
    subst (λ (s : Story). AreInDoubt s (waits_after waits (grant_of (reaction n p.message).entry) m) × (s.committed ≡ story.committed ++ points_of waits (grant_of (reaction n p.message).entry) m)) (sym is)
    (counted_doubts size story after m (reaction n p.message).entry (subst (IsTold size) is (stories_go_on size story (Delivers k Handled) told tt)) before
    (counts_as story m p.from (reaction n p.message).entry (reaction n p.message).answer (Up (reaction n p.message).now)) within waits doubts)
  where
    before : Holds story
    before = told_stories_hold size story told

    after : Story
    after = with_site (counted story m p.from (reaction n p.message).entry (reaction n p.message).answer) m (Up (reaction n p.message).now)

    is : delivered story k Handled ≡ after
    is = ap (given story k Handled) posted ∙ ap (to_receiver story k Handled p) to ∙ ap (to_memory story m k p Handled) site

    within : m < length story.logs
    within = let there = length_of story.sites m (Up n) site in let many : length story.logs ≡ length story.sites = before.voted.replayed.logs in omega (arith, there, many)

-- ---- a beginning

granted_is_begun : (begun : List Begun) (l : List Entry) (id : TxId) → ((e : Entry) → In e l → WasBegunIf begun (entry_of e)) → has_granted id l ≡ true → WasBegun begun id
granted_is_begun begun [] id each is = absurd cc
granted_is_begun begun (x ∷ l) id each is = go (is_of id (grant_in x)) refl is (granted_is_begun begun l id (λ e in_. each e (inr in_)))
  where
    go : (b : Bool) → is_of id (grant_in x) ≡ b → (b || has_granted id l) ≡ true → (has_granted id l ≡ true → WasBegun begun id) → WasBegun begun id
    go true own one rest = was_of begun (grant_in x) id (grant_was begun (Some x) (each x (inl refl))) own
    go false own one rest = rest one

no_refusal : (phase : coord.Phase) (r : _) → steps.refused_by phase (coord.Runs r) ≡ []
no_refusal coord.Free r = refl
no_refusal (coord.Runs x) r = refl
no_refusal (coord.Ended outcome) r = refl

module _ (story : Story) (n : ℕ) (seat : Seat) (c : coord.State) (items : List Item) (there : slice_get story.nodes n ≡ Some seat) (runs : seat.actor ≡ Some c) (holds : Holds story) (waits : Waits)
    (doubts : AreInDoubt story waits) where
  abbrev id_ : TxId
  id_ = next_id c

  own_seat : IsSeated n seat.boot (Some c)
  own_seat = subst (λ (a : Option coord.State). IsSeated n seat.boot a) runs (holds.counted.seated n seat there)

  fresh : (b : Begun) → In b story.begun → ¬ (b.id ≡ id_)
  fresh b is same =
      let coord_ : b.id.coord ≡ n = ap (λ (id : TxId). id.coord) same ∙ own_seat.0 in
      let boot : b.id.boot ≡ seat.boot = ap (λ (id : TxId). id.boot) same ∙ own_seat.1 in
      let seq : b.id.seq ≡ c.begun + 1 = ap (λ (id : TxId). id.seq) same in
      let past : IsPast (Some seat) b.id = subst (λ (s : Option Seat). IsPast s b.id) (ap (slice_get story.nodes) coord_ ∙ there) (holds.counted.past b is) in
      elim past [
        | inl before ↦ absurd (omega (arith, before, boot))
        | inr later ↦ let least = subst (λ (a : Option coord.State). HasBegun a b.id.seq) runs later.1 in absurd (omega (arith, least, seq))
      ]

  not_begun : WasBegun story.begun id_ → ⊥
  not_begun was = fresh was.0 was.1 was.2

  unknown : waits id_ ≡ None
  unknown = go (waits id_) refl
    where
      go : (o : Option (List ℕ)) → waits id_ ≡ o → waits id_ ≡ None
      go None is = is
      go (Some ms) is = absurd (not_begun (doubts.known id_ ms is))

  not_granted : (m : ℕ) → has_granted id_ (slice_index_or story.logs m []) ≡ false
  not_granted m = false_from_ne_true (has_granted id_ (slice_index_or story.logs m []))
      (λ is. not_begun (granted_is_begun story.begun (slice_index_or story.logs m []) id_ (holds.voted.begun.logged m) is))

  abbrev new : Begun
  new = record { id = next_id c; items = items }

  abbrev now : Story
  now = record (stepped story n seat.boot c (rules.begun c items)) { begun = story.begun ++ new ∷ [] }

  other_of : (id : TxId) → WasBegun story.begun id → is_same id_ id ≡ false
  other_of id was = false_from_ne_true (is_same id_ id) (λ same. not_begun (subst (WasBegun story.begun) (sym (is_one id_ id same)) was))

  as_before : (id : TxId) → WasBegun story.begun id → waits_begun waits id_ items id ≡ waits id
  as_before id was = go (has_write items)
    where
      go : (w : Bool) → cond w (cond (is_same id_ id) (Some (participants_of items)) (waits id)) (waits id) ≡ waits id
      go true = ap (λ (t : Bool). cond t (Some (participants_of items)) (waits id)) (other_of id was)
      go false = refl

  kept : (b : Begun) (o : Option (List ℕ)) → IsInDoubt story b o → IsInDoubt now b o
  kept b o is = moved story now b refl (λ id done. done) (λ id done. in_front id story.refused (steps.refused_by c.phase (rules.begun c items).now.phase) done) o is

  new_one : has_write items ≡ true → IsInDoubt now new (waits_begun waits id_ items id_)
  new_one writes =
      along now new (Some (participants_of items)) (waits_begun waits id_ items id_)
      (ap (λ (w : Bool). cond w (cond (is_same id_ id_) (Some (participants_of items)) (waits id_)) (waits id_)) writes
      ∙ ap (λ (t : Bool). cond t (Some (participants_of items)) (waits id_)) (same_self id_))
      (none_missing (λ (m : ℕ). has_granted id_ (slice_index_or story.logs m [])) not_granted (participants_of items))

  new_reader : has_write items ≡ false → waits_begun waits id_ items id_ ≡ None
  new_reader reads = ap (λ (w : Bool). cond w (cond (is_same id_ id_) (Some (participants_of items)) (waits id_)) (waits id_)) reads ∙ unknown

  begun_doubts : AreInDoubt now (waits_begun waits id_ items)
  begun_doubts = record {
    changes = λ b in_ writes. elim (in_either b story.begun (new ∷ []) in_) [
      | inl old ↦ along now b (waits b.id) (waits_begun waits id_ items b.id) (as_before b.id (b, old, refl)) (kept b (waits b.id) (doubts.changes b old writes))
      | inr (inl same) ↦ subst (λ (x : Begun). IsInDoubt now x (waits_begun waits id_ items x.id)) (sym same) (new_one (ap (λ (x : Begun). has_write x.items) (sym same) ∙ writes))
      | inr (inr none) ↦ absurd none
    ];
    readers = λ b in_ reads. elim (in_either b story.begun (new ∷ []) in_) [
      | inl old ↦ as_before b.id (b, old, refl) ∙ doubts.readers b old reads
      | inr (inl same) ↦ ap (λ (x : Begun). waits_begun waits id_ items x.id) same ∙ new_reader (ap (λ (x : Begun). has_write x.items) (sym same) ∙ reads)
      | inr (inr none) ↦ absurd none
    ];
    known = λ id ms is. go id ms (is_same id_ id) refl is;
  }
    where
      more : (id : TxId) → WasBegun story.begun id → WasBegun (story.begun ++ new ∷ []) id
      more id was = (was.0, in_front was.0 story.begun (new ∷ []) was.1, was.2)

      go : (id : TxId) (ms : List ℕ) (t : Bool) → is_same id_ id ≡ t → waits_begun waits id_ items id ≡ Some ms → WasBegun (story.begun ++ new ∷ []) id
      go id ms true same is = (new, in_back new story.begun (new ∷ []) (inl refl), is_one id_ id same)
      go id ms false same is = more id (doubts.known id ms (sym (by_write (has_write items)) ∙ is))
        where
          by_write : (w : Bool) → cond w (cond (is_same id_ id) (Some (participants_of items)) (waits id)) (waits id) ≡ waits id
          by_write true = ap (λ (t : Bool). cond t (Some (participants_of items)) (waits id)) same
          by_write false = refl

pub beginnings_are_in_doubt : BeginningsAreInDoubt
beginnings_are_in_doubt size story n seat c items waits told there runs doubts = (
  unknown story n seat c items there runs holds waits doubts,
  subst (λ (s : Story). AreInDoubt s (waits_begun waits (next_id c) items)) (sym is) (begun_doubts story n seat c items there runs holds waits doubts),
)
  where
    holds : Holds story
    holds = told_stories_hold size story told

    does : ℕ → coord.State → Story
    does boot d = record (stepped story n boot d (rules.begun d items)) { begun = story.begun ++ record { id = next_id d; items = items } ∷ [] }

    is : begun_by story n items ≡ record (stepped story n seat.boot c (rules.begun c items)) { begun = story.begun ++ record { id = next_id c; items = items } ∷ [] }
    is = ap (at_seat story (λ boot d. record (stepped story n boot d (rules.begun d items)) { begun = story.begun ++ record { id = next_id d; items = items } ∷ [] })) there
        ∙ ap (at_actor story (λ boot d. record (stepped story n boot d (rules.begun d items)) { begun = story.begun ++ record { id = next_id d; items = items } ∷ [] }) seat.boot) runs
