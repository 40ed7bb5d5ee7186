-- A story that is told of a cluster is one flat memory.
use Rattle.std.proofs.Common.{◌≡◌, inl, inr, ℕ, zero, suc, Bool, true, false, cond, List, [], ◌∷◌, ◌++◌, length, map, filter, reverse, take, drop, Some, All, refl, sym, ap, subst, ◌∙◌, slice_get}
use Rattle.std.specs.List.{AllByRecursion}
use Rattle.std.proofs.lemmas.List.{length-map, reverse-append}
use Rattle.std.proofs.lemmas.List.Elements.{All-from_recursion, recursion_from_All}
use Rattle.mini_tx.specs.declared.entry.Entry.TheVariants.{Decided}
use Rattle.mini_tx.specs.declared.item.Item.{Item}
use Rattle.mini_tx.specs.declared.tx_id.TxId.{TxId}
use Rattle.mini_tx.specs.FlatMemory.{IsWithin, Matches}
use Rattle.mini_tx.specs.Laws.{IsTypedId}
use Rattle.mini_tx.specs.Minitransactions.{memory_of, refusal}
use Rattle.mini_tx.proofs.ValidLemmas.{valid_within}
use Rattle.mem_rules.specs.declared.standing.Standing.{Standing}
use Rattle.mem_rules.specs.declared.standing.Standing.TheVariants.{Above, At, Below}
use Rattle.mem_rules.specs.Rules as node
use Rattle.mem_rules.specs.State.{State}
use Rattle.tx_coord.specs.Rules.{participants_of}
use Rattle.tx_rules.specs.Decision as log
use Rattle.tx_rules.specs.Decision.{Reason, Grant, Commit, Abort, IsPassed}
use Rattle.tx_rules.specs.Laws.{IsDistinct, AllMatch, history}
use Rattle.tx_rules.specs.Mini as table
use Rattle.tx_rules.specs.Mini.{In, Want, Mini, IsMini, Setting, nodes_of, flat}
use Rattle.tx_rules.specs.Opening.{IsOpening, IsFormatted}
use Rattle.tx_rules.proofs.FaithfulLemmas.{in_front, in_back}
use Rattle.tx_rules.specs.World.{World}
use Rattle.tx_rules.proofs.LawLemmas.{history_is_flat}
use Rattle.tx_rules.proofs.SoundLemmas.{formatted_opens}
use Rattle.tx_actors.specs.Headline.{IsSerial}
use Rattle.tx_actors.specs.Laws.{IsFitting}
use Rattle.tx_actors.specs.Machine as whole
use Rattle.tx_actors.specs.Machine.{Input, steps, events_of, opened_at, IsAboveKnown}
use Rattle.tx_actors.specs.Node as machine
use Rattle.tx_actors.specs.Node.{own, has_grant, view}
use Rattle.tx_actors.proofs.HeadlineLemmas.{formatted_clusters_are_serial}
use Rattle.tx_actors.proofs.LawLemmas.{states_are_runs, failed_never_commits, above_is_not_passed}
use Rattle.tx_actors.proofs.RecordLemmas.{has_grant-In, In-has_grant, own-log, log-own}
use Rattle.tx_actors.proofs.TestLemmas.{sorted-In, map-In}
use Rattle.mem_laws.specs.Cells.{number}
use Rattle.mem_laws.specs.Minis.{mini_of, cells_of_bytes}
use Rattle.mem_laws.proofs.DecideLemmas.{IsShownStanding, stands}
use Rattle.mem_laws.proofs.MiniLemmas.{valid_minis_fit, minis_match_alike, want_item, placed_In}
use Rattle.coord_laws.proofs.ListLemmas.{participants_are}
use Rattle.story_rules.specs.Story.{Begun, Site, Story}
use Rattle.story_rules.specs.Steps.{log_of, has_granted, items_of, all_granted}
use Rattle.story_laws.specs.Acts.{Holds}
use Rattle.story_laws.specs.Beginnings.{WasBegun}
use Rattle.story_shown.specs.History.{held_at_opening, flat_at, AreOnce, IsHistory, IsCommitted, IsAborted, Agrees, RefusedNeverCommit}
use Rattle.story_laws.specs.Sites.{node_at}
use Rattle.story_laws.proofs.BeginningLemmas.{some_is, in_filter}
use Rattle.story_laws.proofs.GrowthLemmas.{both_true, true_both}
use Rattle.story_laws.proofs.OutcomeLemmas.{own_items}
use Rattle.story_shown.proofs.FitLemmas.{was_written, cells_are_the_bytes}
use Rattle.story_shown.proofs.ShownLemmas.{IsShown, IsFit}
use Rattle.story_shown.proofs.ReactLemmas.{named}
use Rattle.story_shown.proofs.FlatLemmas.{at_place, newest_first, in_reverse, within_items, within_after}

-- ---- lists

all_granted_of : (story : Story) (id : TxId) (ms : List ℕ) → ((m : ℕ) → In m ms → has_granted id (log_of story m) ≡ true) → all_granted story id ms ≡ true
all_granted_of story id [] each = refl
all_granted_of story id (m ∷ ms) each =
    true_both (has_granted id (log_of story m)) (all_granted story id ms) (each m (inl refl)) (all_granted_of story id ms (λ k is. each k (inr is)))

pub each_granted : (story : Story) (id : TxId) (ms : List ℕ) → all_granted story id ms ≡ true → (m : ℕ) → In m ms → has_granted id (log_of story m) ≡ true
each_granted story id [] all m is = absurd is
each_granted story id (k ∷ ms) all m is =
    let both = both_true (has_granted id (log_of story k)) (all_granted story id ms) all in
    elim is [
      | inl one ↦ subst (λ (j : ℕ). has_granted id (log_of story j) ≡ true) (sym one) both.0
      | inr rest ↦ each_granted story id ms both.1 m rest
    ]

-- what stands behind others matches
pub match_behind : (s : Setting) (later before : List ℕ) → AllMatch s (later ++ before) → AllMatch s before
match_behind s [] before all = all
match_behind s (t ∷ later) before all = match_behind s later before all.1

-- a list turned round has each element once where it has
distinct_front : (xs : List ℕ) (y : ℕ) → IsDistinct (xs ++ y ∷ []) → (¬ In y xs) × IsDistinct xs
distinct_front [] y all = (λ is. absurd is, tt)
distinct_front (x ∷ xs) y all =
    let rest = distinct_front xs y all.1 in (
      λ is. elim is [ inl one ↦ all.0 (in_back x xs (y ∷ []) (inl (sym one))) | inr there ↦ rest.0 there ],
      (λ is. all.0 (in_front x xs (y ∷ []) is), rest.1),
    )

numbers_in : (id : TxId) (ids : List TxId) → In id ids → In (number id) (map number ids)
numbers_in id [] is = absurd is
numbers_in id (x ∷ ids) is = elim is [ inl one ↦ inl (ap number one) | inr rest ↦ inr (numbers_in id ids rest) ]

once_of : (ids : List TxId) → IsDistinct (reverse (map number ids)) → AreOnce ids
once_of [] all = tt
once_of (id ∷ ids) all =
    let turned : IsDistinct (reverse (map number ids) ++ number id ∷ []) = subst (λ (l : List ℕ). IsDistinct l) (reverse-append (number id ∷ []) (map number ids)) all in
    let parts = distinct_front (reverse (map number ids)) (number id) turned in
    (λ is. parts.0 (in_reverse (number id) (map number ids) (numbers_in id ids is)), once_of ids parts.1)

distinct_filter : (test : ℕ → Bool) (ts : List ℕ) → IsDistinct ts → IsDistinct (filter test ts)
distinct_filter test [] all = tt
distinct_filter test (t ∷ ts) all = go (test t) (distinct_filter test ts all.1)
  where
    go : (b : Bool) → IsDistinct (filter test ts) → IsDistinct (cond b (t ∷ filter test ts) (filter test ts))
    go true rest = (λ is. all.0 (in_filter test t ts is), rest)
    go false rest = rest

pub get_in : {A : Type 0} (xs : List A) (n : ℕ) (x : A) → slice_get xs n ≡ Some x → In x xs
get_in [] n x is = absurd cc
get_in (y ∷ xs) zero x is = inl (some_is y x is)
get_in (y ∷ xs) (suc n) x is = inr (get_in xs n x is)

in_take : {A : Type 0} (n : ℕ) (x : A) (xs : List A) → In x (take n xs) → In x xs
in_take zero x [] is = absurd is
in_take zero x (y ∷ xs) is = absurd is
in_take (suc n) x [] is = absurd is
in_take (suc n) x (y ∷ xs) is = elim is [ inl one ↦ inl one | inr rest ↦ inr (in_take n x xs rest) ]

-- ---- the laws of the machine

module _ (s : Setting) (size : ℕ) (story : Story) (fit : IsFit s size story) (holds : Holds story) (inputs : List Input)
    (all : IsShown s size story (steps s (opened_at s [] s.start (λ c. 0)) inputs)) (sized : All (λ (image : List ℕ). length image ≡ size) (held_at_opening story)) where
  abbrev pub st : whole.State
  st = steps s (opened_at s [] s.start (λ c. 0)) inputs

  pub fitting : IsFitting s st.world
  fitting t is live =
      let it = all.known t is in
      subst (λ (u : ℕ). IsMini (s.mini u)) (sym it.2)
      (subst (λ (x : Mini). IsMini x) (sym (fit.fits.minis it.0 it.1)) (valid_minis_fit it.0.items (length story.opening) size (fit.valid it.0 it.1)))

  pub formatted : IsFormatted s
  formatted = record { old = fit.fits.old; found = fit.fits.found; early = fit.fits.early }

  pub opening : IsOpening s [] s.start
  opening = formatted_opens s formatted

  pub above : IsAboveKnown s (λ c. 0)
  above t is = absurd (subst (λ (l : List ℕ). In t l) (ap (λ (l : List ℕ). l ++ s.old) fit.fits.found ∙ fit.fits.old) is)

  pub serial : IsSerial s st.world
  serial = formatted_clusters_are_serial s (λ c. 0) inputs formatted fitting

  -- the changes alone give the same flat memory as all points, and each matches what stands before it
  abbrev IsHistoryFlat : World → Type 0
  IsHistoryFlat w =
      ((later before : List ℕ) → w.points ≡ later ++ before → (m a : ℕ) → flat s (history s before) m a ≡ flat s before m a) × AllMatch s (history s w.points)

  pub changes_flat : IsHistoryFlat st.world
  changes_flat =
      let r = states_are_runs s [] s.start (λ c. 0) opening above inputs fitting in
      subst (λ (w : World). IsHistoryFlat w) (sym r.1) (history_is_flat s [] s.start opening (events_of s (opened_at s [] s.start (λ c. 0)) inputs) r.0)

  -- ---- what was begun

  pub typed_id : (id : TxId) → WasBegun story.begun id → IsTypedId id
  typed_id id was = subst (λ (t : TxId). IsTypedId t) was.2 (fit.typed was.0 was.1)

  pub items_begun : (id : TxId) (was : WasBegun story.begun id) → items_of story.begun id ≡ was.0.items
  items_begun id was = ap (items_of story.begun) (sym was.2) ∙ own_items story.begun was.0 holds.counted.distinct was.1

  pub mini_is : (id : TxId) (was : WasBegun story.begun id) → s.mini (number id) ≡ mini_of was.0.items
  mini_is id was = ap (λ (t : TxId). s.mini (number t)) (sym was.2) ∙ fit.fits.minis was.0 was.1

  pub nodes_are : (id : TxId) → WasBegun story.begun id → nodes_of s (number id) ≡ participants_of (items_of story.begun id)
  nodes_are id was = ap (λ (x : Mini). x.nodes) (mini_is id was) ∙ sym (participants_are was.0.items) ∙ ap participants_of (sym (items_begun id was))

  granted_is : (id : TxId) (m : ℕ) → WasBegun story.begun id → log.IsGranted st.world.log m (number id) → has_granted id (log_of story m) ≡ true
  granted_is id m was is = sym (all.grants m id (typed_id id was)) ∙ In-has_grant (own m st.world.log) (number id) (log-own m (Grant (number id)) st.world.log is)

  is_granted : (id : TxId) (m : ℕ) → WasBegun story.begun id → has_granted id (log_of story m) ≡ true → log.IsGranted st.world.log m (number id)
  is_granted id m was is = own-log m (Grant (number id)) st.world.log (has_grant-In (own m st.world.log) (number id) (all.grants m id (typed_id id was) ∙ is))

  -- the machine commits what the story commits
  committed_is : (id : TxId) → WasBegun story.begun id → log.IsCommitted s st.world.log (number id) → IsCommitted story id
  committed_is id was commits =
      all_granted_of story id (participants_of (items_of story.begun id))
      (λ m is. granted_is id m was (commits m (subst (λ (l : List ℕ). In m l) (sym (nodes_are id was)) is)))

  is_committed : (id : TxId) → WasBegun story.begun id → IsCommitted story id → log.IsCommitted s st.world.log (number id)
  is_committed id was commits m is =
      is_granted id m was (each_granted story id (participants_of (items_of story.begun id)) commits m (subst (λ (l : List ℕ). In m l) (nodes_are id was) is))

  -- ---- decisions

  aborted_is : (id : TxId) → WasBegun story.begun id → log.IsAborted s st.world.log (number id) → IsAborted story id
  aborted_is id was aborts = record {
    memory = aborts.node;
    takes_part = subst (λ (l : List ℕ). In aborts.node l) (nodes_are id was) aborts.participant;
    never = not_granted (has_granted id (log_of story aborts.node)) refl;
    passed = λ site there. not_above site there (node.standing (node_at site).state id) refl;
  }
    where
      not_granted : (b : Bool) → has_granted id (log_of story aborts.node) ≡ b → b ≡ false
      not_granted true is = absurd (aborts.refused.never (is_granted id aborts.node was is))
      not_granted false is = refl

      not_above : (site : Site) → slice_get story.sites aborts.node ≡ Some site → (x : Standing) → node.standing (node_at site).state id ≡ x → node.is_above x ≡ false
      not_above site there Above is =
          let n = node_at site in
          let own_site = all.sites aborts.node site there in
          let it : IsShownStanding Above (machine.standing s (own aborts.node st.world.log) (number id)) =
          subst (λ (x : Standing). IsShownStanding x (machine.standing s (own aborts.node st.world.log) (number id))) is
          (stands s aborts.node n (view st.world aborts.node) id (named s size story aborts.node n st.world fit holds.counted own_site id was)) in
          absurd ((above_is_not_passed s st.world.log aborts.node (number id)).0 it aborts.refused.passed)
      not_above site there (At v) is = refl
      not_above site there (Below floor) is = refl

  pub agrees : Agrees story
  agrees = record {
    committed = λ m id is.
        let was = holds.voted.begun.logged m (Decided id true) is in
        committed_is id was (serial.commits m (number id) (own-log m (Commit (number id)) st.world.log (all.decided m id true is)));
    aborted = λ m id is.
        let was = holds.voted.begun.logged m (Decided id false) is in
        aborted_is id was (serial.aborts m (number id) (own-log m (Abort (number id)) st.world.log (all.decided m id false is)));
  }

  pub refused_never : RefusedNeverCommit story
  refused_never id is commits =
      let was = holds.voted.begun.refused id is in
      let failed = all.refused id is in
      failed_never_commits s [] s.start (λ c. 0) opening above inputs fitting (number id) failed.0 failed.1 failed.2 (is_committed id was commits)

  -- ---- the flat memory

  pub all_within : (b : Begun) → In b story.begun → All (IsWithin (held_at_opening story)) b.items
  all_within b is =
      valid_within b.items (held_at_opening story) size
      (ap (λ (k : ℕ). refusal b.items k size) (length-map story.opening (λ (z : State). z.image)) ∙ fit.valid b is) sized

  -- whatever was begun lies within the flat memory at each place of the history
  pub within_at : (at : ℕ) (id : TxId) → AllByRecursion (IsWithin (flat_at story at)) (items_of story.begun id)
  within_at at id =
      within_after story.begun (held_at_opening story) (take at story.committed)
      (λ t. within_items (held_at_opening story) story.begun (λ b is. recursion_from_All (IsWithin (held_at_opening story)) b.items (all_within b is)) t) id

  -- the machine's flat memory is the story's
  pub flat_is : (at m a : ℕ) → flat s (reverse (map number (take at story.committed))) m a ≡ cells_of_bytes (flat_at story at) m a
  flat_is at m a =
      cells_are_the_bytes s story fit.fits fit.typed holds.counted.distinct all_within (take at story.committed) (λ id is. holds.granted id (in_take at id story.committed is)) m a

  -- an item is of a participant
  wanted_there : (id : TxId) (was : WasBegun story.begun id) (m : ℕ) (want : Want) → In want ((s.mini (number id)).wants m) → In m (nodes_of s (number id))
  wanted_there id was m want is =
      let it = want_item _ want (subst (λ (x : Mini). In want (x.wants m)) (mini_is id was) is) in
      let from = placed_In 0 was.0.items m it.0 it.1 in
      subst (λ (k : ℕ). In k (nodes_of s (number id))) from.1
      (subst (λ (x : Mini). In (memory_of it.0.item) x.nodes) (sym (mini_is id was))
      (sorted-In (memory_of it.0.item) (map memory_of was.0.items) (map-In memory_of it.0.item was.0.items from.0)))

  -- what matches the machine's flat memory matches the story's
  pub matches_is : (id : TxId) (was : WasBegun story.begun id) (at : ℕ) (f : ℕ → ℕ → ℕ) → ((m a : ℕ) → f m a ≡ cells_of_bytes (flat_at story at) m a)
      → ((m : ℕ) → In m (nodes_of s (number id)) → table.Matches s (number id) m (f m)) → Matches (items_of story.begun id) (flat_at story at)
  matches_is id was at f same match =
      subst (λ (items : List Item). Matches items (flat_at story at)) (sym (items_begun id was))
      ((minis_match_alike s (number id) was.0.items (flat_at story at) (mini_is id was)
      (All-from_recursion (IsWithin (flat_at story at)) was.0.items (subst (λ (items : List Item). AllByRecursion (IsWithin (flat_at story at)) items) (items_begun id was) (within_at at id)))).1
      (λ m want is. sym (same m want.cell) ∙ match m (wanted_there id was m want is) want is))

  -- ---- the history

  pub change_was : (id : TxId) → In id story.committed → WasBegun story.begun id
  change_was id is = was_written story.begun id (holds.granted id is).written

  pub is_history : IsHistory story
  is_history = record {
    once = once_of story.committed (subst (λ (l : List ℕ). IsDistinct l) all.history (distinct_filter (λ t. (s.mini t).has_write) st.world.points serial.points.0));
    matches = λ at id is.
        let was = change_was id (get_in story.committed at id is) in
        let before = reverse (map number (take at story.committed)) in
        let split : history s st.world.points ≡ reverse (map number (drop (suc at) story.committed)) ++ number id ∷ before =
        all.history ∙ ap (λ (ids : List TxId). reverse (map number ids)) (at_place story.committed at id is)
        ∙ newest_first number (take at story.committed) id (drop (suc at) story.committed) in
        let match = match_behind s (reverse (map number (drop (suc at) story.committed))) (number id ∷ before) (subst (λ (l : List ℕ). AllMatch s l) split changes_flat.1) in
        matches_is id was at (flat s before) (flat_is at) match.0;
  }
