-- Notes are true, and tell where votes were cast.
use Rattle.std.proofs.Common.{◌≡◌, ◌≢◌, ◌⊎◌, inl, inr, ◌+◌, ℕ, Bool, true, false, List, [], ◌∷◌, ◌++◌, length, Option, Some, None, refl, sym, ap, subst, ◌∙◌, arith, slice_get, if◌then◌else◌}
use Rattle.lock_table.proofs.OrderLemmas.{is_one, same_self}
use Rattle.mini_tx.specs.declared.actor.Actor.{Actor}
use Rattle.mini_tx.specs.declared.actor.Actor.TheVariants.{Memory}
use Rattle.mini_tx.specs.declared.entry.Entry.{Entry}
use Rattle.mini_tx.specs.declared.item.Item.{Item}
use Rattle.mini_tx.specs.declared.message.Message.{Message}
use Rattle.mini_tx.specs.declared.posted.Posted.{Posted}
use Rattle.mini_tx.specs.declared.tx_id.TxId.{TxId}
use Rattle.mini_tx.specs.Order.{is_same}
use Rattle.tx_coord.specs.Rules as rules
use Rattle.tx_coord.specs.Rules.{next_id}
use Rattle.tx_coord.specs.State as coord
use Rattle.tx_rules.specs.Mini.{In}
use Rattle.story_rules.specs.MemoryNodes.{MemoryNode, Reaction, reaction}
use Rattle.story_rules.specs.Story.{Begun, Cast, Entered, Sent, Seat, Story, Up}
use Rattle.story_rules.specs.Steps as steps
use Rattle.story_rules.specs.Steps.{Handled, begun_by, delivered, grant_of, is_logged, items_of, message_at, stepped}
use Rattle.story_laws.specs.Acts.{Begins, Holds, IsTold, MayHappen}
use Rattle.story_laws.specs.Beginnings.{WasBegun}
use Rattle.story_laws.specs.Identifiers.{HasBegun, IsPast, IsSeated}
use Rattle.story_laws.proofs.ActLemmas.{stories_go_on, told_stories_hold}
use Rattle.story_laws.proofs.GrowthLemmas.{counted_grows}
use Rattle.story_laws.proofs.IdentifierLemmas.{counted_same}
use Rattle.story_laws.proofs.OutcomeLemmas.{own_items}
use Rattle.story_shown.specs.History.{IsLastCast}
use Rattle.story_shown.proofs.ImageLemmas.{told_stories_are_flat}
use Rattle.cluster_notes.specs.Notes.{Noted, cast_of, fresh, with_entry}
use Rattle.cast_laws.specs.Noted.{CastsAreTold, IsNoteOf, NotesAreTrue, noted_by}

some_one : (x y : TxId) → ◌≡◌ {A = Option TxId} (Some x) (Some y) → x ≡ y
some_one x y eq = cc

in_front : {A : Type 0} (x : A) (xs ys : List A) → In x xs → In x (xs ++ ys)
in_front x [] ys is = absurd is
in_front x (y ∷ xs) ys is = elim is [ inl same ↦ inl same | inr there ↦ inr (in_front x xs ys there) ]

in_behind : {A : Type 0} (x : A) (xs ys : List A) → In x ys → In x (xs ++ ys)
in_behind x [] ys is = is
in_behind x (y ∷ xs) ys is = inr (in_behind x xs ys is)

in_split : {A : Type 0} (x : A) (xs ys : List A) → In x (xs ++ ys) → In x xs ⊎ In x ys
in_split x [] ys is = inr is
in_split x (y ∷ xs) ys is = elim is [
  | inl same ↦ inl (inl same)
  | inr there ↦ elim (in_split x xs ys there) [ inl front ↦ inl (inr front) | inr behind ↦ inr behind ]
]

-- ---- which casts a memory node's step adds

entry_casts : (story : Story) (m : ℕ) (e : Option Entry) → (steps.with_entry story m e).casts ≡ story.casts
entry_casts story m None = refl
entry_casts story m (Some e) = refl

entry_committed : (story : Story) (m : ℕ) (e : Option Entry) → (steps.with_entry story m e).committed ≡ story.committed
entry_committed story m None = refl
entry_committed story m (Some e) = refl

-- this vote was cast by an entry that grants it
abbrev pub IsAdded : ℕ → ℕ → Option TxId → TxId → ℕ → ℕ → Type 0
IsAdded at m g id w k = (g ≡ Some id) × (w ≡ m) × (k ≡ at)

entered_is : (a b : TxId) (m w k l : ℕ) → ◌≡◌ {A = Cast} (Entered a m k) (Entered b w l) → (a ≡ b) × (m ≡ w) × (k ≡ l)
entered_is a b m w k l same = (cc, cc, cc)

grant_splits : (s : Story) (m : ℕ) (g : Option TxId) (id : TxId) (w k : ℕ) → In (Entered id w k) (steps.with_grant s m g).casts → In (Entered id w k) s.casts ⊎ IsAdded (length s.committed) m g id w k
grant_splits s m None id w k is = inl is
grant_splits s m (Some x) id w k is = elim (in_split (Entered id w k) s.casts (Entered x m (length s.committed) ∷ []) is) [
  | inl old ↦ inl old
  | inr new ↦ elim new [
    | inl same ↦ let it = entered_is id x w m k (length s.committed) same in inr (ap (λ (y : TxId). Some y) (sym it.0), it.1, it.2)
    | inr none ↦ absurd none
  ]
]

answer_splits : (s : Story) (m : ℕ) (sender : Actor) (answer : Option Message) (id : TxId) (w k : ℕ) → In (Entered id w k) (steps.with_answer s m sender answer).casts → In (Entered id w k) s.casts
answer_splits s m sender None id w k is = is
answer_splits s m sender (Some x) id w k is = go (steps.is_look s.begun x) is
  where
    go : (b : Bool) → In (Entered id w k) (if b then s.casts ++ Sent (length s.posted + 1) (length s.committed) ∷ [] else s.casts) → In (Entered id w k) s.casts
    go true there = elim (in_split (Entered id w k) s.casts (Sent (length s.posted + 1) (length s.committed) ∷ []) there) [
      | inl old ↦ old
      | inr new ↦ absurd (elim new [ inl same ↦ cc | inr none ↦ none ])
    ]
    go false there = there

in_answer : (s : Story) (m : ℕ) (sender : Actor) (answer : Option Message) (c : Cast) → In c s.casts → In c (steps.with_answer s m sender answer).casts
in_answer s m sender None c is = is
in_answer s m sender (Some x) c is = go (steps.is_look s.begun x)
  where
    go : (b : Bool) → In c (if b then s.casts ++ Sent (length s.posted + 1) (length s.committed) ∷ [] else s.casts)
    go true = in_front c s.casts (Sent (length s.posted + 1) (length s.committed) ∷ []) is
    go false = is

module _ (story : Story) (m : ℕ) (sender : Actor) (e : Option Entry) (answer : Option Message) where
  abbrev logged_ : Story
  logged_ = steps.with_entry story m e

  abbrev after_ : Story
  after_ = steps.counted story m sender e answer

  counted_splits : (id : TxId) (w k : ℕ) → In (Entered id w k) after_.casts → In (Entered id w k) story.casts ⊎ IsAdded (length story.committed) m (grant_of e) id w k
  counted_splits id w k is =
      elim (grant_splits logged_ m (grant_of e) id w k (answer_splits (steps.with_grant logged_ m (grant_of e)) m sender answer id w k is)) [
        | inl old ↦ inl (subst (λ (cs : List Cast). In (Entered id w k) cs) (entry_casts story m e) old)
        | inr new ↦ inr (new.0, new.1, new.2 ∙ ap (λ (ids : List TxId). length ids) (entry_committed story m e))
      ]

  counted_adds : (id : TxId) → grant_of e ≡ Some id → In (Entered id m (length story.committed)) after_.casts
  counted_adds id grants =
      in_answer (steps.with_grant logged_ m (grant_of e)) m sender answer (Entered id m (length story.committed))
      (subst (λ (g : Option TxId). In (Entered id m (length story.committed)) (steps.with_grant logged_ m g).casts) (sym grants)
      (in_behind (Entered id m (length story.committed)) logged_.casts (Entered id m (length logged_.committed) ∷ [])
      (inl (ap (λ (ids : List TxId). Entered id m (length ids)) (sym (entry_committed story m e))))))

  counted_keeps : (c : Cast) → In c story.casts → In c after_.casts
  counted_keeps c is =
      let adds = (counted_grows story m sender e answer).casts in
      subst (λ (cs : List Cast). In c cs) (sym adds.1) (in_front c story.casts adds.0 is)

  -- a note that is brought up to it
  module _ (holds : Holds story) (d : coord.State) (note : Noted) (is : IsNoteOf story d note) where
    same_logged : (id : TxId) → is_logged (items_of story.begun id) ≡ is_logged (items_of after_.begun id)
    same_logged id = ap (λ (bs : List Begun). is_logged (items_of bs id)) (sym (counted_same story m sender e answer).begun)

    -- nothing new was granted on it
    quiet : ¬ (grant_of e ≡ Some note.id) → IsNoteOf after_ d note
    quiet other = record {
      id = is.id;
      logged = is.logged ∙ same_logged note.id;
      last = λ w k there. elim (counted_splits note.id w k there) [ inl old ↦ is.last w k old | inr new ↦ absurd (other new.0) ];
      there = λ w k there. elim (counted_splits note.id w k there) [
        | inl old ↦ let it = is.there w k old in (it.0, counted_keeps (Entered note.id it.0 note.entered) it.1)
        | inr new ↦ absurd (other new.0)
      ];
    }

    newly : grant_of e ≡ Some note.id → IsNoteOf after_ d (with_entry true (length story.committed) note)
    newly grants = record {
      id = is.id;
      logged = is.logged ∙ same_logged note.id;
      last = λ w k there. elim (counted_splits note.id w k there) [
        | inl old ↦ holds.cast.moments (Entered note.id w k) old
        | inr new ↦ let at : k ≡ length story.committed = new.2 in omega (arith, at)
      ];
      there = λ w k there. (m, counted_adds note.id grants);
    }

    brought : (g : Option TxId) → grant_of e ≡ g → IsNoteOf after_ d (noted_by g (length story.committed) note)
    brought None grants = quiet (λ some. let e : ◌≡◌ {A = Option TxId} None (Some note.id) = sym grants ∙ some in absurd cc)
    brought (Some id) grants = go (is_same id note.id) refl
      where
        go : (b : Bool) → is_same id note.id ≡ b → IsNoteOf after_ d (if b then with_entry true (length story.committed) note else note)
        go true same = newly (grants ∙ ap (λ (x : TxId). Some x) (is_one id note.id same))
        go false other = quiet (λ some.
            let one : id ≡ note.id = some_one id note.id (sym grants ∙ some) in
            let e : ◌≡◌ {A = Bool} true false = sym (same_self note.id) ∙ ap (λ (x : TxId). is_same x note.id) (sym one) ∙ other in absurd cc)

voted : (size : ℕ) (story : Story) (k m : ℕ) (p : Posted) (node : MemoryNode) (d : coord.State) (note : Noted) → IsTold size story → message_at story k ≡ Some p → p.to ≡ Memory m
    → slice_get story.sites m ≡ Some (Up node) → IsNoteOf story d note
    → IsNoteOf (delivered story k Handled) d (noted_by (grant_of (reaction node p.message).entry) (length story.committed) note)
voted size story k m p node d note told posted to site is =
    subst (λ (s : Story). IsNoteOf s d (noted_by (grant_of r.entry) (length story.committed) note)) (sym step)
    (moved (brought story m p.from r.entry r.answer (told_stories_hold size story told) d note is (grant_of r.entry) refl))
  where
    r : Reaction
    r = reaction node p.message

    step : delivered story k Handled ≡ steps.with_site (steps.counted story m p.from (reaction node p.message).entry (reaction node p.message).answer) m (Up (reaction node p.message).now)
    step = ap (steps.given story k Handled) posted ∙ ap (steps.to_receiver story k Handled p) to ∙ ap (steps.to_memory story m k p Handled) site

    moved : {s : Story} {x : Noted} → IsNoteOf s d x → IsNoteOf (steps.with_site s m (Up (reaction node p.message).now)) d x
    moved it = record { id = it.id; logged = it.logged; last = it.last; there = it.there }

-- ---- beginnings

module _ (size : ℕ) (story : Story) (told : IsTold size story) (n : ℕ) (seat : Seat) (c : coord.State) (there : slice_get story.nodes n ≡ Some seat) (runs : seat.actor ≡ Some c) where
  holds : Holds story
  holds = told_stories_hold size story told

  own_seat : IsSeated n seat.boot (Some c)
  own_seat = subst (λ (a : Option coord.State). IsSeated n seat.boot a) runs (holds.counted.seated n seat there)

  not_begun : WasBegun story.begun (next_id c) → ⊥
  not_begun was =
      let b = was.0 in
      let same : b.id ≡ next_id c = was.2 in
      let coord_ : b.id.coord ≡ n = ap (λ (id : TxId). id.coord) same ∙ own_seat.0 in
      let boot : b.id.boot ≡ seat.boot = ap (λ (id : TxId). id.boot) same ∙ own_seat.1 in
      let seq : b.id.seq ≡ c.begun + 1 = ap (λ (id : TxId). id.seq) same in
      let past : IsPast (Some seat) b.id = subst (λ (s : Option Seat). IsPast s b.id) (ap (slice_get story.nodes) coord_ ∙ there) (holds.counted.past b was.1) in
      elim past [
        | inl before ↦ absurd (omega (arith, before, boot))
        | inr later ↦ let least = subst (λ (a : Option coord.State). HasBegun a b.id.seq) runs later.1 in absurd (omega (arith, least, seq))
      ]

  module _ (items : List Item) where
    abbrev new : Begun
    new = record { id = next_id c; items = items }

    abbrev later : Story
    later = record (stepped story n seat.boot c (rules.begun c items)) { begun = story.begun ++ new ∷ [] }

    abbrev does : ℕ → coord.State → Story
    does boot d = record (stepped story n boot d (rules.begun d items)) { begun = story.begun ++ record { id = next_id d; items = items } ∷ [] }

    step : begun_by story n items ≡ later
    step = ap (steps.at_seat story does) there ∙ ap (steps.at_actor story does seat.boot) runs

    first_note : MayHappen size story (Begins n items) → IsNoteOf (begun_by story n items) (rules.begun c items).now (fresh (next_id c) (is_logged items))
    first_note may =
        let after_holds = subst (λ (s : Story). Holds s) step (told_stories_hold size (begun_by story n items) (stories_go_on size story (Begins n items) told may)) in
        let none = λ (m k : ℕ) (is : In (Entered (next_id c) m k) story.casts). not_begun (holds.voted.begun.cast (Entered (next_id c) m k) is) in
        subst (λ (s : Story). IsNoteOf s (rules.begun c items).now (fresh (next_id c) (is_logged items))) (sym step) (record {
          id = refl;
          logged = ap is_logged (sym (own_items later.begun new after_holds.counted.distinct (in_behind new story.begun (new ∷ []) (inl refl))));
          last = λ m k is. absurd (none m k is);
          there = λ m k is. absurd (none m k is);
        })

    items_before : (begun : List Begun) (id : TxId) → is_same (next_id c) id ≡ false → items_of (begun ++ new ∷ []) id ≡ items_of begun id
    items_before [] id other = ap (λ (t : Bool). if t then items else []) other
    items_before (b ∷ begun) id other = ap (λ (is : List Item). if is_same b.id id then b.items else is) (items_before begun id other)

    beside_note : (other : ℕ) (beside : Seat) (d : coord.State) (note : Noted) → slice_get story.nodes other ≡ Some beside → beside.actor ≡ Some d → other ≢ n
        → IsNoteOf story d note → IsNoteOf (begun_by story n items) d note
    beside_note other beside d note at actor apart is =
        subst (λ (s : Story). IsNoteOf s d note) (sym step) (record {
          id = is.id;
          logged = is.logged ∙ ap is_logged (sym (items_before story.begun note.id (differs (is_same (next_id c) note.id) refl)));
          last = is.last;
          there = is.there;
        })
      where
        its_seat : IsSeated other beside.boot (Some d)
        its_seat = subst (λ (a : Option coord.State). IsSeated other beside.boot a) actor (holds.counted.seated other beside at)

        differs : (b : Bool) → is_same (next_id c) note.id ≡ b → is_same (next_id c) note.id ≡ false
        differs false is_ = is_
        differs true is_ = absurd (apart (sym its_seat.0 ∙ ap (λ (id : TxId). id.coord) (sym (is_one (next_id c) note.id is_ ∙ is.id)) ∙ own_seat.0))

pub notes_are_true : NotesAreTrue
notes_are_true = record {
  begun = λ size story n seat c items told may there runs. first_note size story told n seat c there runs items may;
  beside = λ size story n other seat beside c d items note told there runs at actor apart is. beside_note size story told n seat c there runs items other beside d note at actor apart is;
  voted = voted;
}

-- ---- what a true note tells

pub casts_are_told : CastsAreTold
casts_are_told size story n seat c bytes note told there runs ended is logged =
    let flat = told_stories_are_flat size story told in
    let it = flat.outcomes n seat c bytes there runs ended in
    let b = it.0 in
    let own : note.id ≡ b.id = is.id ∙ sym it.2 in
    let holds = told_stories_hold size story told in
    let with_entries : is_logged b.items ≡ true =
    ap is_logged (sym (own_items story.begun b holds.counted.distinct it.1)) ∙ ap (λ (id : TxId). is_logged (items_of story.begun id)) (sym own) ∙ sym is.logged ∙ logged in
    let cast : IsLastCast story.casts b.id it.3.at = it.3.cast with_entries in
    (b, it.1, it.2, it.3, same it.3.at note own logged cast is)
  where
    same : (at : ℕ) {id : TxId} (x : Noted) → x.id ≡ id → x.logged ≡ true → IsLastCast story.casts id at → IsNoteOf story c x → at ≡ cast_of x
    same at {id} x own logged_ cast note_ =
        let here : In (Entered x.id cast.memory at) story.casts = subst (λ (i : TxId). In (Entered i cast.memory at) story.casts) (sym own) cast.there in
        let below = note_.last cast.memory at here in
        let one = note_.there cast.memory at here in
        let above = cast.last one.0 x.entered (subst (λ (i : TxId). In (Entered i one.0 x.entered) story.casts) own one.1) in
        let entered : x.entered ≡ cast_of x = ap (λ (t : Bool). if t then x.entered else x.counted) (sym logged_) in
        let equal : at ≡ x.entered = omega (arith, below, above) in
        equal ∙ entered
