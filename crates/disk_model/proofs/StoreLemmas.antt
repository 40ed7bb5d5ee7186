-- What the frames and the pending ranges keep through each change.
use Rattle.std.proofs.Common.{◌≡◌, ℕ, ◌-◌, ◌<◌, Bool, true, false, cond, List, [], ◌∷◌, ◌++◌, length, refl, sym, ap, ◌∙◌, arith, inl, inr}
use Rattle.std.specs.Prelude.{slice_index, ◌||◌}
use Rattle.disk_model.specs.declared.choice.Choice.{Choice}
use Rattle.disk_model.specs.declared.choice.Choice.TheVariants.{Old, New, Fill}
use Rattle.disk_model.specs.declared.change.Change.{Change}
use Rattle.disk_model.specs.declared.change.Change.TheVariants.{Wrote, Missed, Synced, Restarted}
use Rattle.disk_model.specs.declared.overwritten.Overwritten.{Overwritten}
use Rattle.disk_model.specs.Crash.{Content, History, Holds, covers, is_pending, put}
use Rattle.disk_model.specs.Plan.{changed, history_after}
use Rattle.disk_model.specs.Restart.{image_of}
use Rattle.disk_model.specs.Store.{ranges_of, undone, image_by, IsKept}
use Rattle.disk_model.proofs.ContentLemmas.{put_alike, put_back, put_same, put_in, put_out, cases_covers, covered, covered_not}

-- one change more, at the end
pub history_more : (history : History) (changes : List Change) (change : Change) → history_after history (changes ++ change ∷ []) ≡ changed (history_after history changes) change
unfolding history_after
history_more history [] change = refl
history_more history (first ∷ changes) change = history_more (changed history first) changes change

-- what is put back onto contents that are alike is alike
pub undone_alike : (content other : Content) (os : List Overwritten) → ((place : ℕ) → content place ≡ other place) → (place : ℕ) → undone content os place ≡ undone other os place
undone_alike content other [] alike place = alike place
undone_alike content other (o ∷ os) alike place = put_alike (undone content os) (undone other os) o.at o.bytes.items (undone_alike content other os alike) place

-- the newest is put back first
pub undone_more : (content : Content) (os : List Overwritten) (o : Overwritten) (place : ℕ) → undone content (os ++ o ∷ []) place ≡ undone (put content o.at o.bytes.items) os place
undone_more content [] o place = refl
undone_more content (p ∷ os) o place = put_alike (undone content (os ++ o ∷ [])) (undone (put content o.at o.bytes.items) os) p.at p.bytes.items (undone_more content os o) place

or_moves : (a b c : Bool) → a || (b || c) ≡ b || (a || c)
or_moves true true c = refl
or_moves true false c = refl
or_moves false b c = refl

-- one range more, at the end
pub pending_more : (os : List Overwritten) (o : Overwritten) (place : ℕ)
    → is_pending (ranges_of (os ++ o ∷ [])) place ≡ covers o.at (length o.bytes.items) place || is_pending (ranges_of os) place
pending_more [] o place = refl
pending_more (p ∷ os) o place =
    ap (λ b. covers p.at (length p.bytes.items) place || b) (pending_more os o place)
    ∙ or_moves (covers p.at (length p.bytes.items) place) (covers o.at (length o.bytes.items) place) (is_pending (ranges_of os) place)

module _ (content : Content) (os : List Overwritten) (history : History) (kept : IsKept content os history) where
  pub kept_write : (next : Content) (o : Overwritten) (at : ℕ) (bytes : List ℕ) → o.at ≡ at → length o.bytes.items ≡ length bytes → Holds content at o.bytes.items
      → ((place : ℕ) → next place ≡ put content at bytes place) → IsKept next (os ++ o ∷ []) (changed history (Wrote at bytes))
  kept_write next o at bytes there same holds wrote = record {
    now = λ place. wrote place ∙ put_alike content history.now.content at bytes kept.now place;
    synced = λ place.
        undone_more next os o place
        ∙ undone_alike (put next o.at o.bytes.items) content os (λ p.
        ap (λ (a : ℕ). put next a o.bytes.items p) there ∙ put_alike next (put content at bytes) at o.bytes.items wrote p ∙ put_back content at bytes o.bytes.items holds same p) place
        ∙ kept.synced place;
    pending = λ place.
        pending_more os o place ∙ ap (λ b. covers o.at (length o.bytes.items) place || b) (kept.pending place)
        ∙ ap (λ (a : ℕ). covers a (length o.bytes.items) place || is_pending history.now.pending place) there
        ∙ ap (λ (n : ℕ). covers at n place || is_pending history.now.pending place) same;
  }

  pub kept_miss : (o : Overwritten) (at n : ℕ) → o.at ≡ at → length o.bytes.items ≡ n → Holds content at o.bytes.items
      → IsKept content (os ++ o ∷ []) (changed history (Missed at n))
  kept_miss o at n there same holds = record {
    now = kept.now;
    synced = λ place.
        undone_more content os o place
        ∙ undone_alike (put content o.at o.bytes.items) content os (λ p.
        ap (λ (a : ℕ). put content a o.bytes.items p) there ∙ put_same content at o.bytes.items holds p) place
        ∙ kept.synced place;
    pending = λ place.
        pending_more os o place ∙ ap (λ b. covers o.at (length o.bytes.items) place || b) (kept.pending place)
        ∙ ap (λ (a : ℕ). covers a (length o.bytes.items) place || is_pending history.now.pending place) there
        ∙ ap (λ (m : ℕ). covers at m place || is_pending history.now.pending place) same;
  }

  pub kept_sync : IsKept content [] (changed history Synced)
  kept_sync = record { now = kept.now; synced = kept.now; pending = λ place. refl }

  pub kept_restart : (choice : Choice) (next : Content) → ((place : ℕ) → next place ≡ image_of choice history place) → IsKept next [] (changed history (Restarted choice))
  kept_restart choice next taken = record { now = taken; synced = taken; pending = λ place. refl }

  -- what a restart takes is the image that the choice names
  pub image_is : (choice : Choice) (place : ℕ) → image_by choice content os place ≡ image_of choice history place
  image_is Old place = kept.synced place
  image_is New place = kept.now place
  image_is (Fill byte) place =
      ap (λ b. cond b byte (content place)) (kept.pending place) ∙ ap (λ x. cond (is_pending history.now.pending place) byte x) (kept.now place)

-- one range more has this byte
pub filled_more : (content next : Content) (os : List Overwritten) (o : Overwritten) (bytes : List ℕ) (byte : ℕ) → length bytes ≡ length o.bytes.items
    → ((i : ℕ) → i < length bytes → slice_index bytes i ≡ byte) → ((place : ℕ) → next place ≡ put content o.at bytes place) → (place : ℕ)
    → cond (is_pending (ranges_of os) place) byte (next place) ≡ cond (is_pending (ranges_of (os ++ o ∷ [])) place) byte (content place)
filled_more content next os o bytes byte same all wrote place =
    ap (λ x. cond (is_pending (ranges_of os) place) byte x) (wrote place)
    ∙ elim (cases_covers o.at (length bytes) place) [
      | inl inside ↦
          ap (λ x. cond (is_pending (ranges_of os) place) byte x) (put_in content o.at bytes place inside.0 inside.1 ∙ all (place - o.at) (omega arith))
          ∙ both (is_pending (ranges_of os) place) byte
          ∙ sym (ap (λ b. cond b byte (content place)) (pending_more os o place ∙ ap (λ b. b || is_pending (ranges_of os) place) (covered o.at (length o.bytes.items) place inside.0 (omega arith))))
      | inr outside ↦
          ap (λ x. cond (is_pending (ranges_of os) place) byte x) (put_out content o.at bytes place outside)
          ∙ sym (ap (λ b. cond b byte (content place)) (pending_more os o place ∙ ap (λ b. b || is_pending (ranges_of os) place) (covered_not o.at (length o.bytes.items) place (elim outside [
            | inl low ↦ inl low
            | inr high ↦ inr (omega arith)
          ]))))
    ]
  where
    both : (b : Bool) (x : ℕ) → cond b x x ≡ x
    both true x = refl
    both false x = refl
