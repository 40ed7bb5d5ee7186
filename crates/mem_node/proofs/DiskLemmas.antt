-- What the disk of a memory node stands for, through an append to its log.
use Rattle.std.proofs.Common.{◌≡◌, ◌≤◌, ◌<◌, ◌+◌, ◌^◌, ℕ, List, [], ◌∷◌, ◌++◌, map, Some, Result, Ok, refl, sym, ap, subst, ◌∙◌, arith, inl, inr}
use Rattle.std.proofs.lemmas.List.{map-append}
use Rattle.disk_model.specs.Crash.{Content, Snapshot, History, Holds, MayLeave, LeavesOnly, is_pending}
use Rattle.disk_model.specs.LogBytes as log
use Rattle.disk_model.specs.Health.{Health}
use Rattle.disk_model.proofs.MomentLemmas.{weaker_moments, holds_last}
use Rattle.gate_log.specs.declared.log.Log.{Log}
use Rattle.gate_log.specs.declared.side.Side.{Side}
use Rattle.gate_log.specs.declared.side.Side.TheVariants.{First, Second}
use Rattle.gate_log.specs.Boot.{side_of}
use Rattle.gate_log.specs.Append as gate
use Rattle.gate_log.specs.Log.{IsLog}
use Rattle.gate_log.proofs.LogLemmas.{holds_alike, stands_alike}
use Rattle.mini_tx.specs.declared.entry.Entry.{Entry}
use Rattle.mini_tx.specs.EntryGrammar.{entry_spelling}
use Rattle.mini_tx.specs.EntryReading.{entry_of}
use Rattle.mem_rules.specs.declared.setup.Setup.{Setup}
use Rattle.mem_rules.specs.State.{State, opened, after_entry, after}
use Rattle.mem_rules.specs.Fit.{IsFit, size_of}
use Rattle.node_disk.specs.Half.{half_of, image_at, log_at}
use Rattle.node_disk.specs.Header.{header_bytes, IsFormatted}
use Rattle.node_disk.proofs.HeaderLemmas.{length-header}
use Rattle.mem_node.specs.Disk.{AreFit, Makes, Has}
use Rattle.mem_node.specs.Node.{IsSoundOn, IsBeforeOrAfter}

-- ---- entries

after_more : (s : State) (entries : List Entry) (e : Entry) → after s (entries ++ e ∷ []) ≡ after_entry (after s entries) e
after_more s [] e = refl
after_more s (first ∷ entries) e = after_more (after_entry s first) entries e

fit_more : (s : Setup) (state : State) (entries : List Entry) (e : Entry) → AreFit s state entries → IsFit s (after state entries) e → AreFit s state (entries ++ e ∷ [])
fit_more s state [] e fit one = (one, tt)
fit_more s state (first ∷ entries) e fit one = (fit.0, fit_more s (after_entry state first) entries e fit.1 one)

-- one entry more
pub makes_more : (s : Setup) (image : List ℕ) (bytes : List (List ℕ)) (state : State) (b : List ℕ) (e : Entry) → Makes s image bytes state
    → entry_of b ≡ Ok e → IsFit s state e → Makes s image (bytes ++ b ∷ []) (after_entry state e)
makes_more s image bytes state b e makes read fit =
    let start = opened s.geometry.nodes image in
    record {
      entries = makes.entries ++ e ∷ [];
      read = map-append entry_of bytes (b ∷ [])
          ∙ ap (λ (x : List (Result Entry (Unit {0}))). x ++ (entry_of b ∷ [])) makes.read
          ∙ ap (λ (x : Result Entry (Unit {0})). map Ok makes.entries ++ (x ∷ [])) read
          ∙ sym (map-append Ok makes.entries (e ∷ []));
      fit = fit_more s start makes.entries e makes.fit (subst (λ (x : State). IsFit s x e) makes.made fit);
      made = ap (λ (x : State). after_entry x e) makes.made ∙ sym (after_more start makes.entries e);
    }

-- ---- places

-- before the logs all bytes are the same
abbrev pub IsSameBefore : Content → Content → Type 0
IsSameBefore content image = (place : ℕ) → place < 2 ^ 32 → image place ≡ content place

formatted_alike : (s : Setup) (content other : Content) → IsSameBefore content other → IsFormatted s content → IsFormatted s other
formatted_alike s content other same formatted = record {
  header = holds_alike content other 64 (header_bytes s) (λ i below. same (64 + i) (omega (arith, length-header s))) formatted.header;
  mark = same 128 (omega arith) ∙ formatted.mark;
}

half_alike : (content other : Content) → IsSameBefore content other → half_of other ≡ half_of content
half_alike content other same = ap side_of (same 0 (omega arith))

-- the images lie before the logs
image_below : (s : Setup) (half : Side) → size_of s ≤ 69214208 → image_at s half + size_of s ≤ 2 ^ 32
image_below s First small = omega arith
image_below s Second small = omega arith

log_above : (half : Side) → 2 ^ 32 ≤ log_at half
log_above First = omega arith
log_above Second = omega arith

-- what is the same before the logs, and has a log of these bytes
pub has_alike : (s : Setup) (content other : Content) (image : List ℕ) (bytes more : List (List ℕ)) → size_of s ≤ 69214208
    → IsSameBefore content other → log.StandsFor other (log_at (half_of content)) more → Has s content image bytes → Has s other image more
has_alike s content other image bytes more small same stands has =
    let sized = has.sized in
    let at = image_at s (half_of content) in
    let below = image_below s (half_of content) small in
    let half = sym (half_alike content other same) in
    record {
      formatted = formatted_alike s content other same has.formatted;
      sized = sized;
      stored = subst (λ (h : Side). Holds other (image_at s h) image) half
          (holds_alike content other at image (λ i within. same (at + i) (omega (arith, sized, below, within))) has.stored);
      log = subst (λ (h : Side). log.StandsFor other (log_at h) more) half stands;
    }

-- ---- moments

-- what a crash leaves where nothing is pending
unchanged : (snapshot : Snapshot) (image : Content) → snapshot.pending ≡ [] → MayLeave snapshot image → (place : ℕ) → image place ≡ snapshot.content place
unchanged snapshot image none left place = left.same place (ap (λ (p : List (ℕ × ℕ)). is_pending p place) none)

module _ {D : Type 0} (tells : D → Type 0) (history : D → History) (health : D → Health) (s : Setup) (node : Log D) (stored : List ℕ) (bytes : List (List ℕ)) (state : State)
    (small : size_of s ≤ 69214208) (sound : IsSoundOn tells history health s node stored bytes state) where
  abbrev content : Content
  content = (history node.disk).now.content

  abbrev base : ℕ
  base = log_at (half_of content)

  -- a crash leaves what the disk has
  pub sound_leaves : (image : Content) → MayLeave (history node.disk).now image → Has s image stored bytes
  sound_leaves image left =
      let same = unchanged (history node.disk).now image sound.logged.ready.safe left in
      has_alike s content image stored bytes bytes small (λ place low. same place)
      (stands_alike content image base bytes (λ i below. same (base + i)) sound.has.log) sound.has

  module _ (e : Entry) where
    -- before the log nothing is written
    same_before : (image : Content) → gate.IsAppending base bytes (entry_spelling e) content image → IsSameBefore content image
    same_before image appending place low = appending.rest place (inl (let above = log_above (half_of content) in omega (arith, low, above)))

    -- what the disk has with the bytes of the entry behind the log, or without them
    has_one : (image : Content) → gate.IsAppending base bytes (entry_spelling e) content image → IsBeforeOrAfter s stored bytes (Some e) image
    has_one image appending = by_log appending.log
      where
        by_log : gate.IsBeforeOrAfter base bytes (entry_spelling e) image → IsBeforeOrAfter s stored bytes (Some e) image
        by_log (inl stands) = inl (has_alike s content image stored bytes bytes small (same_before image appending) stands sound.has)
        by_log (inr stands) = inr (has_alike s content image stored bytes (bytes ++ entry_spelling e ∷ []) small (same_before image appending) stands sound.has)

    -- the moments of an append of bytes to a log
    abbrev pub Moments : History → ℕ → List ℕ → Type 0
    Moments now at b = LeavesOnly (history node.disk) now (gate.IsAppending at bytes b content)

    at_base : (now : History) (b : List ℕ) → b ≡ entry_spelling e → Moments now node.extent.base b → Moments now base (entry_spelling e)
    at_base now b is leaves = subst (λ (x : List ℕ). Moments now base x) is (subst (λ (n : ℕ). Moments now n b) sound.half leaves)

    pub append_leaves : (now : History) (b : List ℕ) → b ≡ entry_spelling e → Moments now node.extent.base b
        → LeavesOnly (history node.disk) now (IsBeforeOrAfter s stored bytes (Some e))
    append_leaves now b is leaves =
        weaker_moments (gate.IsAppending base bytes (entry_spelling e) content)
        (IsBeforeOrAfter s stored bytes (Some e)) (history node.disk) now has_one (at_base now b is leaves)

    pub append_sound : (more : Log D) (b : List ℕ) → b ≡ entry_spelling e → more.extent.base ≡ node.extent.base
        → IsLog tells history health more (bytes ++ entry_spelling e ∷ []) → Moments (history more.disk) node.extent.base b
        → entry_of (entry_spelling e) ≡ Ok e → IsFit s state e → IsSoundOn tells history health s more stored (bytes ++ entry_spelling e ∷ []) (after_entry state e)
    append_sound more b is still logged leaves read fit =
        let now = (history more.disk).now in
        let left = holds_last (gate.IsAppending base bytes (entry_spelling e) content)
        (history node.disk) (history more.disk) (at_base (history more.disk) b is leaves) in
        let same = same_before now.content left in
        record {
          logged = logged;
          half = still ∙ sound.half ∙ ap log_at (sym (half_alike content now.content same));
          has = has_alike s content now.content stored bytes (bytes ++ entry_spelling e ∷ []) small same
              (subst (λ (n : ℕ). log.StandsFor now.content n (bytes ++ entry_spelling e ∷ [])) (still ∙ sound.half) logged.stands) sound.has;
          makes = makes_more s stored bytes state (entry_spelling e) e sound.makes read fit;
        }
