-- The entries of a log, read one after another.
use Rattle.std.proofs.Common.{◌≡◌, ℕ, ◌+◌, ◌-◌, Bool, cond, List, [], ◌∷◌, ◌++◌, length, take, drop, length-drop, sym, ap, subst, ◌∙◌, arith, inl, inr}
use Rattle.std.proofs.lemmas.List.{get_or-take, get_or-drop, length-take}
use Rattle.std.proofs.lemmas.Bool.{cases_lt, le-leb, lt-leb}
use Rattle.sfs_xdr.specs.Items.{word}
use Rattle.disk_model.specs.Crash.{Content, Holds}
use Rattle.disk_model.specs.LogBytes.{entry_bytes, log_bytes}
use Rattle.gate_log.specs.declared.window.Window.{Window}
use Rattle.gate_log.specs.Window.{seen_from, IsCurrent}
use Rattle.gate_log.proofs.LogLemmas.{holds_both, holds_one, log_bytes_more, length-log_bytes-more}

-- an open gate, a length and that many bytes are an entry
pub entry_found : (content : Content) (gate place size : ℕ) (bytes : List ℕ) → content gate ≡ 1 → Holds content (gate + 1) (word size) → place ≡ gate + 5 → Holds content place bytes → length bytes ≡ size
    → Holds content gate (entry_bytes bytes)
entry_found content gate place size bytes opened spelled there body is =
    holds_one content gate 1 (word (length bytes) ++ bytes) opened
    (holds_both content (gate + 1) (word (length bytes)) bytes
    (subst (λ (n : ℕ). Holds content (gate + 1) (word n)) (sym is) spelled)
    (subst (λ (p : ℕ). Holds content p bytes) (there ∙ behind) body))
  where
    behind : gate + 5 ≡ gate + 1 + length (word (length bytes))
    behind = omega arith

-- what was read so far
pub record IsRead (content : Content) (base distance : ℕ) (entries : List (List ℕ)) : Type 0 where
  pub bytes : Holds content base (log_bytes entries)
  pub ends : distance ≡ length (log_bytes entries)

-- one entry more
pub read_more : (content : Content) (base distance : ℕ) (entries : List (List ℕ)) (entry : List ℕ) → IsRead content base distance entries
    → Holds content (base + distance) (entry_bytes entry) → IsRead content base (distance + 5 + length entry) (entries ++ entry ∷ [])
read_more content base distance entries entry so_far next = record {
  bytes = subst (Holds content base) (sym (log_bytes_more entries entry))
      (holds_both content base (log_bytes entries) (entry_bytes entry) so_far.bytes (subst (λ (n : ℕ). Holds content (base + n) (entry_bytes entry)) so_far.ends next));
  ends = omega (arith, so_far.ends, length-log_bytes-more entries entry);
}

-- ---- bytes that were read

pub holds_drop : (content : Content) (at k : ℕ) (bytes : List ℕ) → Holds content at bytes → Holds content (at + k) (drop k bytes)
holds_drop content at k bytes holds = record {
  each = λ i below. ap content (omega arith) ∙ holds.each (k + i) (omega (arith, length-drop k bytes)) ∙ sym (get_or-drop k bytes i 0);
}

pub holds_take : (content : Content) (at n : ℕ) (bytes : List ℕ) → Holds content at bytes → Holds content at (take n bytes)
holds_take content at n bytes holds = record {
  each = λ i below.
      let size = length-take n bytes in
      holds.each i (omega (arith, size)) ∙ sym (get_or-take n bytes i 0 (omega (arith, size)));
}

-- what was read from a later place on
pub holds_seen : (content : Content) (window : Window) (place : ℕ) → IsCurrent content window → Holds content place (seen_from window place)
holds_seen content window place current = elim (cases_lt place window.at) [
  | inl before ↦
      subst (λ (b : Bool). Holds content place (cond b (drop (place - window.at) window.bytes.items) [])) (sym (lt-leb window.at place before))
      record { each = λ i below. absurd (omega arith) }
  | inr behind ↦
      subst (λ (b : Bool). Holds content place (cond b (drop (place - window.at) window.bytes.items) [])) (sym (le-leb window.at place behind))
      (subst (λ (p : ℕ). Holds content p (drop (place - window.at) window.bytes.items)) (omega arith)
      (holds_drop content window.at (place - window.at) window.bytes.items current))
]
