-- What is found on a disk that is loaded.
use Rattle.std.proofs.Common.{◌≡◌, ℕ, Bool, List, length, get_or, Result, Ok, Err, sym, ap, subst, ◌∙◌, arith}
use Rattle.std.specs.Prelude.{◌↔◌, IsTrue, IfOk, IfErr}
use Rattle.std.proofs.lemmas.Grind.{same_number_lists}
use Rattle.disk_model.specs.Crash.{Content, History, Holds}
use Rattle.disk_model.specs.declared.disk.Disk.{Ghosts}
use Rattle.disk_model.specs.Health.{Health}
use Rattle.mem_node.specs.declared.mem_node.MemNode.{MemNode}
use Rattle.mem_node.specs.declared.node_fault.NodeFault.{NodeFault}
use Rattle.mem_node.specs.declared.node_fault.NodeFault.TheVariants.{Down, Full, Other, Damaged, NoMemory}
use Rattle.mem_rules.specs.declared.setup.Setup.{Setup}
use Rattle.node_disk.specs.Header.{header_bytes, IsFormatted}
use Rattle.gate_log.specs.declared.side.Side.{Side}
use Rattle.mem_node.specs.Disk.{IsReplayFault, IsLoadFault}
use Rattle.node_disk.specs.Half.{half_of, image_at, log_at}
use Rattle.mem_rules.specs.Fit.{size_of}
use Rattle.mem_node.specs.Node.{IsOn, IsOnDisk}
use Rattle.node_disk.proofs.HeaderLemmas.{length-header}
use Rattle.disk_model.specs.LogBytes as log

-- the header and the mark that were read
pub formatted_iff : (s : Setup) (content : Content) (found wanted mark : List ℕ) (b : Bool) → Holds content 64 found → length found ≡ 32 → Holds content 128 mark → length mark ≡ 1
    → wanted ≡ header_bytes s → IsTrue b ↔ ((found ≡ wanted) × (get_or mark 0 0 ≡ 1)) → IsTrue b ↔ IsFormatted s content
formatted_iff s content found wanted mark b held len marked one is iff = (
  λ t.
      let both = iff.0 t in
      record { header = subst (Holds content 64) (both.0 ∙ is) held; mark = marked.each 0 (omega arith) ∙ both.1 },
  λ f. iff.1 (
    same_number_lists found (header_bytes s) (omega (arith, length-header s))
        (λ k below. sym (held.each k below) ∙ f.header.each k (omega (arith, length-header s)))
        ∙ sym is,
    sym (marked.each 0 (omega arith)) ∙ f.mark,
  ),
)

-- why a replay was refused, as a refusal of the whole
load_fault : (fault : NodeFault) (P Q : ℕ → Type 0) (fell passed other : Type 0) → passed → ((at : ℕ) → P at → Q at) → IsReplayFault fault P → IsLoadFault fault fell passed other Q
load_fault Down P Q fell passed other calm weaker is = absurd is
load_fault Full P Q fell passed other calm weaker is = absurd is
load_fault Other P Q fell passed other calm weaker is = absurd is
load_fault (Damaged at) P Q fell passed other calm weaker is = (calm, weaker at is)
load_fault NoMemory P Q fell passed other calm weaker is = calm

pub replay_refused : {X D : Type 0} (result : Result X (NodeFault × D)) (own : D) (P Q : ℕ → Type 0) (fell passed : D → Type 0) (other : Type 0) → passed own → ((at : ℕ) → P at → Q at)
    → IfErr result (λ (r : NodeFault × D). r.1 ≡ own)
    → IfErr result (λ (r : NodeFault × D). IsReplayFault r.0 P) → IfErr result (λ (r : NodeFault × D). IsLoadFault r.0 (fell r.1) (passed r.1) other Q)
replay_refused (Ok x) own P Q fell passed other calm weaker back is = tt
replay_refused (Err r) own P Q fell passed other calm weaker back is = load_fault r.0 P Q (fell r.1) (passed r.1) other (subst passed (sym back) calm) weaker is

weaker_fault : (fault : NodeFault) (before was failure passed other : Type 0) (P Q : ℕ → Type 0) → (before → failure) → (was → passed) → ((at : ℕ) → P at → Q at)
    → IsLoadFault fault before was ⊥ P → IsLoadFault fault failure passed other Q
weaker_fault Down before was failure passed other P Q fell calm weaker is = fell is
weaker_fault Full before was failure passed other P Q fell calm weaker is = absurd is
weaker_fault Other before was failure passed other P Q fell calm weaker is = absurd is.1
weaker_fault (Damaged at) before was failure passed other P Q fell calm weaker is = (calm is.0, weaker at is.1)
weaker_fault NoMemory before was failure passed other P Q fell calm weaker is = calm is

pub load_refused : {X D : Type 0} (result : Result X (NodeFault × D)) (before was failure passed : D → Type 0) (other : Type 0) (P Q : ℕ → Type 0) → ((d : D) → before d → failure d)
    → ((d : D) → was d → passed d) → ((at : ℕ) → P at → Q at)
    → IfErr result (λ (r : NodeFault × D). IsLoadFault r.0 (before r.1) (was r.1) ⊥ P) → IfErr result (λ (r : NodeFault × D). IsLoadFault r.0 (failure r.1) (passed r.1) other Q)
load_refused (Ok x) before was failure passed other P Q fell calm weaker is = tt
load_refused (Err r) before was failure passed other P Q fell calm weaker is =
    weaker_fault r.0 (before r.1) (was r.1) (failure r.1) (passed r.1) other P Q (fell r.1) (calm r.1) weaker is

-- what was found makes a sound memory node
module _ {D : Type 0} {G : Ghosts D} (tells : D → Type 0) (history : D → History) (health : D → Health) (s : Setup) (content : Content) (image : List ℕ) where
  sound_of : (node : MemNode D G) (half : Side) → IsFormatted s content → length image ≡ size_of s → half_of content ≡ half
      → Holds content (image_at s half) image → node.log.extent.base ≡ log_at half → node.memory.setup ≡ s
      → (history node.log.disk).now.content ≡ content → IsOn tells history health node image → IsOnDisk tells history health node
  sound_of node half formatted sized used stored based own same on =
      let there = half_of (history node.log.disk).now.content in
      let is : half ≡ there = sym used ∙ ap half_of (sym same) in
      let at : image_at s half ≡ image_at node.memory.setup there =
      ap (λ (h : Side). image_at s h) is ∙ ap (λ (t : Setup). image_at t there) (sym own) in (
        image,
        (
          on.bytes,
          record {
            logged = on.logged;
            half = based ∙ ap log_at is;
            has = record {
              formatted = subst (λ (c : Content). IsFormatted node.memory.setup c) (sym same) (subst (λ (t : Setup). IsFormatted t content) (sym own) formatted);
              sized = sized ∙ ap size_of (sym own);
              stored = subst (λ (n : ℕ). Holds (history node.log.disk).now.content n image) at (subst (λ (c : Content). Holds c (image_at s half) image) (sym same) stored);
              log = subst (λ (n : ℕ). log.StandsFor (history node.log.disk).now.content n on.bytes) (based ∙ ap log_at is) on.logged.stands;
            };
            makes = on.makes;
          },
        ),
      )

  pub all_sound : {E : Type 0} (result : Result (MemNode D G) E) (Told Ready : Type 0) (half : Side) → (Ready → Told) → (Told → IsFormatted s content) → length image ≡ size_of s
      → (Told → half_of content ≡ half) → (Told → Holds content (image_at s half) image) → IfOk result (λ (node : MemNode D G). node.log.extent.base ≡ log_at half)
      → IfOk result (λ (node : MemNode D G). Ready → IsOn tells history health node image) → IfOk result (λ (node : MemNode D G). node.memory.setup ≡ s)
      → IfOk result (λ (node : MemNode D G). Told → (history node.log.disk).now.content ≡ content)
      → IfOk result (λ (node : MemNode D G). Ready → IsOnDisk tells history health node)
  all_sound (Ok node) Told Ready half tells_ formatted sized used stored based on own same =
      λ ready. sound_of node half (formatted (tells_ ready)) sized (used (tells_ ready)) (stored (tells_ ready)) based own (same (tells_ ready)) (on ready)
  all_sound (Err e) Told Ready half tells_ formatted sized used stored based on own same = tt

pub ok_weaker : {X E : Type 0} (result : Result X E) (P Q : X → Type 0) → ((x : X) → P x → Q x) → IfOk result P → IfOk result Q
ok_weaker (Ok x) P Q weaker is = weaker x is
ok_weaker (Err e) P Q weaker is = tt
