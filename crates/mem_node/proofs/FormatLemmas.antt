-- What was laid out is a fresh memory node.
use Rattle.std.proofs.Common.{◌≡◌, ◌≤◌, ℕ, List, [], length, replicate, refl, sym, ap, subst, ◌∙◌, arith, inl, inr}
use Rattle.std.proofs.lemmas.List.{length-replicate, length-append}
use Rattle.node_disk.proofs.HeaderLemmas.{length-header}
use Rattle.disk_model.specs.Crash.{Content, History, LeavesOnly, Holds}
use Rattle.disk_model.proofs.MomentLemmas.{weaker_moments}
use Rattle.gate_log.proofs.LogLemmas.{holds_back}
use Rattle.mini_tx.specs.FreshImages.{fresh_image}
use Rattle.mini_tx.proofs.FreshLemmas.{length-fresh_image}
use Rattle.mem_rules.specs.declared.setup.Setup.{Setup}
use Rattle.mem_rules.specs.Fit.{IsSetup}
use Rattle.node_disk.specs.Header.{header_bytes}
use Rattle.disk_model.specs.LogBytes as log
use Rattle.gate_log.specs.declared.side.Side.{Side}
use Rattle.gate_log.specs.declared.side.Side.TheVariants.{First}
use Rattle.gate_log.specs.Boot.{side_of}
use Rattle.node_disk.specs.Half.{half_of, image_at, log_at}
use Rattle.mem_node.specs.Format.{IsFresh, IsFormatting}
use Rattle.node_disk.specs.Format.{IsLaidOut, IsLaying, front_bytes}

-- what was laid out is fresh
pub laid_is_fresh : (s : Setup) → IsSetup s → (front stored : List ℕ) → front ≡ front_bytes s → stored ≡ fresh_image s.geometry s.index → (image : Content) → IsLaidOut front stored image → IsFresh s image
laid_is_fresh s fit front stored front-is stored-is image laid =
    let page : Holds image 0 (front_bytes s) = subst (λ (b : List ℕ). Holds image 0 b) front-is laid.page in
    let first : image 0 ≡ 0 = page.each 0 (omega (arith, length-append (replicate 64 0) (header_bytes s), length-replicate {A = ℕ} 64 0)) in
    let half : First ≡ half_of image = sym (ap side_of first) in
    record {
      image = fresh_image s.geometry s.index;
      bytes = [];
      has = record {
        formatted = record { header = holds_back image 0 (replicate 64 0) (header_bytes s) page; mark = laid.mark };
        sized = length-fresh_image s.geometry s.index fit.inodes.0;
        stored = subst (λ (h : Side). Holds image (image_at s h) (fresh_image s.geometry s.index)) half (subst (λ (b : List ℕ). Holds image 4096 b) stored-is laid.half);
        log = subst (λ (h : Side). log.StandsFor image (log_at h) []) half record { bytes = record { each = λ i below. absurd (omega arith) }; closed = λ open_. let both : 0 ≡ 1 = sym laid.closed ∙ open_ in absurd (omega arith); within = omega arith };
      };
      makes = record { entries = []; read = refl; fit = tt; made = refl };
    }

pub forming : (s : Setup) → IsSetup s → (content : Content) (front stored : List ℕ) → front ≡ front_bytes s → stored ≡ fresh_image s.geometry s.index
    → (before now : History) → LeavesOnly before now (IsLaying content front stored) → LeavesOnly before now (IsFormatting s content)
forming s fit content front stored front-is stored-is before now leaves =
    weaker_moments (IsLaying content front stored) (IsFormatting s content) before now weaker leaves
  where
    weaker : (image : Content) → IsLaying content front stored image → IsFormatting s content image
    weaker image (inl alone) = inl alone
    weaker image (inr (inl unmarked)) = inr (inl unmarked)
    weaker image (inr (inr laid)) = inr (inr (laid_is_fresh s fit front stored front-is stored-is image laid))

pub front_short : (s : Setup) (front : List ℕ) → front ≡ front_bytes s → length front ≤ 128
front_short s front is =
    omega (arith, ap (length {A = ℕ}) is, length-append (replicate 64 0) (header_bytes s), length-replicate {A = ℕ} 64 0, length-header s)

pub image_small : (s : Setup) → IsSetup s → (stored : List ℕ) → stored ≡ fresh_image s.geometry s.index → length stored ≤ 69214208
image_small s fit stored is =
    let blocks = fit.blocks.1 in
    let inodes = fit.inodes.1 in
    omega (arith, ap (length {A = ℕ}) is, length-fresh_image s.geometry s.index fit.inodes.0)

-- the half in use is the first one
pub laid_in_first : (s : Setup) (front stored : List ℕ) → front ≡ front_bytes s → (image : Content) → IsLaidOut front stored image → half_of image ≡ First
laid_in_first s front stored is image laid =
    let page : Holds image 0 (front_bytes s) = subst (λ (b : List ℕ). Holds image 0 b) is laid.page in
    let first : image 0 ≡ 0 = page.each 0 (omega (arith, length-append (replicate 64 0) (header_bytes s), length-replicate {A = ℕ} 64 0)) in
    ap side_of first
