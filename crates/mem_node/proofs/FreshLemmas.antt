-- A disk that was formatted, with a log without entries, is that of a fresh memory node.
use Rattle.std.proofs.Common.{◌≡◌, ℕ, List, [], sym, ap, subst, ◌∙◌}
use Rattle.disk_model.specs.Crash.{Content, History, Holds}
use Rattle.disk_model.specs.Health.{Health}
use Rattle.disk_model.specs.LogBytes as log
use Rattle.gate_log.specs.declared.log.Log.{Log}
use Rattle.gate_log.specs.declared.side.Side.{Side}
use Rattle.gate_log.specs.declared.side.Side.TheVariants.{First}
use Rattle.gate_log.specs.Log.{IsLog, base_of}
use Rattle.gate_log.proofs.LawLemmas.{logs_one}
use Rattle.mini_tx.specs.FreshImages.{fresh_image}
use Rattle.mem_rules.specs.declared.setup.Setup.{Setup}
use Rattle.mem_rules.specs.State.{State, opened}
use Rattle.mem_node.specs.Disk.{Has, Makes}
use Rattle.mem_node.specs.Format.{IsFresh}
use Rattle.mem_node.specs.Node.{IsSoundOn}
use Rattle.node_disk.specs.Half.{half_of, log_at}

pub fresh_sound : {D : Type 0} (tells : D → Type 0) (history : D → History) (health : D → Health) (s own : Setup) (content : Content) (l : Log D) (state : State)
    → IsFresh s content → half_of content ≡ First → base_of l ≡ log_at First → own ≡ s → state ≡ opened s.geometry.nodes (fresh_image s.geometry s.index)
    → (history l.disk).now.content ≡ content → IsLog tells history health l []
    → (image : List ℕ) × ((bytes : List (List ℕ)) × IsSoundOn tells history health own l image bytes state)
fresh_sound tells history health s own content l state fresh half based own_is state_is same logged = (
  fresh.image,
  (
    [],
    subst (λ (t : Setup). IsSoundOn tells history health t l fresh.image [] state) (sym own_is) (record {
      logged = logged;
      half = based ∙ ap log_at (sym half) ∙ ap (λ (c : Content). log_at (half_of c)) (sym same);
      has = subst (λ (c : Content). Has s c fresh.image []) (sym same) (subst (λ (bs : List (List ℕ)). Has s content fresh.image bs) empty fresh.has);
      makes = subst (λ (t : State). Makes s fresh.image [] t) (sym state_is)
          (subst (λ (bs : List (List ℕ)). Makes s fresh.image bs (opened s.geometry.nodes (fresh_image s.geometry s.index))) empty fresh.makes);
    }),
  ),
)
  where
    there : log.StandsFor content (log_at First) []
    there = subst (λ (n : ℕ). log.StandsFor content n []) based (subst (λ (c : Content). log.StandsFor c (base_of l) []) same logged.stands)

    empty : fresh.bytes ≡ []
    empty = logs_one content (log_at First) fresh.bytes [] (subst (λ (h : Side). log.StandsFor content (log_at h) fresh.bytes) half fresh.has.log) there
