use Rattle.std.proofs.Common.{◌≡◌, length, sym, ap, subst, ◌∙◌, arith}
use Rattle.disk_model.specs.Calls.{IsReady}
use Rattle.disk_model.specs.Crash.{History, Holds}
use Rattle.disk_model.specs.Health.{Fell, Passed, Speaks}
use Rattle.disk_model.proofs.HealthLemmas.{fell_behind, passed_both, speaks_passed}
use Rattle.mem_node.specs.declared.mem_node.MemNode.{MemNode}
use Rattle.mem_rules.specs.Fit.{size_of}
use Rattle.node_disk.specs.Header.{IsFormatted}
use Rattle.gate_log.specs.declared.side.Side.{Side}
use Rattle.mem_node.specs.Disk.{IsBroken, IsBrokenLog}
use Rattle.node_disk.specs.Half.{image_at}
use Rattle.mem_node.specs.Node.{IsOn}
use Rattle.mem_node.proofs.LoadLemmas.{load_refused, all_sound, ok_weaker}
use Rattle.mem_node.proofs.mem_node.MemNode.load.Goals as goal

pub returns-in-Ok-clause-sound : goal.returns-in-Ok-clause-sound
returns-in-Ok-clause-sound g c =
    let sized : length c.in-Ok.stored.image.items ≡ size_of c.args.setup = omega (arith, c.in-Ok.stored.image.ok, c.in-Ok.ensures.sized) in
    let speaks = λ (told : Speaks g.D.Disk.tells g.D.Disk.health c.args.disk). speaks_passed g.D.Disk.tells g.D.Disk.health 0 c.args.disk c.read_stored.new.disk
    c.in-Ok.ensures.passed c.in-Ok.ensures.still told in
    all_sound g.D.Disk.tells g.D.Disk.history g.D.Disk.health c.args.setup (g.D.Disk.history c.args.disk).now.content c.in-Ok.stored.image.items c.load_log.result
    (Speaks g.D.Disk.tells g.D.Disk.health c.args.disk) (IsReady g.D.Disk.tells g.D.Disk.history g.D.Disk.health c.args.disk) c.in-Ok.stored.half (λ ready. ready.speaks)
    c.in-Ok.ensures.formatted sized c.in-Ok.ensures.half c.in-Ok.ensures.image c.load_log.ensures.based
    (ok_weaker c.load_log.result
    (λ (node : MemNode g.row.D.Denot g.D.Disk). IsReady g.D.Disk.tells g.D.Disk.history g.D.Disk.health c.read_stored.new.disk
    → IsOn g.D.Disk.tells g.D.Disk.history g.D.Disk.health node c.in-Ok.stored.image.items)
    (λ (node : MemNode g.row.D.Denot g.D.Disk). IsReady g.D.Disk.tells g.D.Disk.history g.D.Disk.health c.args.disk
    → IsOn g.D.Disk.tells g.D.Disk.history g.D.Disk.health node c.in-Ok.stored.image.items)
    (λ node on ready. on record {
      speaks = speaks ready.speaks;
      safe = ap (λ (h : History). h.now.pending) (c.in-Ok.ensures.kept ready.speaks) ∙ ready.safe;
    })
    c.load_log.ensures.made)
    c.load_log.ensures.setup
    (ok_weaker c.load_log.result
    (λ (node : MemNode g.row.D.Denot g.D.Disk). Speaks g.D.Disk.tells g.D.Disk.health c.read_stored.new.disk
    → g.D.Disk.tells node.log.disk × (g.D.Disk.history node.log.disk ≡ g.D.Disk.history c.read_stored.new.disk))
    (λ (node : MemNode g.row.D.Denot g.D.Disk). Speaks g.D.Disk.tells g.D.Disk.health c.args.disk → (g.D.Disk.history node.log.disk).now.content ≡ (g.D.Disk.history c.args.disk).now.content)
    (λ node same told. ap (λ (h : History). h.now.content) ((same (speaks told)).1 ∙ c.in-Ok.ensures.kept told))
    c.load_log.ensures.same)

pub returns-in-Ok-clause-refused : goal.returns-in-Ok-clause-refused
returns-in-Ok-clause-refused g c =
    let sized : length c.in-Ok.stored.image.items ≡ size_of c.args.setup = omega (arith, c.in-Ok.stored.image.ok, c.in-Ok.ensures.sized) in
    let before = g.D.Disk.health c.args.disk in
    let read = g.D.Disk.health c.read_stored.new.disk in
    load_refused c.load_log.result
    (λ d. Fell 0 read (g.D.Disk.health d)) (λ d. Passed 0 read (g.D.Disk.health d))
    (λ d. Fell 0 before (g.D.Disk.health d)) (λ d. Passed 0 before (g.D.Disk.health d))
    (Speaks g.D.Disk.tells g.D.Disk.health c.args.disk → IsFormatted c.args.setup (g.D.Disk.history c.args.disk).now.content → ⊥)
    (λ at. IsReady g.D.Disk.tells g.D.Disk.history g.D.Disk.health c.read_stored.new.disk
    → IsBrokenLog c.args.setup (g.D.Disk.history c.read_stored.new.disk).now.content c.in-Ok.stored.half c.in-Ok.stored.image.items at)
    (λ at. IsReady g.D.Disk.tells g.D.Disk.history g.D.Disk.health c.args.disk → IsBroken c.args.setup (g.D.Disk.history c.args.disk).now.content at)
    (λ d fell. fell_behind 0 0 before read (g.D.Disk.health d) c.in-Ok.ensures.passed fell)
    (λ d passed. passed_both 0 0 before read (g.D.Disk.health d) c.in-Ok.ensures.passed passed)
    (λ at broken ready.
    let same = c.in-Ok.ensures.kept ready.speaks in
    let own = broken record {
      speaks = speaks_passed g.D.Disk.tells g.D.Disk.health 0 c.args.disk c.read_stored.new.disk c.in-Ok.ensures.passed c.in-Ok.ensures.still ready.speaks;
      safe = ap (λ (h : History). h.now.pending) same ∙ ready.safe;
    } in
    let content = (g.D.Disk.history c.args.disk).now.content in
    let used = sym (c.in-Ok.ensures.half ready.speaks) in (
      c.in-Ok.ensures.formatted ready.speaks,
      (
        c.in-Ok.stored.image.items,
        sized,
        subst (λ (h : Side). Holds content (image_at c.args.setup h) c.in-Ok.stored.image.items) used (c.in-Ok.ensures.image ready.speaks),
        subst (λ (h : Side). IsBrokenLog c.args.setup content h c.in-Ok.stored.image.items at) used
            (subst (λ (h : History). IsBrokenLog c.args.setup h.now.content c.in-Ok.stored.half c.in-Ok.stored.image.items at) same own),
      ),
    ))
    c.load_log.ensures.refused
