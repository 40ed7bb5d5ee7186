use Rattle.std.proofs.Common.{◌≡◌, ℕ, List, length, cond, get_or, replicate, ◌++◌, ◌∷◌, [], ap, sym, ◌∙◌, arith, rules}
use Rattle.std.proofs.lemmas.List.{get_or-replicate, length-replicate}
use Rattle.disk_model.specs.declared.overwritten.Overwritten.{Overwritten}
use Rattle.disk_model.specs.Frames.{bytes_of}
use Rattle.disk_model.specs.Crash.{put, is_pending}
use Rattle.disk_model.specs.Store.{ranges_of}
use Rattle.disk_model.proofs.StoreLemmas.{filled_more}
use Rattle.disk_model.proofs.store.fill.Goals as goal

pub loop-last-preserved : goal.loop-last-preserved
loop-last-preserved c place =
    let o = c.in-Some.last in
    let parts : c.loop-last.pending.items ≡ c.pop.new.self.items ++ o ∷ [] = search rules in
    let are : c.fill.new.self.items ≡ replicate (length o.bytes.items) c.args.byte =
    c.fill.ensures.items (λ y e. e) ∙ ap (λ (n : ℕ). replicate n c.args.byte) (omega arith) in
    let size : length c.fill.new.self.items ≡ length o.bytes.items = ap (length {A = ℕ}) are ∙ length-replicate (length o.bytes.items) c.args.byte in
    filled_more (bytes_of c.loop-last.frames) (bytes_of c.write.new.self) c.pop.new.self.items o c.fill.new.self.items c.args.byte size
    (λ i below. ap (λ (l : List ℕ). get_or l i 0) are ∙ get_or-replicate (length o.bytes.items) i c.args.byte 0 (omega arith))
    (λ p. c.in_ok-write.ensures p ∙ ap (λ (b : List ℕ). put (bytes_of c.loop-last.frames) o.at b p) c.deref.ensures.value) place
    ∙ ap (λ (os : List Overwritten). cond (is_pending (ranges_of os) place) c.args.byte (bytes_of c.loop-last.frames place)) (sym parts)
    ∙ c.loop-last.invariant place
