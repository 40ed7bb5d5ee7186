use Rattle.std.proofs.Common.{◌≡◌, List, ◌++◌, ◌∷◌, [], ap, sym, ◌∙◌, rules}
use Rattle.disk_model.specs.declared.overwritten.Overwritten.{Overwritten}
use Rattle.disk_model.specs.Frames.{bytes_of}
use Rattle.disk_model.specs.Crash.{put}
use Rattle.disk_model.specs.Store.{undone}
use Rattle.disk_model.proofs.StoreLemmas.{undone_alike, undone_more}
use Rattle.disk_model.proofs.store.undo.Goals as goal

pub loop-last-preserved : goal.loop-last-preserved
loop-last-preserved c place =
    let o = c.in-Some.last in
    let parts : c.loop-last.pending.items ≡ c.pop.new.self.items ++ o ∷ [] = search rules in
    undone_alike (bytes_of c.write.new.self) (put (bytes_of c.loop-last.frames) o.at o.bytes.items) c.pop.new.self.items (λ p. search rules) place
    ∙ sym (undone_more (bytes_of c.loop-last.frames) c.pop.new.self.items o place)
    ∙ ap (λ (os : List Overwritten). undone (bytes_of c.loop-last.frames) os place) (sym parts)
    ∙ c.loop-last.invariant place
