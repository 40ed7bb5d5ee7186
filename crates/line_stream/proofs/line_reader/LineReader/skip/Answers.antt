use Rattle.std.proofs.Common.{ℕ, List, ◌<◌, ◌≤◌, ◌-◌, length, drop, sym, ap, ◌∙◌, arith}
use Rattle.line_stream.specs.Reading.{Reading}
use Rattle.line_stream.proofs.WindowLemmas.{window_rest, length_window}
use Rattle.line_stream.proofs.line_reader.LineReader.skip.Goals as goal

pub returns : goal.returns
returns c =
    let some : 0 < length c.args.self.now.pending = c.requires in
    let same = ap (λ (v : Reading). length v.pending) c.self.view_is in
    let wide = length_window c.self.inside.piece.items c.self.inside.from c.self.inside.to c.self.invariant.0 (omega (arith, c.self.invariant.1, c.self.inside.piece.ok.0)) in
    let fits : 1 ≤ c.self.inside.to - c.self.inside.from = omega (arith, some, same, wide) in
    ap (λ (p : List ℕ). record { line = c.self.inside.line.items; pending = p }) (sym (window_rest c.self.inside.piece.items c.self.inside.from c.self.inside.to 1 fits))
    ∙ ap (λ (v : Reading). record { line = v.line; pending = drop 1 v.pending }) c.self.view_is
