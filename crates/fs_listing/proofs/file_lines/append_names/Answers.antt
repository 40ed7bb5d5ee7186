-- A slot in use has one line more, and an empty one none.
use Rattle.std.proofs.Common.{ℕ, ◌+◌, List, [], ◌∷◌, ◌++◌, drop, Option, ap, ◌∙◌}
use Rattle.fs_rules.specs.declared.entry.Entry.{Entry}
use Rattle.fs_listing.specs.Listing.{name_lines}
use Rattle.fs_listing.proofs.NameLemmas.{more_names, no_name, all_names}
use Rattle.fs_listing.proofs.file_lines.append_names.Goals as goal
use Rattle.fs_listing.proofs.file_lines.append_names.Goals.{in-Some+in_ok-name_line+in_ok-push, in_default}

pub loop-slot-preserved : goal.loop-slot-preserved
loop-slot-preserved c =
    let slots = c.as_slice-entry-items.result.now in
    elim c.match-entry.branch [
      | in-Some+in_ok-name_line+in_ok-push w ↦
          more_names c.loop-slot.lines c.match-entry.lines _ c.args.directory c.loop-slot.slot slots c.entry-item.result w.in-Some.entry
          c.loop-slot-test.true c.entry-item.is w.in-Some.is (w.lines-is ∙ w.in_ok-push.ensures.ok ∙ ap (λ (line : List ℕ). c.loop-slot.lines ++ line ∷ []) w.in_ok-name_line.ensures) c.loop-slot.invariant
      | in_default w ↦
          ap (λ (lines : List (List ℕ)). lines ++ name_lines c.args.directory (c.loop-slot.slot + 1) (drop (c.loop-slot.slot + 1) slots)) w.lines-is
          ∙ no_name c.loop-slot.lines _ c.args.directory c.loop-slot.slot slots c.entry-item.result c.loop-slot-test.true c.entry-item.is w.in_default.not-Some c.loop-slot.invariant
    ]

pub returns : goal.returns
returns c =
    all_names c.loop-slot.lines _ c.args.directory c.loop-slot.slot c.as_slice-entry-items.result.now c.loop-slot-test.false c.loop-slot.invariant
    ∙ ap (λ (slots : List (Option Entry)). c.args.lines.now ++ name_lines c.args.directory 0 slots) c.as_slice-entry-items.ensures.value
