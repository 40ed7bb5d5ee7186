use Rattle.std.proofs.Common.{List, Option, Some, None, ◌++◌, replicate, sym, ap, ◌∙◌}
use Rattle.std.specs.Prelude.{slice_set}
use Rattle.fs_rules.specs.declared.entry.Entry.{Entry}
use Rattle.fs_rules.specs.Slots.{slot_for}
use Rattle.fs_content.proofs.SlotLemmas.{put_there, put_added}
use Rattle.fs_content.proofs.naming.put_name.Goals as goal
use Rattle.fs_content.proofs.naming.put_name.Goals.{in-Some, in-None+in_ok-empty_slots-in-None+in_ok-append-in-None}

pub returns-clause-ok : goal.returns-clause-ok
returns-clause-ok c =
    c.replace.ensures.after
    ∙ elim c.match-slot_for.branch [
      | in-Some w ↦
          ap (λ (slots : List (Option Entry)). slice_set slots c.match-slot_for.at (Some c.args.entry)) w.slots-is
          ∙ ap (λ i. slice_set c.args.slots.now i (Some c.args.entry)) w.at-is
          ∙ sym (put_there c.args.slots.now c.args.entry w.in-Some.at (ap (slot_for c.args.slots.now) (sym c.as_slice.ensures.value) ∙ sym w.in-Some.ensures))
      | in-None+in_ok-empty_slots-in-None+in_ok-append-in-None w ↦
          ap (λ (slots : List (Option Entry)). slice_set slots c.match-slot_for.at (Some c.args.entry))
          (w.slots-is ∙ w.in_ok-append-in-None.ensures.ok ∙ ap (λ (more : List (Option Entry)). c.args.slots.now ++ more) w.in_ok-empty_slots-in-None.ensures)
          ∙ ap (λ i. slice_set (c.args.slots.now ++ replicate 15 None) i (Some c.args.entry)) (w.at-is ∙ w.len-at.ensures)
          ∙ sym (put_added c.args.slots.now c.args.entry (ap (slot_for c.args.slots.now) (sym c.as_slice.ensures.value) ∙ sym w.in-None.ensures))
    ]
