use Rattle.std.proofs.Common.{◌≡◌, drop}
use Rattle.cluster_notes.specs.Notes.{look_at}
use Rattle.cluster_notes.proofs.note.place_of.Given as goal

-- what is found among the looks that are left is found among all
abbrev pub invariant-loop-look : goal.invariant-loop-look
invariant-loop-look l = look_at (drop l.look-index l.looks) l.message ≡ look_at l.looks l.message
