-- The notes of all nodes.
use Rattle.std.specs.Prelude.{List}
use Rattle.cluster_notes.specs.declared.notes.Notes as declared
use Rattle.cluster_notes.specs.Notes.{Noted}

abbrev pub notes_in : declared.Notes → List Noted
notes_in notes = notes.notes.items
