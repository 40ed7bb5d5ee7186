-- A fault of a stream is answered where its count rose, and only there.
use Rattle.std.specs.Prelude.{◌≡◌, ℕ, Result, Ok, Err}
use Rattle.sfs_base.specs.Fault.{Rose}
use Rattle.tree_command.specs.declared.stop.Stop.{Stop}
use Rattle.tree_command.specs.declared.stop.Stop.TheVariants.{ReadFault, WriteFault, NoMemory}

-- the source's count rose where its fault is answered, and else stayed; a sink is not written to
abbrev pub CountsReads : {X : Type 0} → ℕ → ℕ → Result X Stop → Type 0
CountsReads before now (Ok x) = now ≡ before
CountsReads before now (Err ReadFault) = Rose before now
CountsReads before now (Err WriteFault) = ⊥
CountsReads before now (Err NoMemory) = now ≡ before

-- the sink's count rose where its fault is answered, and else stayed; a source is not read
abbrev pub CountsWrites : {X : Type 0} → ℕ → ℕ → Result X Stop → Type 0
CountsWrites before now (Ok x) = now ≡ before
CountsWrites before now (Err ReadFault) = ⊥
CountsWrites before now (Err WriteFault) = Rose before now
CountsWrites before now (Err NoMemory) = now ≡ before

-- both at once
abbrev pub Counts : {X : Type 0} → ℕ → ℕ → ℕ → ℕ → Result X Stop → Type 0
Counts read read' written written' (Ok x) = (read' ≡ read) × (written' ≡ written)
Counts read read' written written' (Err ReadFault) = Rose read read' × (written' ≡ written)
Counts read read' written written' (Err WriteFault) = (read' ≡ read) × Rose written written'
Counts read read' written written' (Err NoMemory) = (read' ≡ read) × (written' ≡ written)
