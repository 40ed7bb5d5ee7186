-- What formatting leaves.
use Rattle.std.specs.Prelude.{◌≢◌, ◌⊎◌}
use Rattle.disk_model.specs.Crash.{Content}
use Rattle.mini_tx.specs.FreshImages.{fresh_image}
use Rattle.mem_node.specs.declared.node_fault.NodeFault.{NodeFault}
use Rattle.mem_node.specs.declared.node_fault.NodeFault.TheVariants.{Down, Full, Other, Damaged, NoMemory}
use Rattle.mem_rules.specs.declared.setup.Setup.{Setup}
use Rattle.mem_rules.specs.State.{opened}
use Rattle.node_disk.specs.Format.{IsMarkAlone}
use Rattle.mem_node.specs.Disk.{StandsFor}

-- the disk stands for a memory node that took no entry yet, with the fresh image
abbrev pub IsFresh : Setup → Content → Type 0
IsFresh s content = StandsFor s content (opened s.geometry.nodes (fresh_image s.geometry s.index))

-- what a crash in formatting leaves: a disk that is as it was but for its mark, one that is not formatted, or a fresh one
abbrev pub IsFormatting : Setup → Content → Content → Type 0
IsFormatting s content image = IsMarkAlone content image ⊎ ((image 128 ≢ 1) ⊎ IsFresh s image)

-- why a disk was not formatted: it failed, or there was no memory, and it is as it was
abbrev pub IsFormatFault : NodeFault → Type 0 → Type 0 → Type 0
IsFormatFault Down fell same = fell
IsFormatFault Full fell same = ⊥
IsFormatFault Other fell same = ⊥
IsFormatFault (Damaged at) fell same = ⊥
IsFormatFault NoMemory fell same = same

-- why there is no memory node of a disk that was formatted: the disk failed, or has other bytes than were written, or
-- there was no memory
abbrev pub IsFreshFault : NodeFault → Type 0 → Type 0
IsFreshFault Down fell = fell
IsFreshFault Full fell = ⊥
IsFreshFault Other fell = ⊥
IsFreshFault (Damaged at) fell = Unit {0}
IsFreshFault NoMemory fell = Unit {0}
