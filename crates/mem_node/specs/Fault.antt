-- The refusal of a memory node where its log refuses.
use Rattle.std.specs.Prelude.{Option, Some, None}
use Rattle.gate_log.specs.declared.log_fault.LogFault.{LogFault}
use Rattle.gate_log.specs.declared.log_fault.LogFault.TheVariants as log
use Rattle.mem_node.specs.declared.node_fault.NodeFault.{NodeFault}
use Rattle.mem_node.specs.declared.node_fault.NodeFault.TheVariants as node
use Rattle.mem_node.specs.declared.shut.Shut.{Shut}
use Rattle.mem_node.specs.declared.shut.Shut.TheVariants as shut

abbrev pub node_fault : LogFault → NodeFault
node_fault log.Failed = node.Down
node_fault log.Full = node.Full
node_fault (log.Damaged at) = node.Damaged at
node_fault log.NoMemory = node.NoMemory

-- why it then answers nothing until it is loaded again
abbrev pub shut_by : LogFault → Option Shut
shut_by log.Failed = Some shut.Down
shut_by log.Full = Some shut.Full
shut_by (log.Damaged at) = None
shut_by log.NoMemory = None

abbrev pub shut_fault : Shut → NodeFault
shut_fault shut.Down = node.Down
shut_fault shut.Full = node.Full
